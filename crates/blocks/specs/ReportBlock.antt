-- The report that a block of bytes spells, and which blocks are refused (document 01, "Session" and refusal 2). Assumes nothing.
use Rattle.std.specs.Prelude.{ℕ, Bool, List, eqb, length, drop}
use Rattle.bits.specs.LittleEndian.{little_endian}
use Rattle.regs.specs.Registers.{of_list}
use Rattle.record.specs.Runs.{numbers}
use Rattle.vcpu_exit.specs.declared.CpuidWords.{CpuidWords}
use Rattle.vcpu_exit.specs.declared.Report.{Report}
use Rattle.blocks.specs.ReportLayout as Layout

unfoldable pub cpuid_of : List ℕ → CpuidWords
cpuid_of b =
    record {
      eax = little_endian 4 (drop Layout.CPUID_EAX b);
      ebx = little_endian 4 (drop Layout.CPUID_EBX b);
      ecx = little_endian 4 (drop Layout.CPUID_ECX b);
      edx = little_endian 4 (drop Layout.CPUID_EDX b);
    }

unfoldable pub report_of : List ℕ → Report
report_of b =
    record {
      regs = of_list (numbers 8 16 (drop Layout.REGS b));
      rip = little_endian 8 (drop Layout.RIP b);
      rsp = little_endian 8 (drop Layout.RSP b);
      rflags = little_endian 8 (drop Layout.RFLAGS b);
      interruptibility = little_endian 4 (drop Layout.INTERRUPTIBILITY b);
      cr0 = little_endian 8 (drop Layout.CR0 b);
      cr3 = little_endian 8 (drop Layout.CR3 b);
      cr4 = little_endian 8 (drop Layout.CR4 b);
      efer = little_endian 8 (drop Layout.EFER b);
      csbase = little_endian 8 (drop Layout.CS_BASE b);
      csrights = little_endian 4 (drop Layout.CS_RIGHTS b);
      ssrights = little_endian 4 (drop Layout.SS_RIGHTS b);
      reason = little_endian 4 (drop Layout.REASON b);
      qualification = little_endian 8 (drop Layout.QUALIFICATION b);
      length = little_endian 4 (drop Layout.INSTRUCTION_LENGTH b);
      interruption = little_endian 4 (drop Layout.INTERRUPTION b);
      code = little_endian 4 (drop Layout.ERROR_CODE b);
      cpuid = cpuid_of b;
    }

-- 2 is its negation: a wrong length
abbrev pub block_accepted : List ℕ → Bool
block_accepted b = eqb (length b) Layout.LENGTH
