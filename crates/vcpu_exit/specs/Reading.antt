-- What a report's words say (document 01, "Session" and "Where the Rust is followed against the manual"). Assumes nothing.
use Rattle.std.specs.Prelude.{ℕ, ◌+◌, ◌-◌, ◌%◌, ◌^◌, Bool, cond, ◌&&◌, ◌||◌, eqb, leb, ltb, get_or}
use Rattle.bits.specs.Words.{bit, low32, join32}
use Rattle.regs.specs.Registers.{list_of}
use Rattle.regs.specs.declared.GeneralRegisters.{GeneralRegisters}
use Rattle.definitions.specs.VmxExitReason as VmxExitReason
use Rattle.vmcs.specs.ExitInfo.{exit_info, cr_access_info}
use Rattle.vmcs.specs.Flags.Cr0Flags as Cr0Flags
use Rattle.vcpu_exit.specs.declared.Report.{Report}

-- the basic reason, and whether the entry failed (SDM 3C, 25.9.1)
abbrev pub reason_of : Report → ℕ
reason_of r = (exit_info r.reason).exit_reason

abbrev pub failed : Report → Bool
failed r = (exit_info r.reason).entry_failure

-- ECX is the MSR of an x2APIC register, 0x800 to 0x8FF (SDM 3A, 11.12.1.2)
unfoldable pub is_apic : ℕ → Bool
is_apic rcx = leb 0x800 (low32 rcx) && leb (low32 rcx) 0x8FF

-- EDX:EAX
abbrev pub read_edx_eax : GeneralRegisters → ℕ
read_edx_eax g = join32 (low32 g.rdx) (low32 g.rax)

-- ---- accesses to control registers (SDM 3C, table 28-3)

-- the register that an instruction numbers 0 to 15: 4 is RSP
unfoldable pub register_of : GeneralRegisters → ℕ → ℕ → ℕ
register_of g rsp index = cond (eqb index 4) rsp (get_or (list_of g) index 0)

-- what a move brings
unfoldable pub moved_value : Report → ℕ
moved_value r = register_of r.regs r.rsp (cr_access_info r.qualification).gpr

-- access type 0, a move to the register n
unfoldable pub is_move_to : Report → ℕ → Bool
is_move_to r n = eqb (cr_access_info r.qualification).access_type 0 && eqb (cr_access_info r.qualification).cr_number n

-- a move to CR0 of a value with PG
unfoldable pub turns_paging_on : Report → Bool
turns_paging_on r = eqb (reason_of r) VmxExitReason.CR_ACCESS && is_move_to r 0 && bit Cr0Flags.PAGING (moved_value r)

-- ---- RIP

-- by how much it advances: CPUID 2, a move to CR0 or CR4 3, VMCALL and I/O the low 8 bits of the length, RDMSR and WRMSR of an APIC register 2, XSETBV 3
unfoldable pub advance_to : ℕ → Report → ℕ
advance_to reason r =
    cond (eqb reason VmxExitReason.CPUID) 2
    (cond (eqb reason VmxExitReason.CR_ACCESS) 3
    (cond (eqb reason VmxExitReason.VMCALL || eqb reason VmxExitReason.IO_INSTRUCTION) (r.length % 2 ^ 8)
    (cond ((eqb reason VmxExitReason.MSR_READ || eqb reason VmxExitReason.MSR_WRITE) && is_apic r.regs.rcx) 2
    (cond (eqb reason VmxExitReason.XSETBV) 3 0))))

abbrev pub advance_of : Report → ℕ
advance_of r = advance_to (reason_of r) r

-- the sum passes 2^64 - 1
unfoldable pub past_end : Report → Bool
past_end r = ltb (2 ^ 64 - 1) (r.rip + advance_of r)
