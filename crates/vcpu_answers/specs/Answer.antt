-- What the host is to do after an exit (document 01, "Session"; `run`). Assumes nothing.
use Rattle.std.specs.Prelude.{ℕ, ◌%◌, ◌^◌, Bool, cond, ◌&&◌, ◌||◌, List, [], ◌∷◌, eqb}
use Rattle.bits.specs.Words.{low32}
use Rattle.regs.specs.declared.GeneralRegisters.{GeneralRegisters}
use Rattle.definitions.specs.VmxExitReason as VmxExitReason
use Rattle.vmcs.specs.ExitInfo.{interrupt_exit_info, io_exit_info}
use Rattle.vmcs.specs.declared.exit_info.VmxIoExitInfo.{VmxIoExitInfo}
use Rattle.vcpu_exit.specs.Reading.{reason_of, is_apic, read_edx_eax}
use Rattle.vcpu_exit.specs.declared.Report.{Report}
use Rattle.vcpu_answers.specs.declared.AxVCpuExitReason.{AxVCpuExitReason}
use Rattle.vcpu_answers.specs.declared.AxVCpuExitReason.TheVariants.{Nothing, Hypercall, IoRead, IoWrite, SystemDown, ExternalInterrupt, SysRegRead, SysRegWrite, ApicRead, ApicWrite, Halt, FailEntry}

-- the number of an answer, then its values; unused words are 0
unfoldable pub answer_words : AxVCpuExitReason → List ℕ
answer_words Nothing = 0 ∷ 0 ∷ 0 ∷ 0 ∷ 0 ∷ 0 ∷ 0 ∷ 0 ∷ []
answer_words (Hypercall nr a b c d e f) = 1 ∷ nr ∷ a ∷ b ∷ c ∷ d ∷ e ∷ f ∷ []
answer_words (IoRead port width) = 2 ∷ port ∷ width ∷ 0 ∷ 0 ∷ 0 ∷ 0 ∷ 0 ∷ []
answer_words (IoWrite port width value) = 3 ∷ port ∷ width ∷ value ∷ 0 ∷ 0 ∷ 0 ∷ 0 ∷ []
answer_words SystemDown = 4 ∷ 0 ∷ 0 ∷ 0 ∷ 0 ∷ 0 ∷ 0 ∷ 0 ∷ []
answer_words (ExternalInterrupt vector) = 5 ∷ vector ∷ 0 ∷ 0 ∷ 0 ∷ 0 ∷ 0 ∷ 0 ∷ []
answer_words (SysRegRead addr) = 6 ∷ addr ∷ 0 ∷ 0 ∷ 0 ∷ 0 ∷ 0 ∷ 0 ∷ []
answer_words (SysRegWrite addr value) = 7 ∷ addr ∷ value ∷ 0 ∷ 0 ∷ 0 ∷ 0 ∷ 0 ∷ []
answer_words (ApicRead msr) = 8 ∷ msr ∷ 0 ∷ 0 ∷ 0 ∷ 0 ∷ 0 ∷ 0 ∷ []
answer_words (ApicWrite msr value) = 9 ∷ msr ∷ value ∷ 0 ∷ 0 ∷ 0 ∷ 0 ∷ 0 ∷ []
answer_words Halt = 10 ∷ 0 ∷ 0 ∷ 0 ∷ 0 ∷ 0 ∷ 0 ∷ 0 ∷ []
answer_words (FailEntry reason) = 11 ∷ reason ∷ 0 ∷ 0 ∷ 0 ∷ 0 ∷ 0 ∷ 0 ∷ []

-- reason 18, VMCALL: RAX, and RDI, RSI, RDX, RCX, R8 and R9
abbrev pub hypercall : GeneralRegisters → AxVCpuExitReason
hypercall g = Hypercall g.rax g.rdi g.rsi g.rdx g.rcx g.r8 g.r9

-- reason 1: the vector of the interruption information (SDM 3C, 25.9.2)
abbrev pub interrupt : ℕ → AxVCpuExitReason
interrupt information = ExternalInterrupt (interrupt_exit_info information).vector

-- ---- reason 30: an I/O instruction (SDM 3C, table 28-5)

-- the bytes of RAX that an OUT writes
unfoldable pub io_data : ℕ → ℕ → ℕ
io_data width rax = cond (eqb width 1) (rax % 2 ^ 8) (cond (eqb width 2) (rax % 2 ^ 16) (rax % 2 ^ 32))

-- two bytes to port 0x604, and all of RAX is 0x2000
unfoldable pub is_shutdown : VmxIoExitInfo → ℕ → Bool
is_shutdown info rax = eqb info.port 0x604 && eqb info.access_size 2 && eqb rax 0x2000

unfoldable pub is_width : ℕ → Bool
is_width size = eqb size 1 || eqb size 2 || eqb size 4

unfoldable pub io_access : VmxIoExitInfo → ℕ → AxVCpuExitReason
io_access info rax =
    cond info.is_in (IoRead info.port info.access_size)
    (cond (is_shutdown info rax) SystemDown
    (IoWrite info.port info.access_size (io_data info.access_size rax)))

-- string and repeated accesses, and sizes other than 1, 2 and 4, are Halt
unfoldable pub io_exit : VmxIoExitInfo → ℕ → AxVCpuExitReason
io_exit info rax = cond (info.is_repeat || info.is_string) Halt (cond (is_width info.access_size) (io_access info rax) Halt)

unfoldable pub io_answer : ℕ → ℕ → AxVCpuExitReason
io_answer q rax = io_exit (io_exit_info q) rax

-- ---- reasons 31 and 32: RDMSR and WRMSR. An APIC register is named by ECX, another MSR by all of RCX

unfoldable pub msr_read : GeneralRegisters → AxVCpuExitReason
msr_read g = cond (is_apic g.rcx) (ApicRead (low32 g.rcx)) (SysRegRead g.rcx)

unfoldable pub msr_write : GeneralRegisters → AxVCpuExitReason
msr_write g = cond (is_apic g.rcx) (ApicWrite (low32 g.rcx) (read_edx_eax g)) (SysRegWrite g.rcx (read_edx_eax g))

-- ---- the answer by the reason (SDM 3D, appendix C)

-- interrupt window, CPUID, a move to CR0 or CR4, preemption timer, XSETBV
unfoldable pub is_builtin : ℕ → Bool
is_builtin reason =
    eqb reason VmxExitReason.INTERRUPT_WINDOW || eqb reason VmxExitReason.CPUID || eqb reason VmxExitReason.CR_ACCESS
    || eqb reason VmxExitReason.PREEMPTION_TIMER || eqb reason VmxExitReason.XSETBV

unfoldable pub answer_to : ℕ → Report → AxVCpuExitReason
answer_to reason r =
    cond (is_builtin reason) Nothing
    (cond (eqb reason VmxExitReason.EXTERNAL_INTERRUPT) (interrupt r.interruption)
    (cond (eqb reason VmxExitReason.VMCALL) (hypercall r.regs)
    (cond (eqb reason VmxExitReason.IO_INSTRUCTION) (io_answer r.qualification r.regs.rax)
    (cond (eqb reason VmxExitReason.MSR_READ) (msr_read r.regs)
    (cond (eqb reason VmxExitReason.MSR_WRITE) (msr_write r.regs) Halt)))))

abbrev pub answer_of : Report → AxVCpuExitReason
answer_of r = answer_to (reason_of r) r
