-- The exit report (document 01, "Session" and "The operations and their numbers"). Assumes nothing.
use Rattle.std.specs.Prelude.{ℕ, cond, Result, Ok, Err, eqb}
use Rattle.definitions.specs.Refusals.{number}
use Rattle.definitions.specs.declared.refusal.Refusal.{Refusal}
use Rattle.regs.specs.declared.GeneralRegisters.{GeneralRegisters}
use Rattle.definitions.specs.VmxExitReason as VmxExitReason
use Rattle.vcpu_session.specs.Phase as Phase
use Rattle.vcpu_session.specs.Session.{with_progress, with_regs, with_vmcs, with_xcr0, in_phase, with_value}
use Rattle.vcpu_session.specs.declared.Xcr0.{Xcr0}
use Rattle.vcpu_session.specs.declared.Session.{Session}
use Rattle.vcpu_exit.specs.Reading.{reason_of, failed, is_apic, read_edx_eax}
use Rattle.vcpu_exit.specs.Refusal.{report_refusal}
use Rattle.vcpu_exit.specs.declared.Report.{Report}
use Rattle.vcpu_answers.specs.Answer.{answer_of}
use Rattle.vcpu_answers.specs.Cpuid.{handle_cpuid}
use Rattle.vcpu_answers.specs.declared.AxVCpuExitReason.{AxVCpuExitReason}
use Rattle.vcpu_answers.specs.declared.AxVCpuExitReason.TheVariants.{Nothing, FailEntry}
use Rattle.vcpu_report.specs.Handlers.{vmcs_after, failure_stored}

-- CPUID, reason 10, changes four registers
unfoldable pub registers_after : Report → GeneralRegisters
registers_after r = cond (eqb (reason_of r) VmxExitReason.CPUID) (handle_cpuid r.regs r.cpuid) r.regs

-- a read of an APIC register, reason 31, waits for its value; every other exit leads to ready
unfoldable pub phase_after : Report → ℕ
phase_after r = cond (eqb (reason_of r) VmxExitReason.MSR_READ) (cond (is_apic r.regs.rcx) Phase.WAITING Phase.READY) Phase.READY

-- XSETBV, reason 55, loads EDX:EAX into XCR0 (document 02, N1)
unfoldable pub xcr0_after : Xcr0 → Report → Xcr0
xcr0_after x r = cond (eqb (reason_of r) VmxExitReason.XSETBV) (with_value x (read_edx_eax r.regs)) x

-- a failed entry stores reason and qualification only, and ends the session; every other part stays
unfoldable pub failed_entry : Session → Report → Session
failed_entry s r = with_progress (with_vmcs s (failure_stored s.vmcs r)) (in_phase s.progress Phase.ENDED)

-- an exit changes the fields, XCR0, the registers and the phase; every other part stays
unfoldable pub after_exit : Session → Report → Session
after_exit s r =
    with_progress
    (with_regs (with_xcr0 (with_vmcs s (vmcs_after s.vmcs s.capabilities r)) (xcr0_after s.xcr0 r)) (registers_after r))
    (in_phase s.progress (phase_after r))

-- the refusal or 0, the answer, and the session: as it was where the report is refused, and then only the number counts
pub record Reported : Type 0 where
  pub refusal : ℕ
  pub answer : AxVCpuExitReason
  pub session : Session

abbrev pub reported : ℕ → AxVCpuExitReason → Session → Reported
reported n a s = record { refusal = n; answer = a; session = s }

unfoldable pub accepted : Session → Report → Reported
accepted s r = cond (failed r) (reported 0 (FailEntry 0) (failed_entry s r)) (reported 0 (answer_of r) (after_exit s r))

-- a refused report changes nothing and answers only its number
unfoldable pub exit_report : Session → Report → Reported
exit_report s r = cond (eqb (report_refusal s r) 0) (accepted s r) (reported (report_refusal s r) Nothing s)

-- a report's answer in the code, beside the session that it leaves
abbrev pub reported_as : Result AxVCpuExitReason Refusal → Session → Reported
reported_as (Ok answer) s = reported 0 answer s
reported_as (Err e) s = reported (number e) Nothing s

-- the same by value, where a refused report leaves the session that came in
abbrev pub reported_from : Session → Result (AxVCpuExitReason × Session) Refusal → Reported
reported_from s (Ok (answer, next)) = reported 0 answer next
reported_from s (Err e) = reported (number e) Nothing s
