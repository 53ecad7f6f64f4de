-- The laws of the exit report: what a theorem over lists of calls needs of it. Assumes nothing.
use Rattle.std.specs.Prelude.{◌+◌, ◌<◌, ◌≡◌, Bool, true, false, ◌||◌, List, [], ◌∷◌, eqb}
use Rattle.bits.specs.Words.{bit}
use Rattle.vmcs.specs.Field.{Field, place_of, size_of, value_of}
use Rattle.vmcs.specs.Names.VmcsControl32 as VmcsControl32
use Rattle.vmcs.specs.Names.VmcsControlNW as VmcsControlNW
use Rattle.vmcs.specs.Names.VmcsGuest32 as VmcsGuest32
use Rattle.vmcs.specs.Names.VmcsGuest64 as VmcsGuest64
use Rattle.vmcs.specs.Names.VmcsGuestNW as VmcsGuestNW
use Rattle.vmcs.specs.Names.VmcsReadOnly32 as VmcsReadOnly32
use Rattle.vmcs.specs.Names.VmcsReadOnlyNW as VmcsReadOnlyNW
use Rattle.vmcs.specs.Writes.{same_field, last_of, Sized}
use Rattle.vcpu_session.specs.Phase as Phase
use Rattle.vcpu_session.specs.Session.{Lawful}
use Rattle.vcpu_session.specs.declared.Session.{Session}
use Rattle.vcpu_exit.specs.Reading.{failed, advance_of}
use Rattle.vcpu_exit.specs.Refusal.{report_refusal}
use Rattle.vcpu_exit.specs.declared.Report.{Report}
use Rattle.vcpu_answers.specs.Answer.{answer_of}
use Rattle.vcpu_answers.specs.declared.AxVCpuExitReason.TheVariants.{FailEntry}
use Rattle.vcpu_report.specs.Handlers.{report_writes}
use Rattle.vcpu_report.specs.ExitReport.{phase_after, registers_after, xcr0_after, exit_report}
use Rattle.vcpu_report.specs.Invariant.{Consistent, Sound, Fits}

-- a field is one of the list
abbrev pub one_of : List Field → Field → Bool
one_of [] f = false
one_of (g ∷ gs) f = same_field g f || one_of gs f

-- the fields that the handling of an exit may write over the report's
abbrev pub handler_fields : List Field
handler_fields =
    VmcsControl32.PRIMARY_PROCBASED_EXEC_CONTROLS
    ∷ VmcsGuest32.VMX_PREEMPTION_TIMER_VALUE
    ∷ VmcsGuestNW.CR0
    ∷ VmcsControlNW.CR0_READ_SHADOW
    ∷ VmcsControlNW.CR0_GUEST_HOST_MASK
    ∷ VmcsGuestNW.CR4
    ∷ VmcsControlNW.CR4_READ_SHADOW
    ∷ VmcsControlNW.CR4_GUEST_HOST_MASK
    ∷ VmcsGuest64.IA32_EFER
    ∷ VmcsControl32.VMENTRY_CONTROLS
    ∷ VmcsGuestNW.RIP
    ∷ []

-- queue, counts, capabilities and the supported bits of XCR0 are the same
pub record SameRest (s t : Session) : Type 0 where
  pub queue : t.queue ≡ s.queue
  pub launched : t.progress.launched ≡ s.progress.launched
  pub entries : t.progress.entries ≡ s.progress.entries
  pub held : t.progress.held ≡ s.progress.held
  pub capabilities : t.capabilities ≡ s.capabilities
  pub supported : t.xcr0.supported ≡ s.xcr0.supported

-- after an accepted exit. Every field that handling does not write is the report's, or what it was
pub record AfterExit (s t : Session) (r : Report) : Type 0 where
  pub phase : t.progress.phase ≡ phase_after r
  pub regs : t.regs ≡ registers_after r
  pub xcr0 : t.xcr0 ≡ xcr0_after s.xcr0 r
  pub rip : value_of t.vmcs VmcsGuestNW.RIP ≡ r.rip + advance_of r
  pub fields : (f : Field) → place_of f < size_of f → one_of handler_fields f ≡ false → value_of t.vmcs f ≡ last_of (report_writes s.vmcs r) f (value_of s.vmcs f)
  pub rflags : value_of t.vmcs VmcsGuestNW.RFLAGS ≡ r.rflags
  pub interruptibility : value_of t.vmcs VmcsGuest32.INTERRUPTIBILITY_STATE ≡ r.interruptibility
  pub length : value_of t.vmcs VmcsReadOnly32.VMEXIT_INSTRUCTION_LEN ≡ r.length
  pub code : value_of t.vmcs VmcsReadOnly32.VMEXIT_INTERRUPTION_ERR_CODE ≡ r.code
  pub invalid : bit 31 (value_of t.vmcs VmcsControl32.VMENTRY_INTERRUPTION_INFO_FIELD) ≡ false

-- after a failed entry: all but phase, reason and qualification is the same
pub record AfterFailure (s t : Session) (r : Report) : Type 0 where
  pub phase : t.progress.phase ≡ Phase.ENDED
  pub regs : t.regs ≡ s.regs
  pub xcr0 : t.xcr0 ≡ s.xcr0
  pub reason : value_of t.vmcs VmcsReadOnly32.EXIT_REASON ≡ r.reason
  pub qualification : value_of t.vmcs VmcsReadOnlyNW.EXIT_QUALIFICATION ≡ r.qualification
  pub fields : (f : Field) → place_of f < size_of f → one_of (VmcsReadOnly32.EXIT_REASON ∷ VmcsReadOnlyNW.EXIT_QUALIFICATION ∷ []) f ≡ false
      → value_of t.vmcs f ≡ value_of s.vmcs f

-- all of it, for any session and report
pub record ReportLaws (s : Session) (r : Report) : Type 0 where
  pub number : (exit_report s r).refusal ≡ report_refusal s r
  pub refused : eqb (report_refusal s r) 0 ≡ false → (exit_report s r).session ≡ s
  pub rest : SameRest s (exit_report s r).session
  pub failure : Sized s.vmcs → report_refusal s r ≡ 0 → failed r ≡ true → AfterFailure s (exit_report s r).session r
  pub exit : Sized s.vmcs → report_refusal s r ≡ 0 → failed r ≡ false → AfterExit s (exit_report s r).session r
  pub fail_entry : report_refusal s r ≡ 0 → failed r ≡ true → (exit_report s r).answer ≡ FailEntry 0
  pub answer : report_refusal s r ≡ 0 → failed r ≡ false → (exit_report s r).answer ≡ answer_of r
  pub lawful : Lawful s → Lawful (exit_report s r).session
  pub sized : Sized s.vmcs → Sized (exit_report s r).session.vmcs
  pub sound : Consistent s.capabilities → Fits r → Sound s → Sound (exit_report s r).session
