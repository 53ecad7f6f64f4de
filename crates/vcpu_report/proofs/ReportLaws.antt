-- The laws of the exit report hold of every session and report. Assumes nothing.
use mathlib.Core.Path.{◌≡◌, refl, sym, ap}
use mathlib.Core.Bool.{true, false}
use Prim.Native.Nat.{ℕ, ◌≤◌}
use native.Mathlib.Omega.{arith}
use lib.Dec.{eqb}
use borrow.Author.Tests.{eqb-true, eq-eqb}
use Rattle.bits.proofs.Tells.{cond_all}
use Rattle.definitions.specs.VmxExitReason as VmxExitReason
use Rattle.vmcs.specs.Field.{value_of}
use Rattle.vmcs.specs.Names.VmcsControl32 as VmcsControl32
use Rattle.vmcs.specs.Names.VmcsGuest32 as VmcsGuest32
use Rattle.vmcs.specs.Names.VmcsGuestNW as VmcsGuestNW
use Rattle.vmcs.specs.Names.VmcsReadOnly32 as VmcsReadOnly32
use Rattle.vmcs.specs.Names.VmcsReadOnlyNW as VmcsReadOnlyNW
use Rattle.vmcs.specs.Writes.{Sized}
use Rattle.vmcs.proofs.WriteLaws.{sized_applied, read_applied}
use Rattle.vcpu_session.specs.Phase as Phase
use Rattle.vcpu_session.specs.Session.{Lawful}
use Rattle.vcpu_session.specs.declared.Xcr0.{Xcr0}
use Rattle.vcpu_session.specs.declared.Session.{Session}
use Rattle.vcpu_session.proofs.LawfulLaws.{lawful_alike, lawful_phase}
use Rattle.vcpu_exit.specs.Reading.{reason_of, failed, is_apic}
use Rattle.vcpu_exit.specs.Refusal.{report_refusal}
use Rattle.vcpu_exit.specs.declared.Report.{Report}
use Rattle.vcpu_exit.proofs.Passes.{passes}
use Rattle.vcpu_answers.specs.Answer.{answer_of}
use Rattle.vcpu_answers.specs.declared.AxVCpuExitReason.TheVariants.{Nothing, FailEntry}
use Rattle.vcpu_report.specs.Handlers.{failure_writes, failure_stored}
use Rattle.vcpu_report.specs.ExitReport.{phase_after, xcr0_after, failed_entry, after_exit, accepted, exit_report, reported}
use Rattle.vcpu_report.specs.Invariant.{Consistent, Sound, Fits}
use Rattle.vcpu_report.specs.Laws.{SameRest, AfterExit, AfterFailure, ReportLaws}
use Rattle.vcpu_report.specs.ExitReport.{Reported}
use Rattle.vcpu_report.proofs.Steps.{kept_field}
use Rattle.vcpu_report.proofs.Known.{known_after, rip_after, invalid}
use Rattle.vcpu_report.proofs.Kept.{kept_after, kept_failure}

-- the phase after an exit is one of the five
pub phase_known : (r : Report) → phase_after r ≤ 4
unfolding phase_after
phase_known r =
    cond_all (λ (n : ℕ). n ≤ 4) (eqb (reason_of r) VmxExitReason.MSR_READ) _ _
    (λ _. cond_all (λ (n : ℕ). n ≤ 4) (is_apic r.regs.rcx) _ _ (λ _. omega arith) (λ _. omega arith)) (λ _. omega arith)

module _ (s : Session) (r : Report) where
  -- what holds of a refused report, of a failed entry and of an exit holds of the report
  by_outcome : (P : Reported → Type 0) → P (reported (report_refusal s r) Nothing s)
      → (report_refusal s r ≡ 0 → failed r ≡ true → P (reported 0 (FailEntry 0) (failed_entry s r)))
      → (report_refusal s r ≡ 0 → failed r ≡ false → P (reported 0 (answer_of r) (after_exit s r)))
      → P (exit_report s r)
  unfolding exit_report accepted
  by_outcome P refused failure exit =
      cond_all P (eqb (report_refusal s r) 0) _ _
      (λ z.
      let e : report_refusal s r ≡ 0 = eqb-true (report_refusal s r) 0 z in
      cond_all P (failed r) _ _ (failure e) (exit e))
      (λ _. refused)

  refused_is : eqb (report_refusal s r) 0 ≡ false → exit_report s r ≡ reported (report_refusal s r) Nothing s
  unfolding exit_report
  refused_is n = rw n

  failed_is : report_refusal s r ≡ 0 → failed r ≡ true → exit_report s r ≡ reported 0 (FailEntry 0) (failed_entry s r)
  unfolding exit_report accepted
  failed_is e f = rw (eq-eqb (report_refusal s r) 0 e, f)

  pub exit_is : report_refusal s r ≡ 0 → failed r ≡ false → exit_report s r ≡ reported 0 (answer_of r) (after_exit s r)
  unfolding exit_report accepted
  exit_is e f = rw (eq-eqb (report_refusal s r) 0 e, f)

  -- ---- the rest

  same : (t : Session) → t.queue ≡ s.queue → t.progress.launched ≡ s.progress.launched → t.progress.entries ≡ s.progress.entries
      → t.progress.held ≡ s.progress.held → t.capabilities ≡ s.capabilities → t.xcr0.supported ≡ s.xcr0.supported → SameRest s t
  same t a b c d e f = record { queue = a; launched = b; entries = c; held = d; capabilities = e; supported = f }

  -- XSETBV loads the value alone
  same_supported : (xcr0_after s.xcr0 r).supported ≡ s.xcr0.supported
  unfolding xcr0_after
  same_supported = cond_all (λ (x : Xcr0). x.supported ≡ s.xcr0.supported) (eqb (reason_of r) VmxExitReason.XSETBV) _ _ (λ _. refl) (λ _. refl)

  rest_law : SameRest s (exit_report s r).session
  unfolding failed_entry after_exit
  rest_law =
      by_outcome (λ (a : Reported). SameRest s a.session) (same s refl refl refl refl refl refl)
      (λ _ _. same (failed_entry s r) refl refl refl refl refl refl)
      (λ _ _. same (after_exit s r) refl refl refl refl refl same_supported)

  lawful_law : Lawful s → Lawful (exit_report s r).session
  unfolding failed_entry after_exit
  lawful_law l =
      by_outcome (λ (a : Reported). Lawful a.session) l (λ _ _. lawful_alike (lawful_phase l Phase.ENDED (omega arith)) refl)
      (λ _ _. lawful_alike (lawful_phase l (phase_after r) (phase_known r)) refl)

  -- ---- the fields

  failure_law : Sized s.vmcs → AfterFailure s (failed_entry s r) r
  unfolding failed_entry failure_stored
  failure_law z =
      record {
        phase = refl;
        regs = refl;
        xcr0 = refl;
        reason = read_applied (failure_writes r) s.vmcs VmcsReadOnly32.EXIT_REASON z (omega arith);
        qualification = read_applied (failure_writes r) s.vmcs VmcsReadOnlyNW.EXIT_QUALIFICATION z (omega arith);
        fields = λ f h e. kept_field (failure_writes r) s.vmcs f (value_of s.vmcs f) z h e refl;
      }

  exit_law : Sized s.vmcs → AfterExit s (after_exit s r) r
  unfolding after_exit
  exit_law z =
      let k = known_after s.vmcs r s.capabilities z in
      record {
        phase = refl;
        regs = refl;
        xcr0 = refl;
        rip = rip_after s.vmcs r s.capabilities z;
        fields = k.fields;
        rflags = k.fields VmcsGuestNW.RFLAGS (omega arith) refl;
        interruptibility = k.fields VmcsGuest32.INTERRUPTIBILITY_STATE (omega arith) refl;
        length = k.fields VmcsReadOnly32.VMEXIT_INSTRUCTION_LEN (omega arith) refl;
        code = k.fields VmcsReadOnly32.VMEXIT_INTERRUPTION_ERR_CODE (omega arith) refl;
        invalid = rw (k.fields VmcsControl32.VMENTRY_INTERRUPTION_INFO_FIELD (omega arith) refl) (invalid (value_of s.vmcs VmcsControl32.VMENTRY_INTERRUPTION_INFO_FIELD));
      }

  sized_law : Sized s.vmcs → Sized (exit_report s r).session.vmcs
  unfolding failed_entry failure_stored after_exit
  sized_law z =
      by_outcome (λ (a : Reported). Sized a.session.vmcs) z (λ _ _. sized_applied (failure_writes r) s.vmcs z)
      (λ _ _. (known_after s.vmcs r s.capabilities z).sized)

  -- ---- the invariant

  sound_failed : Sound s → Sound (failed_entry s r)
  unfolding failed_entry
  sound_failed h = kept_failure s.capabilities s.vmcs r h

  sound_exit : Consistent s.capabilities → Fits r → report_refusal s r ≡ 0 → failed r ≡ false → Sound s → Sound (after_exit s r)
  unfolding after_exit
  sound_exit ok fits e f h =
      let p = passes s r e f in
      kept_after s.capabilities ok (value_of s.vmcs VmcsControl32.VMENTRY_CONTROLS) s.vmcs r fits p.owned p.access p.entry h

  -- the theorem to cite
  pub report_laws : ReportLaws s r
  report_laws =
      record {
        number = by_outcome (λ (a : Reported). a.refusal ≡ report_refusal s r) refl (λ e _. sym e) (λ e _. sym e);
        refused = λ n. ap (λ (a : Reported). a.session) (refused_is n);
        rest = rest_law;
        failure = λ z e f. rw (failed_is e f) (failure_law z);
        exit = λ z e f. rw (exit_is e f) (exit_law z);
        fail_entry = λ e f. ap (λ (a : Reported). a.answer) (failed_is e f);
        answer = λ e f. ap (λ (a : Reported). a.answer) (exit_is e f);
        lawful = lawful_law;
        sized = sized_law;
        sound = λ ok fits h.
            by_outcome (λ (a : Reported). Sound a.session) h (λ _ _. sound_failed h) (λ e f. sound_exit ok fits e f h);
      }
