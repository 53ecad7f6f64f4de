use mathlib.Core.Path.{◌≡◌, refl, sym, ◌∙◌}
use borrow.Author.Rules.{rules}
use Rattle.record_edits.proofs.Edits.{seen}
use Rattle.std.proofs.lemmas.Result.{err_from_is_err_and}
use Rattle.definitions.proofs.RefusalLaws.{positive}
use Rattle.record.proofs.Accepted.{passed}
use Rattle.call_specs.proofs.ReportCalls.{is_record, block_length}
use Rattle.trials.proofs.RecordTrials.{on_bytes, on_length, on_phase, on_own, on_done}
use Rattle.trials.proofs.report_on.Goals as goal

pub returns-then-not-alike : goal.returns-then-not-alike
returns-then-not-alike c =
    on_length _ _ _ _ c.given-decides.ensures c.report_accepts.ensures c.if-report_accepts.true (sym c.alike.ensures ∙ c.if-not-alike.true)

pub phase_at-requires : goal.phase_at-requires
phase_at-requires c = (passed _ (is_record _ _ c.report_accepts.ensures c.if-report_accepts.true)).whole

pub returns-then-phase_at-ne-RUNNING : goal.returns-then-phase_at-ne-RUNNING
returns-then-phase_at-ne-RUNNING c =
    on_phase _ _ _ _ c.given-decides.ensures c.report_accepts.ensures c.if-report_accepts.true (sym c.alike.ensures ∙ c.if-not-alike.false)
    (λ e. c.if-phase_at-ne-RUNNING.true (c.phase_at.ensures ∙ e))

pub report_at-r-requires : goal.report_at-r-requires
report_at-r-requires c = block_length _ _ c.report_accepts.ensures c.if-report_accepts.true

pub report_refusal-requires : goal.report_refusal-requires
report_refusal-requires c = is_record _ _ c.report_accepts.ensures c.if-report_accepts.true

pub returns-in_err-report_refusal : goal.returns-in_err-report_refusal
returns-in_err-report_refusal c =
    let p = err_from_is_err_and c.from_residual.result c.from_residual.ensures.1 in
    rw (p.1, p.2) (on_own _ _ _ _ c.given-decides.ensures c.report_accepts.ensures c.if-report_accepts.true (sym c.alike.ensures ∙ c.if-not-alike.false)
    c.report_at-r.ensures c.in_err-report_refusal.ensures (positive c.in_err-report_refusal.field-0.0 _ refl))

pub accept-what-requires : goal.accept-what-requires
accept-what-requires c = let same = c.new.ensures.value ∙ c.copy_first.ensures ∙ sym c.given-decides.ensures in
    rw same (sym c.in_ok-report_refusal.ensures)

pub new-requires : goal.new-requires
new-requires c = let same = c.copy_first.ensures ∙ sym c.given-decides.ensures in
    rw same (is_record _ _ c.report_accepts.ensures c.if-report_accepts.true)

pub returns-in_ok-report_refusal : goal.returns-in_ok-report_refusal
returns-in_ok-report_refusal c =
    on_done _ _ _ _ c.given-decides.ensures c.report_accepts.ensures c.if-report_accepts.true (sym c.alike.ensures ∙ c.if-not-alike.false)
    c.report_at-r.ensures c.in_ok-report_refusal.ensures
    refl c.copy_first.ensures (λ i. (c.type_inv.bytes i).fits) (rw c.new.ensures.value at c.accept-what.ensures.value) (seen c.accept-what.ensures.holds c.new.ensures.value (search rules)) c.into.ensures

pub returns-else-report_accepts : goal.returns-else-report_accepts
returns-else-report_accepts c = on_bytes _ _ _ _ c.given-decides.ensures c.report_accepts.ensures c.if-report_accepts.false
