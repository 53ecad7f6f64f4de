use mathlib.Core.Path.{◌≡◌, sym, ◌∙◌}
use Rattle.std.proofs.lemmas.Result.{err_from_is_err_and}
use Rattle.definitions.proofs.RefusalLaws.{some}
use Rattle.vcpu_report.specs.ExitReport.{accepted, exit_report}
use Rattle.record_edits.specs.Edited.{session}
use Rattle.session_edits.proofs.Ends.{refused, edited, accepted_parts}
use Rattle.session_edits.proofs.exit_report.Goals as goal

pub returns-in_err-report_refusal : goal.returns-in_err-report_refusal
unfolding exit_report
returns-in_err-report_refusal c = let p = err_from_is_err_and c.from_residual.result c.from_residual.ensures.1 in
    refused (rw (p.1, p.2, ← (rw c.bytes.ensures.value at c.in_err-report_refusal.ensures), some c.in_err-report_refusal.field-0.0))

pub returns : goal.returns
unfolding exit_report
returns c = let x = session c.args.b.now in
    let taken : exit_report x c.args.r ≡ accepted x c.args.r = rw (← (rw c.bytes.ensures.value at c.in_ok-report_refusal.ensures)) in
    edited c.accept-answer.ensures.holds (accepted_parts x c.args.r c.accept-answer.ensures.value ∙ sym taken)
