use mathlib.Core.Path.{sym, ap, ◌∙◌}
use borrow.Author.Rules.{rules}
use Rattle.session_edits.proofs.Ends.{on_record}
use Rattle.std.proofs.lemmas.Result.{err_from_is_err_and}
use Rattle.definitions.specs.Refusals.{number}
use Rattle.definitions.proofs.RefusalLaws.{some_at}
use Rattle.vcpu_session.specs.declared.Session.{Session}
use Rattle.vcpu_answers.specs.declared.AxVCpuExitReason.TheVariants.{Nothing}
use Rattle.vcpu_exit.specs.Refusal.{report_refusal}
use Rattle.vcpu_report.specs.ExitReport.{Reported, reported, exit_report}
use Rattle.vcpu_report.proofs.ReportLaws.{report_laws}
use Rattle.vcpu.proofs.Shell.{shell, stepped, unlawful}
use Rattle.vcpu.proofs.exit_report.Goals as goal

pub returns-in_err-b : goal.returns-in_err-b
unfolding exit_report report_refusal
returns-in_err-b c = let p = err_from_is_err_and c.from_residual.result c.from_residual.ensures.1 in
    let u = unlawful c.in_err-b.field-0.0 c.args.s c.in_err-b.ensures.refusal in
    rw (p.1, p.2, u.1, u.0)

pub returns-in_err-answer : goal.returns-in_err-answer
returns-in_err-answer c = let p = err_from_is_err_and c.from_residual-in_err-answer.result c.from_residual-in_err-answer.ensures.1 in
    let e = c.in_err-answer.field-0.0 in
    let laws = report_laws c.args.s c.args.report in
    let all = stepped c.in_ok-b.ensures.value c.new.ensures.value c.in_err-answer.ensures in
    let asked = ap (λ (a : Reported). a.refusal) all ∙ laws.number in
    let left = ap (λ (a : Reported). a.session) all ∙ laws.refused (some_at e _ asked) in
    rw (p.1, p.2) (ap (λ (s : Session). reported (number e) Nothing s) (sym left) ∙ all)

pub returns : goal.returns
returns c = shell c.in_ok-b.ensures.value (on_record c.in_ok-answer.ensures c.new.ensures.value (search rules)) c.session_at.ensures
