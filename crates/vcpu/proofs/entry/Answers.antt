use mathlib.Core.Path.{refl, ap}
use borrow.Author.Rules.{rules}
use Rattle.session_edits.proofs.Ends.{on_record}
use Rattle.std.proofs.lemmas.Result.{err_from_is_err_and}
use Rattle.definitions.proofs.RefusalLaws.{positive}
use Rattle.vcpu_events.specs.Entry.{Entered, entry}
use Rattle.vcpu_events.proofs.Stays.{entry_refused_is}
use Rattle.vcpu.proofs.Shell.{shell, stepped, unlawful}
use Rattle.vcpu.proofs.entry.Goals as goal

pub returns-in_err-b : goal.returns-in_err-b
unfolding entry
returns-in_err-b c = let p = err_from_is_err_and c.from_residual.result c.from_residual.ensures.1 in
    let u = unlawful c.in_err-b.field-0.0 c.args.s c.in_err-b.ensures.refusal in
    rw (p.1, p.2, u.1, u.0)

pub returns-in_err-answer : goal.returns-in_err-answer
returns-in_err-answer c = let p = err_from_is_err_and c.from_residual-in_err-answer.result c.from_residual-in_err-answer.ensures.1 in
    let all = stepped c.in_ok-b.ensures.value c.new.ensures.value c.in_err-answer.ensures in
    rw (p.1, p.2) (entry_refused_is c.args.s c.args.stack (ap (λ (a : Entered). a.refusal) all) (positive c.in_err-answer.field-0.0 _ refl))

pub returns : goal.returns
returns c = shell c.in_ok-b.ensures.value (on_record c.in_ok-answer.ensures c.new.ensures.value (search rules)) c.session_at.ensures
