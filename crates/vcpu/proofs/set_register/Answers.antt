use borrow.Author.Rules.{rules}
use Rattle.std.proofs.lemmas.Result.{err_from_is_err_and}
use Rattle.vcpu_events.specs.Access.{set_register}
use Rattle.vcpu_events.proofs.Stays.{register_stays}
use Rattle.session_edits.proofs.Ends.{on_record}
use Rattle.vcpu.proofs.Shell.{shell, shell_refused, unlawful}
use Rattle.vcpu.proofs.set_register.Goals as goal

pub returns-in_err-b : goal.returns-in_err-b
unfolding set_register
returns-in_err-b c = let p = err_from_is_err_and c.from_residual.result c.from_residual.ensures.1 in
    let u = unlawful c.in_err-b.field-0.0 c.args.s c.in_err-b.ensures.refusal in
    rw (p.1, p.2, u.1, u.0)

pub returns-in_err-set_register : goal.returns-in_err-set_register
returns-in_err-set_register c = let p = err_from_is_err_and c.from_residual-in_err-set_register.result c.from_residual-in_err-set_register.ensures.1 in
    rw (p.1, p.2) (shell_refused c.in_err-set_register.field-0.0 c.in_ok-b.ensures.value c.new.ensures.value c.in_err-set_register.ensures (register_stays c.args.s c.args.index c.args.value))

pub returns : goal.returns
returns c = shell c.in_ok-b.ensures.value (on_record c.in_ok-set_register.ensures c.new.ensures.value (search rules)) c.session_at.ensures
