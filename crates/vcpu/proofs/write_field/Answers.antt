use borrow.Author.Rules.{rules}
use Rattle.std.proofs.lemmas.Result.{err_from_is_err_and}
use Rattle.vcpu_events.specs.Access.{write_field}
use Rattle.vcpu_events.proofs.Stays.{field_stays}
use Rattle.session_edits.proofs.Ends.{on_record}
use Rattle.vcpu.proofs.Shell.{shell, shell_refused, unlawful}
use Rattle.vcpu.proofs.write_field.Goals as goal

pub returns-in_err-b : goal.returns-in_err-b
unfolding write_field
returns-in_err-b c = let p = err_from_is_err_and c.from_residual.result c.from_residual.ensures.1 in
    let u = unlawful c.in_err-b.field-0.0 c.args.s c.in_err-b.ensures.refusal in
    rw (p.1, p.2, u.1, u.0)

pub returns-in_err-write_field : goal.returns-in_err-write_field
returns-in_err-write_field c = let p = err_from_is_err_and c.from_residual-in_err-write_field.result c.from_residual-in_err-write_field.ensures.1 in
    rw (p.1, p.2) (shell_refused c.in_err-write_field.field-0.0 c.in_ok-b.ensures.value c.new.ensures.value c.in_err-write_field.ensures (field_stays c.args.s c.args.encoding c.args.value))

pub returns : goal.returns
returns c = shell c.in_ok-b.ensures.value (on_record c.in_ok-write_field.ensures c.new.ensures.value (search rules)) c.session_at.ensures
