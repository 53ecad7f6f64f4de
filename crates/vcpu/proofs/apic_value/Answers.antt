use borrow.Author.Rules.{rules}
use Rattle.std.proofs.lemmas.Result.{err_from_is_err_and}
use Rattle.vcpu_events.specs.Access.{apic_value}
use Rattle.vcpu_events.proofs.Stays.{apic_stays}
use Rattle.session_edits.proofs.Ends.{on_record}
use Rattle.vcpu.proofs.Shell.{shell, shell_refused, unlawful}
use Rattle.vcpu.proofs.apic_value.Goals as goal

pub returns-in_err-b : goal.returns-in_err-b
unfolding apic_value
returns-in_err-b c = let p = err_from_is_err_and c.from_residual.result c.from_residual.ensures.1 in
    let u = unlawful c.in_err-b.field-0.0 c.args.s c.in_err-b.ensures.refusal in
    rw (p.1, p.2, u.1, u.0)

pub returns-in_err-apic_value : goal.returns-in_err-apic_value
returns-in_err-apic_value c = let p = err_from_is_err_and c.from_residual-in_err-apic_value.result c.from_residual-in_err-apic_value.ensures.1 in
    rw (p.1, p.2) (shell_refused c.in_err-apic_value.field-0.0 c.in_ok-b.ensures.value c.new.ensures.value c.in_err-apic_value.ensures (apic_stays c.args.s c.args.value))

pub returns : goal.returns
returns c = shell c.in_ok-b.ensures.value (on_record c.in_ok-apic_value.ensures c.new.ensures.value (search rules)) c.session_at.ensures
