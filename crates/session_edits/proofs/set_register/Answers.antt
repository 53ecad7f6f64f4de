use mathlib.Core.Path.{sym}
use Rattle.std.proofs.lemmas.Result.{err_from_is_err_and}
use Rattle.definitions.proofs.RefusalLaws.{some}
use Rattle.vcpu_events.specs.Access.{set_register}
use Rattle.record.proofs.RoundTrip.{never_unlawful}
use Rattle.session_edits.proofs.Ends.{refused, edited}
use Rattle.regs.proofs.Index.{register_by_refusal, register_known}
use Rattle.session_edits.proofs.set_register.Goals as goal

pub returns-in_err-index_refusal : goal.returns-in_err-index_refusal
unfolding set_register
returns-in_err-index_refusal c = let p = err_from_is_err_and c.from_residual.result c.from_residual.ensures.1 in
    refused (rw (p.1, p.2, never_unlawful _ c.args.b.now.accepted, register_by_refusal, ← c.in_err-index_refusal.ensures, some c.in_err-index_refusal.field-0.0))

pub put_reg-requires : goal.put_reg-requires
put_reg-requires c = register_known c.args.index (sym c.in_ok-index_refusal.ensures)

pub returns : goal.returns
unfolding set_register
returns c = edited c.put_reg.ensures (rw (never_unlawful _ c.args.b.now.accepted, register_by_refusal, ← c.in_ok-index_refusal.ensures))
