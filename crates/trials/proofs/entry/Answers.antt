use mathlib.Core.Path.{refl}
use native.Mathlib.Omega.{arith}
use borrow.Author.Rules.{rules}
use Rattle.std.proofs.lemmas.Result.{err_from_is_err_and}
use Rattle.session_edits.proofs.Ends.{on_record}
use Rattle.call_specs.proofs.Calls.{entry_no_record, entry_refused, entry_done}
use Rattle.trials.proofs.entry.Goals as goal

pub returns-in_err-e : goal.returns-in_err-e
returns-in_err-e c = let p = err_from_is_err_and c.from_residual.result c.from_residual.ensures.1 in
    rw (p.1, p.2) (entry_refused c.args.stack _ _ c.accepts.ensures c.if-accepts.true (λ i. omega (arith, c.slice_known-1.given i)) (λ i. (c.type_inv.bytes i).fits) c.in_err-e.field-0.0
    (on_record c.in_err-e.ensures c.new.ensures.value (search rules)))

pub returns-in_ok-e : goal.returns-in_ok-e
returns-in_ok-e c = entry_done c.args.stack _ _ c.accepts.ensures c.if-accepts.true (λ i. omega (arith, c.slice_known-1.given i)) (λ i. (c.type_inv.bytes i).fits)
    (on_record c.in_ok-e.ensures c.new.ensures.value (search rules)) c.from.ensures c.from-then-accepts.ensures

pub returns-else-accepts : goal.returns-else-accepts
returns-else-accepts c = entry_no_record c.args.stack _ _ c.accepts.ensures c.if-accepts.false
