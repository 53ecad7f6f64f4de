use mathlib.Core.Path.{sym}
use Rattle.std.proofs.lemmas.Result.{err_from_is_err_and}
use Rattle.definitions.proofs.RefusalLaws.{some}
use Rattle.vmcs.proofs.FieldLaws.{write_by_refusal, writable}
use Rattle.vcpu_events.specs.Access.{write_field}
use Rattle.record.proofs.RoundTrip.{never_unlawful}
use Rattle.session_edits.proofs.Ends.{refused, edited}
use Rattle.session_edits.proofs.write_field.Goals as goal

pub returns-in_err-place : goal.returns-in_err-place
unfolding write_field
returns-in_err-place c = let p = err_from_is_err_and c.from_residual.result c.from_residual.ensures.1 in
    refused (rw (p.1, p.2, never_unlawful _ c.args.b.now.accepted, write_by_refusal, ← c.in_err-place.ensures.refusal, some c.in_err-place.field-0.0))

pub put_field-requires : goal.put_field-requires
put_field-requires c = let known = writable c.args.encoding c.args.value (sym c.in_ok-place.ensures.refusal) in
    (rw c.in_ok-place.ensures.place known.0, rw c.in_ok-place.ensures.place known.1)

pub returns : goal.returns
unfolding write_field
returns c = edited c.put_field.ensures
    (rw (never_unlawful _ c.args.b.now.accepted, write_by_refusal, ← c.in_ok-place.ensures.refusal, c.in_ok-place.ensures.place))
