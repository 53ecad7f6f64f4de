use mathlib.Core.Path.{◌≡◌, sym, ◌∙◌}
use Rattle.std.proofs.lemmas.Result.{err_from_is_err_and}
use Rattle.definitions.proofs.RefusalLaws.{some}
use Rattle.vmcs.specs.Fields.{write_refusal}
use Rattle.vmcs.proofs.FieldLaws.{write_by_refusal, writable}
use Rattle.vmcs.proofs.vmcs_write.Goals as goal

pub returns-in_err-place : goal.returns-in_err-place
returns-in_err-place c = let p = err_from_is_err_and c.from_residual.result c.from_residual.ensures.1 in
    rw (p.1, p.2, write_by_refusal, ← c.in_err-place.ensures.refusal, some c.in_err-place.field-0.0)

pub put_at-requires : goal.put_at-requires
put_at-requires c = rw c.in_ok-place.ensures.place (writable _ _ (sym c.in_ok-place.ensures.refusal))

pub returns : goal.returns
returns c = rw (write_by_refusal, ← c.in_ok-place.ensures.refusal, ← c.in_ok-place.ensures.place, c.put_at.ensures)
