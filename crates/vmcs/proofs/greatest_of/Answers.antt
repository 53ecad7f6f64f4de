use mathlib.Core.Path.{◌≡◌, ◌∙◌}
use Rattle.vmcs.specs.Fields.{width_of, greatest_of}
use Rattle.vmcs.proofs.FieldLaws.{width_64}
use Rattle.vmcs.proofs.greatest_of.Goals as goal

pub returns-in_default : goal.returns-in_default
unfolding greatest_of
returns-in_default c =
    let e = c.width_of.ensures in
    let r = c.in_default.in_default-own.rest in
    let w : width_of c.args.encoding ≡ 64 = width_64 _ (λ p. r.0.1 (e ∙ p)) (λ p. r.1 (e ∙ p)) in
    rw w
