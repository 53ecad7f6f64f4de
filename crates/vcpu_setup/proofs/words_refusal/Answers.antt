use mathlib.Core.Path.{◌≡◌, sym, ◌∙◌}
use Rattle.std.proofs.Common.{rules}
use Rattle.definitions.specs.Refusals.{number, refusal_of}
use mathlib.Core.Logic.{inl, inr}
use Rattle.vcpu_setup.proofs.DemandLaws.{words_first, first_passes, first_refuses, first_none}
use Rattle.vcpu_setup.proofs.words_refusal.Goals as goal

pub loop-pair-init : goal.loop-pair-init
loop-pair-init c =
    let z = c.zip-pair-items.ensures in
    rw (c.into_iter-pair-iterator.ensures.into_iter_gives, z.first, z.second.0, c.iter.ensures.rest, c.demands.ensures) (words_first c.args.pairs c.args.f (search rules))

pub loop-pair-preserved : goal.loop-pair-preserved
loop-pair-preserved c =
    let s = c.in-Some.ensures.steps in
    first_passes _ _ _ _ (rw (s.0, s.1) at c.loop-pair.invariant) c.in_ok-bits_refusal.ensures

pub returns-in_err-bits_refusal : goal.returns-in_err-bits_refusal
returns-in_err-bits_refusal c =
    let s = c.in-Some.ensures.steps in
    let e : refusal_of {A = Unit {0}} c.from_residual.result ≡ number c.in_err-bits_refusal.field-0.0 = search rules in
    e ∙ first_refuses _ _ _ _ _ (rw (s.0, s.1) at c.loop-pair.invariant) c.in_err-bits_refusal.ensures

pub returns : goal.returns
returns c = sym (first_none _ _ (elim c.in-None.ensures.steps [ inl x ↦ inl x.1.0 | inr y ↦ inr y.1.0 ])) ∙ c.loop-pair.invariant
