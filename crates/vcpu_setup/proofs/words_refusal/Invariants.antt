use mathlib.Core.Path.{◌≡◌}
use Rattle.vcpu_setup.specs.Words.{words_refusal}
use Rattle.vcpu_setup.proofs.DemandLaws.{first_refusal}
use Rattle.vcpu_setup.proofs.words_refusal.Given as goal

-- the words that are left are refused as all of them
abbrev pub invariant-loop-pair : goal.invariant-loop-pair
invariant-loop-pair l = first_refusal l.pair-iterator.a.rest.now l.pair-iterator.b.rest.now ≡ words_refusal l.fn.pairs l.fn.f
