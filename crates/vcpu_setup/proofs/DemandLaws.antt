-- The refusal of the five words, as that of the first word of a list that cannot be had. Assumes nothing.
use mathlib.Core.Path.{◌≡◌, refl, sym, ap, ◌∙◌}
use mathlib.Core.List.{List, [], ◌∷◌}
use mathlib.Core.Logic.{◌≢◌, ◌⊎◌, inl, inr}
use Prim.Native.Nat.{ℕ}
use lib.Dec.{eqb}
use lib.ListN.{length}
use native.Mathlib.Omega.{arith}
use borrow.Author.Tests.{eqb-true, ne_eqb}
use Rattle.bits.specs.Refuses.{or_else}
use Rattle.bits.proofs.Tells.{cond_all}
use Rattle.definitions.specs.Refusals.{number}
use Rattle.definitions.specs.declared.refusal.Refusal.{Refusal}
use Rattle.definitions.specs.declared.refusal.Refusal.TheVariants.{Phase}
use Rattle.vmcs.specs.Control.{pair_at, no_pair}
use Rattle.vmcs.specs.declared.controls.Pair.{Pair}
use Rattle.vcpu_setup.specs.Words.{pin_set, primary_set, primary_clear, secondary_set, exit_set, entry_set, demands, bits_refusal, words_refusal}
use Rattle.vcpu_setup.specs.declared.Demand.{Demand}
use Rattle.vcpu_setup.specs.declared.Features.{Features}
use Rattle.std.proofs.lemmas.List.FromFn.{fill_by_all}

abbrev pub first_refusal : List Pair → List Demand → ℕ
first_refusal [] ds = 0
first_refusal (p ∷ ps) [] = 0
first_refusal (p ∷ ps) (d ∷ ds) = or_else (bits_refusal p d.set d.clear) (first_refusal ps ds)

or_none : (a : ℕ) → or_else a 0 ≡ a
unfolding or_else
or_none a = cond_all (λ (x : ℕ). x ≡ a) (eqb a 0) _ _ (λ t. sym (eqb-true a 0 t)) (λ _. refl)

pub words_first : (pairs : List Pair) (f : Features) → length pairs ≡ 5 → first_refusal pairs (demands f) ≡ words_refusal pairs f
unfolding words_refusal
words_first pairs f e =
    let at : ℕ → ℕ → ℕ → ℕ = λ k set clear. bits_refusal (pair_at pairs k) set clear in
    let five = fill_by_all (pair_at pairs) pairs 5 no_pair e (λ k h. refl) in
    ap (λ (ps : List Pair). first_refusal ps (demands f)) five
    ∙ ap (λ (n : ℕ). or_else (at 0 pin_set 0) (or_else (at 1 primary_set primary_clear) (or_else (at 2 (secondary_set f) 0) (or_else (at 3 exit_set 0) n)))) (or_none (at 4 entry_set 0))

-- ---- one word, and the others

-- the number of a refusal is not 0
pub number_some : (e : Refusal) → number e ≢ 0
number_some Phase = omega arith
number_some _ = omega arith

-- a word that can be had, before the others
pub first_passes : (p : Pair) (d : Demand) (ps : List Pair) (ds : List Demand) {n : ℕ} → first_refusal (p ∷ ps) (d ∷ ds) ≡ n → 0 ≡ bits_refusal p d.set d.clear → first_refusal ps ds ≡ n
unfolding or_else
first_passes p d ps ds e z = rw (← z) at e

-- a word that cannot
pub first_refuses : (p : Pair) (d : Demand) (ps : List Pair) (ds : List Demand) {n : ℕ} (e : Refusal)
    → first_refusal (p ∷ ps) (d ∷ ds) ≡ n → number e ≡ bits_refusal p d.set d.clear → number e ≡ n
unfolding or_else
first_refuses p d ps ds e f z = rw (← z, ne_eqb (number e) 0 (number_some e)) at f

-- no word
pub first_none : (ps : List Pair) (ds : List Demand) → (length ps ≡ 0) ⊎ (length ds ≡ 0) → first_refusal ps ds ≡ 0
first_none [] ds h = refl
first_none (p ∷ ps) [] h = refl
first_none (p ∷ ps) (d ∷ ds) (inl h) = absurd (omega arith)
first_none (p ∷ ps) (d ∷ ds) (inr h) = absurd (omega arith)
