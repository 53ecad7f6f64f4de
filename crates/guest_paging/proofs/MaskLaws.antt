-- A word meets the word with listed bits exactly where one of those bits is set in it. Assumes nothing.
use Prim.Native.Nat.{ℕ, ◌^◌}
use mathlib.Core.Path.{◌≡◌, refl}
use mathlib.Core.Bool.{Bool, true, false, not, ◌||◌, false≢true}
use mathlib.Core.List.{List, [], ◌∷◌}
use mathlib.Core.Logic.{inl, inr}
use lib.Bits.{bit_and}
use lib.Dec.{T, eqb}
use Rattle.bits.specs.Words.{bit, mask_of, Apart}
use Rattle.bits.proofs.BitLaws.{bit_of_zero}
use Rattle.bits.proofs.WordLaws.{apart_or, apart_pow, apart_test, apart_fails, within_refl, within_or_l, within_or_r, bit_own, is_true}
use Rattle.bits.proofs.Tells.{Tells, tells_on, tells_or, tells_is}
use Rattle.guest_paging.specs.Reference.{OneSet}

abbrev one_set : List ℕ → ℕ → Bool
one_set [] e = false
one_set (k ∷ ks) e = bit k e || one_set ks e

one_tells : (ks : List ℕ) (e : ℕ) → Tells (one_set ks e) (OneSet ks e)
one_tells [] e = record { yes_so = λ h. absurd (false≢true h); not_so = λ h o. o }
one_tells (k ∷ ks) e = tells_or (tells_on (bit k e)) (one_tells ks e)

none_apart : (ks : List ℕ) (e : ℕ) → (OneSet ks e → ⊥) → Apart e (mask_of ks)
none_apart [] e n = record { lacks = λ i s t. rw (bit_of_zero i) at t }
none_apart (k ∷ ks) e n = apart_or (2 ^ k) (mask_of ks) e (apart_pow k e (λ t. n (inl (is_true (bit k e) t)))) (none_apart ks e (λ o. n (inr o)))

holds : (b : Bool) → b ≡ true → T b
holds true e = tt
holds false e = absurd (false≢true e)

one_meets : (ks : List ℕ) (e : ℕ) → OneSet ks e → Apart e (mask_of ks) → ⊥
one_meets [] e o p = elim o [ ]
one_meets (k ∷ ks) e (inl h) p = p.lacks k (holds (bit k e) h) ((within_or_l (2 ^ k) (mask_of ks) (2 ^ k) (within_refl (2 ^ k))).has k (bit_own k))
one_meets (k ∷ ks) e (inr o) p =
    one_meets ks e o (record { lacks = λ i s t. p.lacks i s ((within_or_r (2 ^ k) (mask_of ks) (mask_of ks) (within_refl (mask_of ks))).has i t) })

pub mask_tells : (ks : List ℕ) (e : ℕ) → Tells (not (eqb (bit_and e (mask_of ks)) 0)) (OneSet ks e)
mask_tells ks e = tells_is (go (one_set ks e) refl) (one_tells ks e)
  where
    go : (b : Bool) → one_set ks e ≡ b → not (eqb (bit_and e (mask_of ks)) 0) ≡ b
    go true h = rw (apart_fails e (mask_of ks) (one_meets ks e ((one_tells ks e).yes_so h)))
    go false h = rw (apart_test e (mask_of ks) (none_apart ks e ((one_tells ks e).not_so h)))
