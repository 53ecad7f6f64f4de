-- The five words of an accepted setup are permitted, and the masks of CR0 and CR4 own what the processor fixes. Assumes nothing.
use mathlib.Core.Path.{◌≡◌, refl}
use mathlib.Core.Bool.{Bool, true, false, not, cond, ◌&&◌}
use mathlib.Core.List.{List}
use Prim.Native.Nat.{ℕ, zero, suc, ◌<◌, ◌^◌}
use native.Mathlib.Omega.{arith}
use native.Mathlib.Nat.{lt_of_le_of_lt}
use lib.Bits.{bit_and, bit_or, and_le_l}
use lib.Dec.{T, eqb, eqb→eq, lit<}
use lib.ListN.{get_or}
use borrow.Author.Tests.{eqb-true}
use Rattle.bits.specs.Words.{bit_not, bit, Within, Permitted}
use Rattle.bits.proofs.Tells.{both_zero}
use Rattle.bits.proofs.WordLaws as W
use Rattle.vmcs.specs.Control.{pair_at, control_word, EachPermitted}
use Rattle.vmcs.specs.Cr.{cr0_free, cr0_off, cr0_words, cr4_words}
use Rattle.vmcs.specs.declared.controls.Pair.{Pair}
use Rattle.vmcs.proofs.ControlLaws.{control_permitted, five}
use Rattle.vcpu_setup.specs.Words.{pin_set, primary_set, primary_clear, secondary_set, exit_set, entry_set, bits_refusal, words_refusal, setup_words}
use Rattle.vcpu_setup.specs.Setup.{pair_consistent}
use Rattle.vcpu_setup.specs.declared.Features.{Features}
use Rattle.vcpu_setup.specs.Laws.{Owns}

no_eight : (a b : Bool) → cond {A = ℕ} (not a) 8 (cond (not b) 9 0) ≡ 0 → a ≡ true
no_eight true b e = refl
no_eight false b e = absurd (omega arith)

settable : (pair : Pair) (set clear : ℕ) → bits_refusal pair set clear ≡ 0 → Within set pair.allowed1
unfolding bits_refusal
settable pair set clear e =
    W.within_of set pair.allowed1 (eqb-true _ _ (no_eight (eqb (bit_and set pair.allowed1) set) (eqb (bit_and pair.allowed0 clear) 0) e))

module _ (pairs : List Pair) (olds : List ℕ) (f : Features)
    (consistent : T (pair_consistent (pair_at pairs 0) && pair_consistent (pair_at pairs 1) && pair_consistent (pair_at pairs 2) && pair_consistent (pair_at pairs 3) && pair_consistent (pair_at pairs 4)))
    (passed : words_refusal pairs f ≡ 0) where
  within : (k : ℕ) → k < 5 → Within (pair_at pairs k).allowed0 (pair_at pairs k).allowed1
  within k h = W.within_of _ _ (eqb→eq _ _ (five (λ j. pair_consistent (pair_at pairs j)) consistent k h))

  one : (k set clear : ℕ) → k < 5 → bits_refusal (pair_at pairs k) set clear ≡ 0
      → Permitted (pair_at pairs k).allowed0 (pair_at pairs k).allowed1
      (control_word 32 (pair_at pairs k).allowed0 (pair_at pairs k).allowed1 (get_or olds k 0) set clear)
  one k set clear h z = control_permitted 32 _ _ (get_or olds k 0) set clear (within k h) (settable (pair_at pairs k) set clear z)

  each : (k : ℕ) → k < 5 → Permitted (pair_at pairs k).allowed0 (pair_at pairs k).allowed1 (get_or (setup_words pairs olds f) k 0)
  unfolding words_refusal setup_words
  each zero h = one 0 pin_set 0 h (both_zero _ _ passed).0
  each (suc zero) h = one 1 primary_set primary_clear h (both_zero _ _ (both_zero _ _ passed).1).0
  each (suc (suc zero)) h = one 2 (secondary_set f) 0 h (both_zero _ _ (both_zero _ _ (both_zero _ _ passed).1).1).0
  each (suc (suc (suc zero))) h = one 3 exit_set 0 h (both_zero _ _ (both_zero _ _ (both_zero _ _ (both_zero _ _ passed).1).1).1).0
  each (suc (suc (suc (suc zero)))) h = one 4 entry_set 0 h (both_zero _ _ (both_zero _ _ (both_zero _ _ (both_zero _ _ passed).1).1).1).1
  each (suc (suc (suc (suc (suc k))))) h = absurd (omega arith)

  pub setup_permitted : EachPermitted pairs (setup_words pairs olds f)
  setup_permitted = record { permitted = each }

-- ---- the masks

-- must0: what may be 1. must1: what must be 1
owned : (free fixed0 fixed1 must0 must1 : ℕ) → must0 < 2 ^ 64 → Within must0 fixed1 → ((i : ℕ) → T (bit i fixed0) → (T (bit i free) → ⊥) → T (bit i must1))
    → Owns free fixed0 fixed1 (bit_or must1 (bit_not 64 must0))
owned free fixed0 fixed1 must0 must1 h may covers =
    record {
      ones = λ i t n. W.has_or_l i must1 (bit_not 64 must0) (covers i t n);
      zeros = λ i l n. W.has_or_r i must1 (bit_not 64 must0) (W.has_not 64 must0 h i l (λ t. n (may.has i t)));
    }

pub cr0_owned : (fixed0 fixed1 val : ℕ) → fixed0 < 2 ^ 64 → fixed1 < 2 ^ 64 → Owns cr0_free fixed0 fixed1 (cr0_words fixed0 fixed1 val).mask
cr0_owned fixed0 fixed1 val h0 h1 =
    owned cr0_free fixed0 fixed1 (bit_and fixed1 (bit_not 64 cr0_off)) (bit_and fixed0 (bit_not 64 cr0_free)) (lt_of_le_of_lt (and_le_l fixed1 (bit_not 64 cr0_off)) h1) (search W.words)
    (λ i t n. W.has_and i fixed0 (bit_not 64 cr0_free) t (W.has_not 64 cr0_free (lit< tt) i (W.bit_below 64 i fixed0 h0 t) n))

pub cr4_owned : (fixed0 fixed1 val : ℕ) → fixed1 < 2 ^ 64 → Owns 0 fixed0 fixed1 (cr4_words fixed0 fixed1 val).mask
cr4_owned fixed0 fixed1 val h1 = owned 0 fixed0 fixed1 fixed1 fixed0 h1 (W.within_refl fixed1) (λ i t n. t)
