-- The laws of a control word, at any width: what an accepted word holds, when each refusal comes, and that
-- setting or clearing one flexible bit of a permitted word leaves it permitted. Assumes nothing.
use mathlib.Core.Path.{◌≡◌, refl}
use mathlib.Core.Bool.{Bool, true, false, not, cond, ◌&&◌}
use mathlib.Core.List.{List}
use Prim.Native.Nat.{ℕ, zero, suc, ◌^◌, ◌<◌}
use native.Mathlib.Omega.{arith}
use lib.Bits.{bit_and, bit_or, or_lt}
use lib.Dec.{T, eqb, eqb→eq}
use lib.ListN.{get_or}
use lib.Pow.{pow-lt}
use borrow.Author.Tests.{eqb-true, eqb-false}
use Rattle.bits.specs.Words.{bit_not, bit, Within, Apart, Permitted}
use Rattle.vmcs.specs.Control.{control_word, set_control, word_permitted, all_permitted, pair_at, Accepted, Answers, Outcome, six, seven, eight, nine, accepted, EachPermitted}
use Rattle.vmcs.specs.declared.controls.Pair.{Pair}
use Rattle.std.specs.Prelude.{Result, Ok, Err}
use Rattle.bits.proofs.BitLaws.{bit-and, bit-or, bit-not}
use Rattle.bits.proofs.WordLaws as W
use Rattle.bits.proofs.WordLaws.{words, word_tests}

-- ---- which answer

module _ (w allowed0 allowed1 old set clear : ℕ) where
  pub answers : Answers allowed0 allowed1 set clear (control_word w allowed0 allowed1 old set clear) (set_control w allowed0 allowed1 old set clear)
  unfolding set_control
  answers =
      record {
        six = λ n. simp word_tests;
        seven = λ p n. simp word_tests;
        eight = λ p q n. simp word_tests;
        nine = λ p q r n. simp word_tests;
        accepted = λ p q r s. simp word_tests;
      }

-- a test of words and what it says
module _ (a b : ℕ) where
  within_if : eqb (bit_and a b) a ≡ true → Within a b
  within_if e = W.within_of a b (eqb-true _ _ e)

  within_not : eqb (bit_and a b) a ≡ false → Within a b → ⊥
  within_not e p = eqb-false _ _ e (W.within_eq a b p)

  apart_if : eqb (bit_and a b) 0 ≡ true → Apart a b
  apart_if e = W.apart_of a b (eqb-true _ _ e)

  apart_not : eqb (bit_and a b) 0 ≡ false → Apart a b → ⊥
  apart_not e p = eqb-false _ _ e (W.apart_eq a b p)

pub outcome : (w allowed0 allowed1 old set clear : ℕ)
    → Outcome allowed0 allowed1 set clear (control_word w allowed0 allowed1 old set clear) (set_control w allowed0 allowed1 old set clear)
unfolding set_control
outcome w allowed0 allowed1 old set clear =
    go (eqb (bit_and allowed0 allowed1) allowed0) (eqb (bit_and set clear) 0) (eqb (bit_and set allowed1) set) (eqb (bit_and allowed0 clear) 0)
    (within_if _ _) (within_not _ _) (apart_if _ _) (apart_not _ _) (within_if _ _) (within_not _ _) (apart_if _ _) (apart_not _ _)
  where
    go : (p q r s : Bool) → (p ≡ true → Within allowed0 allowed1) → (p ≡ false → Within allowed0 allowed1 → ⊥)
        → (q ≡ true → Apart set clear) → (q ≡ false → Apart set clear → ⊥)
        → (r ≡ true → Within set allowed1) → (r ≡ false → Within set allowed1 → ⊥)
        → (s ≡ true → Apart allowed0 clear) → (s ≡ false → Apart allowed0 clear → ⊥)
        → Outcome allowed0 allowed1 set clear (control_word w allowed0 allowed1 old set clear)
        (cond (not p) (Err 6) (cond (not q) (Err 7) (cond (not r) (Err 8) (cond (not s) (Err 9) (Ok (control_word w allowed0 allowed1 old set clear))))))
    go false q r s p1 p0 q1 q0 r1 r0 s1 s0 = six (p0 refl)
    go true false r s p1 p0 q1 q0 r1 r0 s1 s0 = seven (p1 refl) (q0 refl)
    go true true false s p1 p0 q1 q0 r1 r0 s1 s0 = eight (p1 refl) (q1 refl) (r0 refl)
    go true true true false p1 p0 q1 q0 r1 r0 s1 s0 = nine (p1 refl) (q1 refl) (r1 refl) (s0 refl)
    go true true true true p1 p0 q1 q0 r1 r0 s1 s0 = accepted (p1 refl) (q1 refl) (r1 refl) (s1 refl)

-- ---- what an accepted word holds

-- the word is permitted, whatever old and clear are
pub control_permitted : (w allowed0 allowed1 old set clear : ℕ) → Within allowed0 allowed1 → Within set allowed1
    → Permitted allowed0 allowed1 (control_word w allowed0 allowed1 old set clear)
unfolding control_word
control_permitted w allowed0 allowed1 old set clear consistent settable =
    record { required = search words; allowed = search words depth 8 }

-- an answer that is a word comes of four tests that all passed
passed : (a b c d : Bool) (x v : ℕ)
    → cond {A = Result ℕ ℕ} (not a) (Err 6) (cond (not b) (Err 7) (cond (not c) (Err 8) (cond (not d) (Err 9) (Ok x)))) ≡ Ok v
    → (a ≡ true) × (b ≡ true) × (c ≡ true) × (d ≡ true) × (x ≡ v)
passed true true true true x v e = (refl, refl, refl, refl, cc)
passed true true true false x v e = absurd (let z : ◌≡◌ {A = ℕ} 0 1 = cc in omega arith)
passed true true false d x v e = absurd (let z : ◌≡◌ {A = ℕ} 0 1 = cc in omega arith)
passed true false c d x v e = absurd (let z : ◌≡◌ {A = ℕ} 0 1 = cc in omega arith)
passed false b c d x v e = absurd (let z : ◌≡◌ {A = ℕ} 0 1 = cc in omega arith)

module _ (w allowed0 allowed1 old set clear : ℕ)
    (fits0 : allowed0 < 2 ^ w) (fits1 : allowed1 < 2 ^ w) (fits-set : set < 2 ^ w) (fits-clear : clear < 2 ^ w)
    (consistent : Within allowed0 allowed1) (apart : Apart set clear) (settable : Within set allowed1) (clearable : Apart allowed0 clear) where
  abbrev word : ℕ
  word = control_word w allowed0 allowed1 old set clear

  fits_touched : bit_or set clear < 2 ^ w
  fits_touched = or_lt w set clear fits-set fits-clear

  clear_word : Apart clear word
  unfolding control_word
  clear_word =
      let h : Apart clear allowed0 = W.apart_sym allowed0 clear clearable in
      let k : Apart clear set = W.apart_sym set clear apart in
      let n : Apart clear (bit_not w (bit_or set clear)) = W.apart_not w (bit_or set clear) fits_touched clear (search words) in
      search words

  kept_bit : (i : ℕ) → T (bit i allowed1) → (T (bit i allowed0) → ⊥) → (T (bit i set) → ⊥) → (T (bit i clear) → ⊥) → bit i word ≡ bit i old
  unfolding control_word
  kept_bit i may must unset uncleared =
      let l : i < w = W.bit_below w i allowed1 fits1 may in
      simp (
        bit-or,
        bit-and,
        bit-not w i allowed0 l fits0,
        bit-not w i (bit_or set clear) l fits_touched,
        W.is_true (bit i allowed1) may,
        W.is_false (bit i allowed0) must,
        W.is_false (bit i set) unset,
        W.is_false (bit i clear) uncleared,
        W.or_false,
      )

  accepted_word : Accepted allowed0 allowed1 old set clear word
  unfolding control_word
  accepted_word =
      record {
        permitted = control_permitted w allowed0 allowed1 old set clear consistent settable;
        is_set = search words;
        is_clear = clear_word;
        kept = kept_bit;
      }

-- a word that is answered is as the manual asks: the theorem to cite
pub accepted_holds : (w allowed0 allowed1 old set clear v : ℕ) → allowed0 < 2 ^ w → allowed1 < 2 ^ w → set < 2 ^ w → clear < 2 ^ w
    → set_control w allowed0 allowed1 old set clear ≡ Ok v → Accepted allowed0 allowed1 old set clear v
unfolding set_control
accepted_holds w allowed0 allowed1 old set clear v h0 h1 hs hc e =
    let p = passed (eqb (bit_and allowed0 allowed1) allowed0) (eqb (bit_and set clear) 0) (eqb (bit_and set allowed1) set) (eqb (bit_and allowed0 clear) 0)
    (control_word w allowed0 allowed1 old set clear) v e in
    rw p.4 at
    (accepted_word w allowed0 allowed1 old set clear h0 h1 hs hc
    (W.within_of allowed0 allowed1 (eqb-true _ _ p.0))
    (W.apart_of set clear (eqb-true _ _ p.1))
    (W.within_of set allowed1 (eqb-true _ _ p.2))
    (W.apart_of allowed0 clear (eqb-true _ _ p.3)))

-- ---- one bit of a permitted word, as interrupt-window exiting

pub set_permitted : (allowed0 allowed1 word k : ℕ) → Permitted allowed0 allowed1 word → T (bit k allowed1) → Permitted allowed0 allowed1 (bit_or word (2 ^ k))
set_permitted allowed0 allowed1 word k p h =
    let b : Within (2 ^ k) allowed1 = W.within_pow k allowed1 h in
    record { required = search words; allowed = search words }

pub clear_permitted : (w allowed0 allowed1 word k : ℕ) → allowed0 < 2 ^ w → k < w → Permitted allowed0 allowed1 word → (T (bit k allowed0) → ⊥) → Permitted allowed0 allowed1 (bit_and word (bit_not w (2 ^ k)))
clear_permitted w allowed0 allowed1 word k h0 hk p h =
    let b : Within allowed0 (bit_not w (2 ^ k)) = W.within_not w (2 ^ k) (pow-lt hk) allowed0 h0 (W.apart_pow k allowed0 h) in
    record { required = search words; allowed = search words }

-- ---- the check of words against pairs is the property

-- five tests joined, one by one
pub five : (f : ℕ → Bool) → T (f 0 && f 1 && f 2 && f 3 && f 4) → (k : ℕ) → k < 5 → T (f k)
five f t zero h = W.and_l (f 0) _ (W.and_l (f 0 && f 1) _ (W.and_l (f 0 && f 1 && f 2) _ (W.and_l (f 0 && f 1 && f 2 && f 3) _ t)))
five f t (suc zero) h = W.and_r (f 0) _ (W.and_l (f 0 && f 1) _ (W.and_l (f 0 && f 1 && f 2) _ (W.and_l (f 0 && f 1 && f 2 && f 3) _ t)))
five f t (suc (suc zero)) h = W.and_r (f 0 && f 1) _ (W.and_l (f 0 && f 1 && f 2) _ (W.and_l (f 0 && f 1 && f 2 && f 3) _ t))
five f t (suc (suc (suc zero))) h = W.and_r (f 0 && f 1 && f 2) _ (W.and_l (f 0 && f 1 && f 2 && f 3) _ t)
five f t (suc (suc (suc (suc zero)))) h = W.and_r (f 0 && f 1 && f 2 && f 3) _ t
five f t (suc (suc (suc (suc (suc k))))) h = absurd (omega arith)

pub permitted_of : (pair : Pair) (word : ℕ) → T (word_permitted pair word) → Permitted pair.allowed0 pair.allowed1 word
permitted_of pair word t =
    record {
      required = W.within_of pair.allowed0 word (eqb→eq _ _ (W.and_l (eqb (bit_and pair.allowed0 word) pair.allowed0) _ t));
      allowed = W.within_of word pair.allowed1 (eqb→eq _ _ (W.and_r (eqb (bit_and pair.allowed0 word) pair.allowed0) _ t));
    }

pub of_permitted : (pair : Pair) (word : ℕ) → Permitted pair.allowed0 pair.allowed1 word → T (word_permitted pair word)
of_permitted pair word p = simp (W.within_test _ _ p.required, W.within_test _ _ p.allowed) tt

-- all five, exactly where each is permitted by its own pair
pub each_permitted : (pairs : List Pair) (words : List ℕ) → T (all_permitted pairs words) → EachPermitted pairs words
each_permitted pairs words t = record { permitted = each }
  where
    each : (k : ℕ) → k < 5 → Permitted (pair_at pairs k).allowed0 (pair_at pairs k).allowed1 (get_or words k 0)
    each k h = permitted_of (pair_at pairs k) (get_or words k 0) (five (λ j. word_permitted (pair_at pairs j) (get_or words j 0)) t k h)
