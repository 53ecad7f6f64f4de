-- Laws of `Within`, `Apart` and `Permitted`, at any width, and the equations of words that they are.
-- Assumes nothing.
use mathlib.Core.Path.{◌≡◌, refl, ap}
use mathlib.Core.Bool.{Bool, true, false, not, ◌&&◌, ◌||◌}
use Prim.Native.Nat.{ℕ, zero, suc, ◌*◌, ◌/◌, ◌%◌, ◌^◌, ◌<◌}
use lib.Bits.{bit_and, bit_or}
use lib.Dec.{T, eqb, T_not, not_T, eqb→eq}
use lib.Pow.{pow_mono, pow_pos}
use borrow.Author.Tests.{eq-eqb, ne_eqb}
use native.Mathlib.Nat.{div-eq_of_lt, div_self, lt_of_lt_of_le, lt_of_not-le, pow-suc, mul-mod_left}
use native.Mathlib.Omega.{arith}
use Rattle.bits.specs.Words.{bit_not, bit, flag, Within, Apart}
use Rattle.bits.proofs.BitLaws.{is_flag, bit-and, bit-or, bit-not, bit_of_zero, bit_zero, bit_suc, same_bits}

-- ---- tests

pub and_l : (x y : Bool) → T (x && y) → T x
and_l true y t = tt
and_l false y t = t

pub and_r : (x y : Bool) → T (x && y) → T y
and_r true y t = t
and_r false y t = absurd t

and_i : (x y : Bool) → T x → T y → T (x && y)
and_i true y s t = t
and_i false y s t = s

or_l : (x y : Bool) → T x → T (x || y)
or_l true y t = tt
or_l false y t = absurd t

or_r : (x y : Bool) → T y → T (x || y)
or_r true y t = tt
or_r false y t = t

or_e : {C : Type 0} (x y : Bool) → T (x || y) → (T x → C) → (T y → C) → C
or_e true y t f g = f t
or_e false y t f g = g t

pub is_true : (x : Bool) → T x → x ≡ true
is_true true t = refl
is_true false t = absurd t

pub is_false : (x : Bool) → (T x → ⊥) → x ≡ false
is_false true n = absurd (n tt)
is_false false n = refl

pub or_false : (x : Bool) → (x || false) ≡ x
or_false true = refl
or_false false = refl

-- a test that cannot fail holds
elim_test : (x : Bool) → ((T x → ⊥) → ⊥) → T x
elim_test true n = tt
elim_test false n = n (λ t. t)

same_test : (x y : Bool) → (T x → T y) → (T y → T x) → x ≡ y
same_test true true f g = refl
same_test true false f g = absurd (f tt)
same_test false true f g = absurd (g tt)
same_test false false f g = refl

-- ---- the same at a bit of a word

module _ (i a b : ℕ) where
  pub has_and : T (bit i a) → T (bit i b) → T (bit i (bit_and a b))
  has_and s t = rw (bit-and i a b) (and_i (bit i a) (bit i b) s t)

  pub and_has_l : T (bit i (bit_and a b)) → T (bit i a)
  and_has_l t = and_l (bit i a) (bit i b) (rw (bit-and i a b) at t)

  pub and_has_r : T (bit i (bit_and a b)) → T (bit i b)
  and_has_r t = and_r (bit i a) (bit i b) (rw (bit-and i a b) at t)

  pub has_or_l : T (bit i a) → T (bit i (bit_or a b))
  has_or_l t = rw (bit-or i a b) (or_l (bit i a) (bit i b) t)

  pub has_or_r : T (bit i b) → T (bit i (bit_or a b))
  has_or_r t = rw (bit-or i a b) (or_r (bit i a) (bit i b) t)

  pub or_has : {C : Type 0} → T (bit i (bit_or a b)) → (T (bit i a) → C) → (T (bit i b) → C) → C
  or_has t f g = or_e (bit i a) (bit i b) (rw (bit-or i a b) at t) f g

-- ---- words

pub within_refl : (a : ℕ) → Within a a
within_refl a = record { has = λ i t. t }

pub within_or_l : (a b c : ℕ) → Within c a → Within c (bit_or a b)
within_or_l a b c p = record { has = λ i t. has_or_l i a b (p.has i t) }

pub within_or_r : (a b c : ℕ) → Within c b → Within c (bit_or a b)
within_or_r a b c p = record { has = λ i t. has_or_r i a b (p.has i t) }

pub or_within : (a b c : ℕ) → Within a c → Within b c → Within (bit_or a b) c
or_within a b c p q = record { has = λ i t. or_has i a b t (p.has i) (q.has i) }

pub and_within_l : (a b c : ℕ) → Within a c → Within (bit_and a b) c
and_within_l a b c p = record { has = λ i t. p.has i (and_has_l i a b t) }

pub and_within_r : (a b c : ℕ) → Within b c → Within (bit_and a b) c
and_within_r a b c p = record { has = λ i t. p.has i (and_has_r i a b t) }

pub within_and : (a b c : ℕ) → Within c a → Within c b → Within c (bit_and a b)
within_and a b c p q = record { has = λ i t. has_and i a b (p.has i t) (q.has i t) }

pub apart_sym : (a b : ℕ) → Apart a b → Apart b a
apart_sym a b p = record { lacks = λ i s t. p.lacks i t s }

pub apart_or : (a b c : ℕ) → Apart c a → Apart c b → Apart c (bit_or a b)
apart_or a b c p q = record { lacks = λ i s t. or_has i a b t (p.lacks i s) (q.lacks i s) }

pub apart_and_l : (a b c : ℕ) → Apart c a → Apart c (bit_and a b)
apart_and_l a b c p = record { lacks = λ i s t. p.lacks i s (and_has_l i a b t) }

pub apart_and_r : (a b c : ℕ) → Apart c b → Apart c (bit_and a b)
apart_and_r a b c p = record { lacks = λ i s t. p.lacks i s (and_has_r i a b t) }

-- the rules by which `search words` proves `Within` and `Apart` of words made with `&` and `|`
pub ruleset words = (within_refl, within_or_l, within_or_r, or_within, and_within_l, and_within_r, within_and, apart_or, apart_and_l, apart_and_r)

-- ---- as equations of words

pub within_of : (a b : ℕ) → bit_and a b ≡ a → Within a b
within_of a b e = record { has = λ i t. and_has_r i a b (rw e t) }

pub within_eq : (a b : ℕ) → Within a b → bit_and a b ≡ a
within_eq a b p = same_bits (bit_and a b) a (λ i. same_test (bit i (bit_and a b)) (bit i a) (and_has_l i a b) (λ t. has_and i a b t (p.has i t)))

no_bit : (i : ℕ) → T (bit i 0) → ⊥
no_bit i t = rw (bit_of_zero i) at t

pub apart_of : (a b : ℕ) → bit_and a b ≡ 0 → Apart a b
apart_of a b e = record { lacks = λ i s t. no_bit i (rw e at (has_and i a b s t)) }

pub apart_eq : (a b : ℕ) → Apart a b → bit_and a b ≡ 0
apart_eq a b p = same_bits (bit_and a b) 0 (λ i. same_test (bit i (bit_and a b)) (bit i 0) (λ t. absurd (p.lacks i (and_has_l i a b t) (and_has_r i a b t))) (λ t. absurd (no_bit i t)))

-- ---- as tests of the code: `a & b == a` and `a & b == 0`

pub within_test : (a b : ℕ) → Within a b → eqb (bit_and a b) a ≡ true
within_test a b p = eq-eqb (bit_and a b) a (within_eq a b p)

pub within_fails : (a b : ℕ) → (Within a b → ⊥) → eqb (bit_and a b) a ≡ false
within_fails a b n = ne_eqb (bit_and a b) a (λ e. n (within_of a b e))

pub apart_test : (a b : ℕ) → Apart a b → eqb (bit_and a b) 0 ≡ true
apart_test a b p = eq-eqb (bit_and a b) 0 (apart_eq a b p)

pub apart_fails : (a b : ℕ) → (Apart a b → ⊥) → eqb (bit_and a b) 0 ≡ false
apart_fails a b n = ne_eqb (bit_and a b) 0 (λ e. n (apart_of a b e))

pub ruleset word_tests = (within_test, within_fails, apart_test, apart_fails)

-- ---- the complement, at width w

-- a bit of a word of w bits is below w
pub bit_below : (w i a : ℕ) → a < 2 ^ w → T (bit i a) → i < w
bit_below w i a h t = lt_of_not-le {n = w} {m = i} (λ l. rw (div-eq_of_lt (lt_of_lt_of_le h (pow_mono l))) at t)

module _ (w a : ℕ) (fits : a < 2 ^ w) where
  pub apart_not : (c : ℕ) → Within c a → Apart c (bit_not w a)
  apart_not c p =
      record { lacks = λ i s t. T_not (bit i a) (rw (bit-not w i a (bit_below w i a fits (p.has i s)) fits) at t) (p.has i s) }

  pub has_not : (i : ℕ) → i < w → (T (bit i a) → ⊥) → T (bit i (bit_not w a))
  has_not i l n = rw (bit-not w i a l fits) (not_T (bit i a) n)

  pub within_not : (c : ℕ) → c < 2 ^ w → Apart c a → Within c (bit_not w a)
  within_not c h p = record { has = λ i t. has_not i (bit_below w i c h t) (p.lacks i t) }

-- ---- the word with bit k alone

even : (n : ℕ) → T (eqb (n * 2 % 2) 1) → ⊥
even n t = rw (mul-mod_left n 2) at t

half : (k : ℕ) → 2 ^ suc k / 2 ≡ 2 ^ k
half k = omega (arith, pow-suc 2 k)

pub bit_pow : (k i : ℕ) → T (bit i (2 ^ k)) → i ≡ k
bit_pow zero zero t = refl
bit_pow zero (suc i) t = absurd (no_bit i (rw (bit_suc i 1) at t))
bit_pow (suc k) zero t = absurd (even (2 ^ k) (rw (pow-suc 2 k) at (rw (bit_zero (2 ^ suc k)) at t)))
bit_pow (suc k) (suc i) t = ap suc (bit_pow k i (rw (half k) at (rw (bit_suc i (2 ^ suc k)) at t)))

pub within_pow : (k a : ℕ) → T (bit k a) → Within (2 ^ k) a
within_pow k a h = record { has = λ i t. rw (bit_pow k i t) h }

pub apart_pow : (k a : ℕ) → (T (bit k a) → ⊥) → Apart a (2 ^ k)
apart_pow k a n = record { lacks = λ i s t. n (rw (bit_pow k i t) at s) }

pub bit_own : (k : ℕ) → T (bit k (2 ^ k))
bit_own k = rw (div_self (pow_pos k)) tt

-- the test `a & 2^k != 0` is bit k
pub bit_test : (k a : ℕ) → not (eqb (bit_and a (2 ^ k)) 0) ≡ bit k a
bit_test k a =
    same_test (not (eqb (bit_and a (2 ^ k)) 0)) (bit k a)
    (λ t. elim_test (bit k a) (λ n. T_not (eqb (bit_and a (2 ^ k)) 0) t (rw (apart_test a (2 ^ k) (apart_pow k a n)) tt)))
    (λ t. not_T (eqb (bit_and a (2 ^ k)) 0) (λ z. (apart_of a (2 ^ k) (eqb→eq (bit_and a (2 ^ k)) 0 z)).lacks k t (bit_own k)))

-- a bit as a digit: `a / 2^k % 2`
pub bit_flag : (k a : ℕ) → a / 2 ^ k % 2 ≡ flag (bit k a)
bit_flag k a = is_flag (a / 2 ^ k % 2) (omega arith)
