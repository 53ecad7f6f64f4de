-- The bit laws, at any width: bit i of `a & b`, `a | b`, `a ^ b` and `!a`; two words with the same bits are equal.
-- Assumes nothing.
use mathlib.Core.Path.{◌≡◌, refl, sym, ap, ap₂, ◌∙◌}
use mathlib.Core.Bool.{Bool, true, false, not, ◌&&◌, ◌||◌, beq}
use Prim.Native.Nat.{ℕ, zero, suc, ◌+◌, ◌-◌, ◌*◌, ◌/◌, ◌%◌, ◌^◌, ◌<◌, min, max}
use native.Mathlib.Nat.{pow-suc, div-one, zero-div}
use native.Mathlib.Numerals.{one-add}
use native.Mathlib.Omega.{arith}
use lib.Arith.{digits_mod}
use lib.Bits.{bit_and, bit_or, bit_xor, differ, and_step, or_step, xor_step, and_shr, or_shr, xor_shr}
use lib.Dec.{eqb}
use lib.Pow.{shr-shr, pow_pos}
use Rattle.bits.specs.Words.{bit_not, bit, flag}

-- ---- digits below 2, as tests

abbrev odd : ℕ → Bool
odd a = eqb (a % 2) 1

pub is_flag : (x : ℕ) → x < 2 → x ≡ flag (eqb x 1)
is_flag zero h = refl
is_flag (suc zero) h = refl
is_flag (suc (suc x)) h = absurd (omega arith)

odd_digit : (a : ℕ) → a % 2 ≡ flag (odd a)
odd_digit a = is_flag (a % 2) (omega arith)

-- an operation f on digits, as the operation g on tests
module _ (f : ℕ → ℕ → ℕ) (g : Bool → Bool → Bool) (table : (x y : Bool) → f (flag x) (flag y) ≡ flag (g x y)) where
  test_digit : (x : Bool) → eqb (flag x) 1 ≡ x
  test_digit true = refl
  test_digit false = refl

  low : (a b : ℕ) → f (a % 2) (b % 2) ≡ flag (g (odd a) (odd b))
  low a b = ap₂ f (odd_digit a) (odd_digit b) ∙ table (odd a) (odd b)

  digit_lt : (x : Bool) → flag x < 2
  digit_lt true = omega arith
  digit_lt false = omega arith

  odd_of : (op : ℕ → ℕ → ℕ) → ((a b : ℕ) → op a b ≡ op (a / 2) (b / 2) * 2 + f (a % 2) (b % 2))
      → (a b : ℕ) → odd (op a b) ≡ g (odd a) (odd b)
  odd_of op step a b =
      ap odd (step a b ∙ ap (λ (x : ℕ). op (a / 2) (b / 2) * 2 + x) (low a b))
      ∙ ap (λ (x : ℕ). eqb x 1) (digits_mod (op (a / 2) (b / 2)) (digit_lt (g (odd a) (odd b))))
      ∙ test_digit (g (odd a) (odd b))

min_table : (x y : Bool) → min (flag x) (flag y) ≡ flag (x && y)
min_table true true = refl
min_table true false = refl
min_table false true = refl
min_table false false = refl

max_table : (x y : Bool) → max (flag x) (flag y) ≡ flag (x || y)
max_table true true = refl
max_table true false = refl
max_table false true = refl
max_table false false = refl

differ_table : (x y : Bool) → differ (flag x) (flag y) ≡ flag (not (beq x y))
differ_table true true = refl
differ_table true false = refl
differ_table false true = refl
differ_table false false = refl

-- ---- one bit of a result

pub bit-and : (i a b : ℕ) → bit i (bit_and a b) ≡ (bit i a && bit i b)
bit-and i a b = rw (and_shr a b i) (odd_of min ◌&&◌ min_table bit_and and_step (a / 2 ^ i) (b / 2 ^ i))

pub bit-or : (i a b : ℕ) → bit i (bit_or a b) ≡ (bit i a || bit i b)
bit-or i a b = rw (or_shr a b i) (odd_of max ◌||◌ max_table bit_or or_step (a / 2 ^ i) (b / 2 ^ i))

pub bit-xor : (i a b : ℕ) → bit i (bit_xor a b) ≡ not (beq (bit i a) (bit i b))
bit-xor i a b = rw (xor_shr a b i) (odd_of differ (λ x y. not (beq x y)) differ_table bit_xor xor_step (a / 2 ^ i) (b / 2 ^ i))

-- the bits above the lowest are the bits of the half
pub bit_suc : (i a : ℕ) → bit (suc i) a ≡ bit i (a / 2)
bit_suc i a = ap (λ (k : ℕ). bit k a) (sym (one-add i)) ∙ ap odd (sym (shr-shr a 1 i))

pub bit_zero : (a : ℕ) → bit 0 a ≡ odd a
bit_zero a = rw div-one

-- the complement, digit by digit
not_half : (w a : ℕ) → a < 2 ^ suc w → bit_not (suc w) a / 2 ≡ bit_not w (a / 2)
not_half w a h = omega (arith, pow-suc 2 w, pow_pos w)

not_odd : (w a : ℕ) → a < 2 ^ suc w → bit_not (suc w) a % 2 ≡ 1 - a % 2
not_odd w a h = omega (arith, pow-suc 2 w, pow_pos w)

half_lt : (w a : ℕ) → a < 2 ^ suc w → a / 2 < 2 ^ w
half_lt w a h = omega (arith, pow-suc 2 w)

digit_not : (x : Bool) → eqb (1 - flag x) 1 ≡ not x
digit_not true = refl
digit_not false = refl

pub bit-not : (w i a : ℕ) → i < w → a < 2 ^ w → bit i (bit_not w a) ≡ not (bit i a)
bit-not zero i a hi ha = absurd (omega arith)
bit-not (suc w) zero a hi ha =
    bit_zero (bit_not (suc w) a) ∙ ap (λ (x : ℕ). eqb x 1) (not_odd w a ha ∙ ap (λ (x : ℕ). 1 - x) (odd_digit a))
    ∙ digit_not (odd a) ∙ ap not (sym (bit_zero a))
bit-not (suc w) (suc i) a hi ha =
    bit_suc i (bit_not (suc w) a) ∙ ap (bit i) (not_half w a ha) ∙ bit-not w i (a / 2) (omega arith) (half_lt w a ha)
    ∙ ap not (sym (bit_suc i a))

-- two words of w bits are equal if their bits below w are
pub same_digits : (w a b : ℕ) → a < 2 ^ w → b < 2 ^ w → ((i : ℕ) → i < w → bit i a ≡ bit i b) → a ≡ b
same_digits zero a b ha hb e = omega arith
same_digits (suc w) a b ha hb e =
    omega (
      arith,
      same_digits w (a / 2) (b / 2) (half_lt w a ha) (half_lt w b hb) (λ i h. sym (bit_suc i a) ∙ e (suc i) (omega arith) ∙ bit_suc i b),
      odd_digit a ∙ ap flag (sym (bit_zero a) ∙ e 0 (omega arith) ∙ bit_zero b) ∙ sym (odd_digit b),
    )

-- two words with the same bits are equal
below_pow : (n : ℕ) → n < 2 ^ n
below_pow zero = omega arith
below_pow (suc n) = omega (arith, below_pow n, pow-suc 2 n)

pub same_bits : (a b : ℕ) → ((i : ℕ) → bit i a ≡ bit i b) → a ≡ b
same_bits a b e =
    same_digits (a + b) a b (omega (arith, below_pow (a + b))) (omega (arith, below_pow (a + b))) (λ i h. e i)

pub bit_of_zero : (i : ℕ) → bit i 0 ≡ false
bit_of_zero i = rw zero-div
