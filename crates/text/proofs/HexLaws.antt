-- Laws of hexadecimal digits: the loop that reads them, and digits both ways for any number of them. Assumes nothing.
use Prim.Native.Nat.{ℕ, zero, suc, ◌+◌, ◌-◌, ◌*◌, ◌/◌, ◌%◌, ◌^◌, ◌≤◌, ◌<◌}
use native.Mathlib.Nat.{lt_of_lt_of_le, mod-lt, one-le-pow, pow-suc, add-mul, mul_assoc, add_assoc, div-div-eq-div-mul}
use native.Mathlib.Decide.{dec_lt}
use native.Mathlib.Numerals.{add-one}
use native.Mathlib.Omega.{arith, pow_step}
use mathlib.Core.Path.{◌≡◌, refl, ap}
use mathlib.Core.Bool.{Bool, false}
use mathlib.Core.Logic.{dite}
use mathlib.Core.List.{List, [], ◌∷◌}
use borrow.Author.Tests.{lt-ltb, le-ltb, le-leb, lt-leb}
use lib.ListN.{length, get_or, drop, drop_of_length-le}
use lib.Seq.{drop-cons}
use lib.Arith.{mod-mul}
use lib.Dec.{T, eqb, eqb→eq}
use Rattle.bits.proofs.AllBelow.{at}
use lib.Pow.{pow-add, pow_mono}
use Rattle.std.proofs.Common.{Option, None, Some}
use Rattle.text.specs.Hex.{hex_digit, hex_digits, digit_value, and_then, hex_number}

-- ---- the loop's invariant is that the whole spells what the rest spells after acc

module _ (s : List ℕ) (acc i : ℕ) (inv : hex_number 0 s ≡ hex_number acc (drop i s)) where
  pub number_end : length s ≤ i → Some acc ≡ hex_number 0 s
  unfolding hex_number
  number_end h = rw (inv, drop_of_length-le s)

  module _ (h : i < length s) where
    pub number_stop : None ≡ digit_value (get_or s i 0) → None ≡ hex_number 0 s
    unfolding hex_number and_then
    number_stop e = rw (inv, drop-cons s i 0, ← e)

    pub number_more : (v : ℕ) → Some v ≡ digit_value (get_or s i 0) → hex_number 0 s ≡ hex_number (acc * 16 + v) (drop (i + 1) s)
    unfolding hex_number and_then
    number_more v e = rw (inv, add-one, drop-cons s i 0, ← e)

-- one digit more
pub grows : (i acc v : ℕ) → acc < 2 ^ (4 * i) → v < 16 → acc * 16 + v < 2 ^ (4 * (i + 1))
grows i acc v h l =
    let e : 4 * (i + 1) ≡ 4 * i + 4 = omega arith in
    rw (e, pow-add 2 (4 * i) 4) (omega arith)

-- up to eight digits fit a word
pub fits : (i acc v : ℕ) → acc < 2 ^ (4 * i) → v < 16 → i < 8 → acc * 16 + v < 2 ^ 32
fits i acc v h l m =
    let k : 4 * (i + 1) ≤ 32 = omega arith in
    lt_of_lt_of_le (grows i acc v h l) (pow_mono k)

pub fits_shifted : (i acc : ℕ) → acc < 2 ^ (4 * i) → i < 8 → acc * 16 < 2 ^ 32
fits_shifted i acc h m = omega (arith, fits i acc 0 h (omega arith) m)

-- ---- a digit's value, and a value's digit

same : Option ℕ → ℕ → Bool
same None n = false
same (Some x) n = eqb x n

same_lem : (o : Option ℕ) (n : ℕ) → T (same o n) → o ≡ Some n
unfolding same
same_lem None n e = absurd e
same_lem (Some x) n e = ap Some (eqb→eq x n e)

pub value_digit : (d : ℕ) → d < 16 → digit_value (hex_digit d) ≡ Some d
unfolding digit_value hex_digit same
value_digit d h = same_lem (digit_value (hex_digit d)) d (at (λ d. same (digit_value (hex_digit d)) d) 16 tt d h)

split_lt : (a b : ℕ) {P : Type 0} → (a < b → P) → (b ≤ a → P) → P
split_lt a b f g = dite (dec_lt a b) f (λ n. g (omega arith))

pub digit_value_lem : (b v : ℕ) → digit_value b ≡ Some v → (v < 16) × (hex_digit v ≡ b)
unfolding digit_value hex_digit
digit_value_lem b v =
    split_lt b 48 (λ l. rw (lt-ltb b 48 l) none)
    (λ l. split_lt 57 b
    (λ m. split_lt b 97 (λ k. rw (le-ltb b 48 l, lt-leb b 57 m, lt-ltb b 97 k) none)
    (λ k. split_lt 102 b (λ j. rw (le-ltb b 48 l, lt-leb b 57 m, le-ltb b 97 k, lt-leb b 102 j) none)
    (λ j. rw (le-ltb b 48 l, lt-leb b 57 m, le-ltb b 97 k, le-leb b 102 j) (some (b - 97 + 10) (omega arith) (rw (le-ltb (b - 97 + 10) 10 (omega arith)) (omega arith))))))
    (λ m. rw (le-ltb b 48 l, le-leb b 57 m) (some (b - 48) (omega arith) (rw (lt-ltb (b - 48) 10 (omega arith)) (omega arith)))))
  where
    none : ◌≡◌ {A = Option ℕ} None (Some v) → (v < 16) × (hex_digit v ≡ b)
    none e = cc

    some : (x : ℕ) → x < 16 → hex_digit x ≡ b → ◌≡◌ {A = Option ℕ} (Some x) (Some v) → (v < 16) × (hex_digit v ≡ b)
    some x l d e = let q : x ≡ v = cc in rw (← q) (l, d)

pub value_below : (b v : ℕ) → digit_value b ≡ Some v → v < 16
value_below b v e = (digit_value_lem b v e).0

-- ---- the digits of a number spell it, and digits that spell a number are its digits

pub number_digits : (k acc n : ℕ) → hex_number acc (hex_digits k n) ≡ Some (acc * 16 ^ k + n % 16 ^ k)
unfolding hex_number and_then
number_digits zero acc n = ap Some (omega arith)
number_digits (suc k) acc n =
    let q : ℕ = n / 16 ^ k % 16 in
    let l : q < 16 = mod-lt (n / 16 ^ k) (omega arith) in
    let m : n % (16 * 16 ^ k) ≡ q * 16 ^ k + n % 16 ^ k = mod-mul n (omega arith) (one-le-pow k 16 (omega arith)) in
    rw (value_digit q l, number_digits k (acc * 16 + q) n, pow_step 16 k, m) (ap Some (simp (add-mul, mul_assoc, add_assoc)))

pub digits_number : (l : List ℕ) (acc n : ℕ) → hex_number acc l ≡ Some n → (n / 16 ^ length l ≡ acc) × (hex_digits (length l) n ≡ l)
unfolding hex_number and_then
digits_number [] acc n e = let f : acc ≡ n = cc in (omega arith, refl)
digits_number (b ∷ rest) acc n e = step (digit_value b) refl (λ v. digits_number rest (acc * 16 + v) n) e
  where
    step : (o : Option ℕ) → digit_value b ≡ o → ((v : ℕ) → hex_number (acc * 16 + v) rest ≡ Some n → (n / 16 ^ length rest ≡ acc * 16 + v) × (hex_digits (length rest) n ≡ rest))
        → and_then o (λ v. hex_number (acc * 16 + v) rest) ≡ Some n → (n / 16 ^ suc (length rest) ≡ acc) × (hex_digits (suc (length rest)) n ≡ b ∷ rest)
    step None d later e = cc
    step (Some v) d later e =
        let w = digit_value_lem b v d in
        let ih = later v e in
        let q : (acc * 16 + v) / 16 ≡ acc = omega (arith, w.0) in
        let r : (acc * 16 + v) % 16 ≡ v = omega (arith, w.0) in
        (rw (pow-suc 16 (length rest), ← (div-div-eq-div-mul n (16 ^ length rest) 16), ih.0, q), rw (ih.0, r, w.1, ih.1))
