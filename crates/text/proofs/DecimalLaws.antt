-- A number right in columns: blanks, and then its decimal digits with no leading zero, which spell it. Assumes nothing.
use Prim.Native.Nat.{ℕ, zero, suc, ◌+◌, ◌-◌, ◌*◌, ◌/◌, ◌%◌, ◌^◌, ◌≤◌, ◌<◌}
use native.Mathlib.Nat.{one-le-pow, add-mul, mul_assoc, add_assoc, pow-suc, zero-add, div-one, div-div-eq-div-mul, le-div_iff_mul-le, div-lt_iff_lt-mul, mod-eq_of_lt}
use native.Mathlib.Decide.{dec_le, ℕ_discrete}
use native.Mathlib.Omega.{arith, pow_step}
use mathlib.Core.Path.{◌≡◌, refl, sym, ap, ◌∙◌}
use mathlib.Core.Logic.{◌≢◌, dite}
use mathlib.Core.List.{List, [], ◌∷◌, ◌++◌, append-nil}
use borrow.Author.Tests.{le-leb, lt-leb, ne_eqb}
use lib.Arith.{mod-mul}
use lib.ListN.{length, get_or, set, replicate, length-append, length-replicate}
use Rattle.text.specs.Decimal.{decimal_column, decimal_in, decimal_number, RightIn}

-- ---- the last k digits of a number, the highest first

abbrev digits_in : ℕ → ℕ → List ℕ
digits_in zero n = []
digits_in (suc k) n = (48 + n / 10 ^ k % 10) ∷ digits_in k n

length_digits : (k n : ℕ) → length (digits_in k n) ≡ k
length_digits zero n = refl
length_digits (suc k) n = ap suc (length_digits k n)

-- a digit read
digit_read : (acc d : ℕ) (rest : List ℕ) → decimal_number acc ((48 + d) ∷ rest) ≡ decimal_number (acc * 10 + d) rest
unfolding decimal_number
digit_read acc d rest = ap (λ (x : ℕ). decimal_number x rest) (rw (ne_eqb (48 + d) 32 (λ e. omega arith)) (omega arith))

-- they spell the number's remainder
number_digits : (k acc n : ℕ) → decimal_number acc (digits_in k n) ≡ acc * 10 ^ k + n % 10 ^ k
unfolding decimal_number
number_digits zero acc n = omega arith
number_digits (suc k) acc n =
    let q : ℕ = n / 10 ^ k % 10 in
    let m : n % (10 * 10 ^ k) ≡ q * 10 ^ k + n % 10 ^ k = mod-mul n (omega arith) (one-le-pow k 10 (omega arith)) in
    digit_read acc q (digits_in k n) ∙ number_digits k (acc * 10 + q) n ∙ rw (pow_step 10 k, m) (simp (add-mul, mul_assoc, add_assoc))

digit_range : (k n i : ℕ) → i < length (digits_in k n) → (48 ≤ get_or (digits_in k n) i 0) × (get_or (digits_in k n) i 0 ≤ 57)
digit_range zero n i h = absurd (omega arith)
digit_range (suc k) n zero h = (omega arith, omega arith)
digit_range (suc k) n (suc i) h = digit_range k n i (omega arith)

-- the digit of the highest place that the number reaches
first_digit : (k n : ℕ) → 10 ^ k ≤ n → n < 10 ^ suc k → 48 + n / 10 ^ k % 10 ≢ 48
first_digit k n l h =
    let p : 0 < 10 ^ k = one-le-pow k 10 (omega arith) in
    let m : 1 * 10 ^ k ≤ n = omega arith in
    let t : n < 10 * 10 ^ k = rw (← (pow_step 10 k)) h in
    omega (arith, (le-div_iff_mul-le p).1 m, (div-lt_iff_lt-mul p).1 t)

-- ---- where the number reaches the first column, all columns are digits

all_digits : (k n : ℕ) → (0 < k → 10 ^ k ≤ n) → decimal_in (suc k) n ≡ digits_in (suc k) n
unfolding decimal_column
all_digits zero n h = rw (div-one n)
all_digits (suc k) n h =
    let l : 10 ^ suc k ≤ n = h (omega arith) in
    let m : 10 ^ k ≤ n = omega (arith, pow_step 10 k) in
    rw (ne_eqb (suc k) 0 (λ e. omega arith), le-leb (10 ^ suc k) n, all_digits k n (λ p. m))

full : (k n : ℕ) → (0 < k → 10 ^ k ≤ n) → n < 10 ^ suc k → RightIn (suc k) n (decimal_in (suc k) n)
full k n l h = rw (all_digits k n l) record {
  columns = length_digits (suc k) n;
  spells = omega (arith, number_digits (suc k) 0 n, mod-eq_of_lt h);
  blanks = 0;
  digits = digits_in (suc k) n;
  parts = refl;
  least = omega arith;
  decimal = digit_range (suc k) n;
  first = λ d. first_digit k n (l (omega (arith, length_digits k n))) h;
}

-- a blank before columns that hold the number
blank : (k n : ℕ) (text : List ℕ) → RightIn k n text → RightIn (suc k) n (32 ∷ text)
unfolding decimal_number
blank k n text r = record {
  columns = ap suc r.columns;
  spells = r.spells;
  blanks = suc r.blanks;
  digits = r.digits;
  parts = ap (λ (x : List ℕ). 32 ∷ x) r.parts;
  least = r.least;
  decimal = r.decimal;
  first = r.first;
}

columns_in : (k n : ℕ) → n < 10 ^ suc k → RightIn (suc k) n (decimal_in (suc k) n)
unfolding decimal_column
columns_in zero n h = full 0 n (λ p. omega arith) h
columns_in (suc k) n h =
    dite (dec_le (10 ^ suc k) n)
    (λ l. full (suc k) n (λ p. l) h)
    (λ d. let l : n < 10 ^ suc k = omega arith in
    rw (ne_eqb (suc k) 0 (λ e. omega arith), lt-leb (10 ^ suc k) n) (blank (suc k) n (decimal_in (suc k) n) (columns_in k n l)))

pub right_in : (k n : ℕ) → 0 < k → n < 10 ^ k → RightIn k n (decimal_in k n)
right_in zero n p h = absurd (omega arith)
right_in (suc k) n p h = columns_in k n h

-- ---- the digits written from the last column on, over blanks

with_blanks : (blanks k n : ℕ) (d : List ℕ) → 1 ≤ k → n < 10 ^ k → d ≡ decimal_in k n
    → (n < 10 ^ (blanks + k)) × (replicate blanks 32 ++ d ≡ decimal_in (blanks + k) n)
unfolding decimal_column
with_blanks zero k n d l h e = rw (zero-add k) (h, e)
with_blanks (suc blanks) k n d l h e =
    let ih = with_blanks blanks k n d l h e in
    let s : suc blanks + k ≡ suc (blanks + k) = omega arith in
    rw (s, ne_eqb (blanks + k) 0 (λ z. omega (arith, l, z)), lt-leb (10 ^ (blanks + k)) n ih.0)
    (omega (arith, ih.0, pow_step 10 (blanks + k)), ap (λ (x : List ℕ). 32 ∷ x) ih.1)

-- of `size` columns the first `blanks` are blanks and the others the number's last digits; rest is the number above them
pub record Written (size blanks n : ℕ) (text : List ℕ) (rest : ℕ) : Type 0 where
  pub count : ℕ
  pub columns : blanks + count ≡ size
  pub parts : text ≡ replicate blanks 32 ++ digits_in count n
  pub left : rest ≡ n / 10 ^ count
  pub more : 0 < count → 0 < rest

pub none_written : (size n : ℕ) → Written size size n (replicate size 32) n
none_written size n = record { count = 0; columns = omega arith; parts = sym (append-nil (replicate size 32)); left = sym (div-one n); more = λ h. absurd (omega arith) }

reaches : (k n rest : ℕ) → rest ≡ n / 10 ^ k → 0 < rest → 10 ^ k ≤ n
reaches k n rest e h =
    let p : 0 < 10 ^ k = one-le-pow k 10 (omega arith) in
    let m : 1 ≤ n / 10 ^ k = omega (arith, e, h) in
    omega (arith, (le-div_iff_mul-le p).0 m)

set_blank : (j d : ℕ) (digits : List ℕ) → set (replicate (suc j) 32 ++ digits) j d ≡ replicate j 32 ++ (d ∷ digits)
set_blank zero d digits = refl
set_blank (suc j) d digits = ap (λ (x : List ℕ). 32 ∷ x) (set_blank j d digits)

module _ (size j n rest : ℕ) (text : List ℕ) (w : Written size (suc j) n text rest) where
  digit_set : set text j (48 + rest % 10) ≡ replicate j 32 ++ digits_in (suc w.count) n
  digit_set = rw (w.parts, w.left) (set_blank j (48 + n / 10 ^ w.count % 10) (digits_in w.count n))

  rest_left : rest / 10 ≡ n / 10 ^ suc w.count
  rest_left = rw (w.left, pow-suc 10 w.count) (div-div-eq-div-mul n (10 ^ w.count) 10)

  one_more : (rest / 10 ≡ 0 → ⊥) → Written size j n (set text j (48 + rest % 10)) (rest / 10)
  one_more h = record { count = suc w.count; columns = omega (arith, w.columns); parts = digit_set; left = rest_left; more = λ _. omega (arith, h) }

  last : rest / 10 ≡ 0 → set text j (48 + rest % 10) ≡ decimal_in size n
  last h =
      let k : ℕ = suc w.count in
      let p : 0 < 10 ^ k = one-le-pow k 10 (omega arith) in
      let z : n / 10 ^ k < 1 = omega (arith, rest_left, h) in
      let l : n < 10 ^ k = omega (arith, (div-lt_iff_lt-mul p).0 z) in
      let s : j + k ≡ size = omega (arith, w.columns) in
      digit_set ∙ (with_blanks j k n (digits_in k n) (omega arith) l (sym (all_digits w.count n (λ g. reaches w.count n rest w.left (w.more g))))).1 ∙ ap (λ (x : ℕ). decimal_in x n) s

pub written_more : (size i n rest : ℕ) (text : List ℕ) → 0 < i → Written size i n text rest → (rest / 10 ≡ 0 → ⊥) → Written size (i - 1) n (set text (i - 1) (48 + rest % 10)) (rest / 10)
written_more size zero n rest text h w m = absurd (omega arith)
written_more size (suc j) n rest text h w m = let e : suc j - 1 ≡ j = omega arith in rw e (one_more size j n rest text w m)

pub written_last : (size i n rest : ℕ) (text : List ℕ) → 0 < i → Written size i n text rest → rest / 10 ≡ 0 → set text (i - 1) (48 + rest % 10) ≡ decimal_in size n
written_last size zero n rest text h w z = absurd (omega arith)
written_last size (suc j) n rest text h w z = let e : suc j - 1 ≡ j = omega arith in rw e (last size j n rest text w z)

pub written_all : (size i n rest : ℕ) (text : List ℕ) → i ≤ 0 → 0 < size → Written size i n text rest → text ≡ decimal_in size n
written_all zero i n rest text h p w = absurd (omega arith)
written_all (suc k) zero n rest text h p w =
    let e : w.count ≡ suc k = omega (arith, w.columns) in
    let m = reaches w.count n rest w.left (w.more (omega (arith, e))) in
    w.parts ∙ ap (λ (x : ℕ). digits_in x n) e ∙ sym (all_digits k n (λ g. omega (arith, m, ap (λ (x : ℕ). 10 ^ x) e, pow_step 10 k)))
written_all (suc k) (suc i) n rest text h p w = absurd (omega arith)

-- ---- one text alone is a number right in columns

abbrev Digits : List ℕ → Type 0
Digits d = (i : ℕ) → i < length d → (48 ≤ get_or d i 0) × (get_or d i 0 ≤ 57)

-- digits that spell a number after acc are its last ones, and acc is what is above them
digits_number : (d : List ℕ) (acc n : ℕ) → Digits d → decimal_number acc d ≡ n → (n / 10 ^ length d ≡ acc) × (digits_in (length d) n ≡ d)
unfolding decimal_number
digits_number [] acc n r e = (rw (← e) (div-one acc), refl)
digits_number (b ∷ rest) acc n r e =
    let h = r 0 (omega arith) in
    let q : decimal_number (acc * 10 + (b - 48)) rest ≡ n = rw (ne_eqb b 32 (λ f. omega (arith, h.0, f))) at e in
    let ih = digits_number rest (acc * 10 + (b - 48)) n (λ i l. r (suc i) (omega (arith, l))) q in
    let x : (acc * 10 + (b - 48)) / 10 ≡ acc = omega (arith, h.0, h.1) in
    let y : 48 + (acc * 10 + (b - 48)) % 10 ≡ b = omega (arith, h.0, h.1) in
    (rw (pow-suc 10 (length rest), ← (div-div-eq-div-mul n (10 ^ length rest) 10), ih.0, x), rw (ih.0, y, ih.1))

blanks_spell : (blanks acc : ℕ) (d : List ℕ) → decimal_number acc (replicate blanks 32 ++ d) ≡ decimal_number acc d
unfolding decimal_number
blanks_spell zero acc d = refl
blanks_spell (suc blanks) acc d = blanks_spell blanks acc d

-- digits with no leading zero are all columns of the number that they spell
no_blank : (n : ℕ) (d : List ℕ) → 1 ≤ length d → Digits d → (1 < length d → get_or d 0 0 ≢ 48) → decimal_number 0 d ≡ n → (n < 10 ^ length d) × (d ≡ decimal_in (length d) n)
unfolding decimal_number
no_blank n [] l r f e = absurd (omega (arith, l))
no_blank n (b ∷ rest) l r f e =
    let h = r 0 (omega arith) in
    let s = digits_number (b ∷ rest) 0 n r e in
    let q : decimal_number (0 * 10 + (b - 48)) rest ≡ n = rw (ne_eqb b 32 (λ g. omega (arith, h.0, g))) at e in
    let t = digits_number rest (0 * 10 + (b - 48)) n (λ i k. r (suc i) (omega (arith, k))) q in
    let p : 0 < 10 ^ length rest = one-le-pow (length rest) 10 (omega arith) in
    let w : n < 10 * 10 ^ length rest = (div-lt_iff_lt-mul p).0 (omega (arith, t.0, h.1)) in
    let reach : 0 < length rest → 10 ^ length rest ≤ n = λ k.
    let c : b ≢ 48 = f (omega (arith, k)) in
    let m : 1 ≤ n / 10 ^ length rest = dite (ℕ_discrete b 48) (λ z. absurd (c z)) (λ z. omega (arith, t.0, h.0, z)) in
    omega (arith, (le-div_iff_mul-le p).0 m) in
    (rw (pow_step 10 (length rest)) w, sym s.1 ∙ sym (all_digits (length rest) n reach))

pub right_is : (k n : ℕ) (s : List ℕ) → RightIn k n s → s ≡ decimal_in k n
right_is k n s r =
    let e : decimal_number 0 r.digits ≡ n = sym (blanks_spell r.blanks 0 r.digits) ∙ ap (decimal_number 0) (sym r.parts) ∙ r.spells in
    let w = no_blank n r.digits r.least r.decimal r.first e in
    let c : r.blanks + length r.digits ≡ k = omega (arith, ap length r.parts, length-append (replicate r.blanks 32) r.digits, length-replicate {A = ℕ} r.blanks 32, r.columns) in
    r.parts ∙ (with_blanks r.blanks (length r.digits) n r.digits r.least w.0 w.1).1 ∙ ap (λ (x : ℕ). decimal_in x n) c

-- two texts that are one number right in the same columns are equal
pub right_only : (k n : ℕ) (s t : List ℕ) → RightIn k n s → RightIn k n t → s ≡ t
right_only k n s t p q = right_is k n s p ∙ sym (right_is k n t q)
