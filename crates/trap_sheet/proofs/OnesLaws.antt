-- The ones of the bytes, summed, are the number of items whose bit is set. Assumes nothing.
use mathlib.Core.Path.{◌≡◌, refl, sym, ap, ap₂, ◌∙◌}
use mathlib.Core.Bool.{Bool}
use mathlib.Core.List.{List, [], ◌∷◌}
use Prim.Native.Nat.{ℕ, zero, suc, ◌+◌, ◌*◌, ◌/◌, ◌%◌, ◌^◌, ◌<◌}
use native.Mathlib.Nat.{add-zero, zero-add, pow-suc}
use native.Mathlib.Omega.{arith}
use lib.Count.{ones, ones_step}
use lib.ListN.{length, drop}
use Rattle.std.proofs.Common.{sum, map}
use Rattle.std.proofs.lemmas.List.Sums.{sum-map, sum_by-cons}
use Rattle.bits.specs.Words.{bit, flag}
use Rattle.bits.specs.LittleEndian.{Below}
use Rattle.bits.proofs.BitLaws.{bit_suc}
use Rattle.bits.proofs.WordLaws.{bit_flag}
use Rattle.structs.specs.Bitmap.{bit_at}
use Rattle.trap_sheet.specs.Runs.{count_of}
use Rattle.trap_sheet.proofs.RunLaws.{count_same}

-- the ones of each byte, summed
unfoldable pub ones_of : List ℕ → ℕ
ones_of [] = 0
ones_of (b ∷ bs) = ones b + ones_of bs

-- ---- counting items

pub count_add : (t : ℕ → Bool) (n j k : ℕ) → count_of t n (j + k) ≡ count_of t n j + count_of t (n + j) k
unfolding count_of
count_add t n zero k = rw (zero-add k, add-zero n) (omega arith)
count_add t n (suc j) k =
    let e : n + 1 + j ≡ n + suc j = omega arith in
    let s : suc j + k ≡ suc (j + k) = omega arith in
    rw (s, count_add t (n + 1) j k, e) (omega arith)

-- ---- the bits of one byte

ones_counted : (k b : ℕ) → b < 2 ^ k → count_of (λ i. bit i b) 0 k ≡ ones b
unfolding count_of ones
ones_counted zero b h = let z : b ≡ 0 = omega arith in rw z
ones_counted (suc k) b h =
    let l : b / 2 < 2 ^ k = omega (arith, pow-suc 2 k) in
    let f : flag (bit 0 b) ≡ b % 2 = sym (bit_flag 0 b) ∙ ap (λ (x : ℕ). x % 2) (omega arith) in
    ap₂ ◌+◌ f (count_same (λ i. bit i b) (λ i. bit i (b / 2)) 1 0 k (λ i _. ap (λ (j : ℕ). bit j b) (omega arith) ∙ bit_suc i b ∙ ap (λ (j : ℕ). bit j (b / 2)) (sym (zero-add i))) ∙ ones_counted k (b / 2) l)
    ∙ sym (ones_step b)

-- ---- a bitmap

next_byte_bit : (b : ℕ) (bs : List ℕ) (i : ℕ) → bit_at (b ∷ bs) (8 + i) ≡ bit_at bs i
next_byte_bit b bs i =
    let q : (8 + i) / 8 ≡ suc (i / 8) = omega arith in
    let r : (8 + i) % 8 ≡ i % 8 = omega arith in
    simp (q, r)

first_byte_bit : (b : ℕ) (bs : List ℕ) (i : ℕ) → i < 8 → bit_at (b ∷ bs) i ≡ bit i b
first_byte_bit b bs i h =
    let q : i / 8 ≡ 0 = omega arith in
    let r : i % 8 ≡ i = omega arith in
    simp (q, r)

-- document 01's form ("Forms and where they belong"): the ones of each byte, summed, are the number of set items
pub ones_are_items : (xs : List ℕ) → Below 256 xs → ones_of xs ≡ count_of (bit_at xs) 0 (8 * length xs)
unfolding ones_of count_of
ones_are_items [] h = refl
ones_are_items (b ∷ bs) h =
    let e : 8 * length (b ∷ bs) ≡ 8 + 8 * length bs = omega arith in
    rw (e, count_add (bit_at (b ∷ bs)) 0 8 (8 * length bs))
    (ap₂ ◌+◌
    (sym (ones_counted 8 b (h 0)) ∙ count_same (λ i. bit i b) (bit_at (b ∷ bs)) 0 0 8 (λ i l. ap (λ (j : ℕ). bit j b) (zero-add i) ∙ sym (first_byte_bit b bs i l) ∙ ap (bit_at (b ∷ bs)) (sym (zero-add i))))
    (ones_are_items bs (λ i. h (suc i)) ∙ count_same (bit_at bs) (bit_at (b ∷ bs)) 0 (0 + 8) (8 * length bs) (λ i _. ap (bit_at bs) (zero-add i) ∙ sym (next_byte_bit b bs i))))

pub ones_none : (xs : List ℕ) → 0 + ones_of (drop 0 xs) ≡ ones_of xs
ones_none xs = zero-add _

-- the same as a chain of iterators sums them
pub ones_summed : (xs : List ℕ) → sum (map ones xs) ≡ ones_of xs
unfolding ones_of
ones_summed [] = refl
ones_summed (b ∷ bs) = sum-map ones (b ∷ bs) ∙ sum_by-cons ones b bs ∙ ap (λ n. ones b + n) (sym (sum-map ones bs) ∙ ones_summed bs)
