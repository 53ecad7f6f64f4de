-- Laws of little-endian numbers, each for any number of bytes. Assumes nothing.
use mathlib.Core.Path.{◌≡◌, refl, sym, ap, ◌∙◌}
use mathlib.Core.List.{List, [], ◌∷◌, ◌++◌, append_assoc}
use Prim.Native.Nat.{ℕ, zero, suc, ◌+◌, ◌*◌, ◌/◌, ◌%◌, ◌^◌, ◌≤◌, ◌<◌}
use native.Mathlib.Nat.{pow-zero, pow-suc, one-le-pow, mul_assoc, mul_comm, zero-add, suc-add, div-one, div-div-eq-div-mul}
use native.Mathlib.Omega.{arith}
use lib.ListN.{length, get_or, take, drop, length-take, length-drop}
use lib.Seq.{drop-cons, drop-drop, take-add, take_at, drop_at}
use lib.Arith.{mod-mul}
use lib.Dec.{lit<}
use Rattle.bits.specs.Words.{low32}
use Rattle.bits.specs.LittleEndian.{number_of, little_endian, bytes_of, Below}

-- ---- bounds of a part

pub below_drop : {m : ℕ} (n : ℕ) (l : List ℕ) → Below m l → Below m (drop n l)
below_drop zero l h = h
below_drop (suc n) [] h = h
below_drop (suc n) (x ∷ xs) h = below_drop n xs (λ i. h (suc i))

pub below_take : {m : ℕ} (n : ℕ) (l : List ℕ) → Below m l → Below m (take n l)
below_take zero l h i = let p = h (length l) in omega (arith)
below_take (suc n) [] h i = h i
below_take (suc n) (x ∷ xs) h zero = h 0
below_take (suc n) (x ∷ xs) h (suc i) = below_take n xs (λ j. h (suc j)) i

-- ---- one number

pub length_bytes_of : (k v : ℕ) → length (bytes_of k v) ≡ k
unfolding bytes_of
length_bytes_of zero v = refl
length_bytes_of (suc k) v = ap suc (length_bytes_of k (v / 256))

pub number_of_below : (bs : List ℕ) → Below 256 bs → number_of bs < 256 ^ length bs
unfolding number_of
number_of_below [] h = omega arith
number_of_below (b ∷ bs) h = omega (arith, pow-suc 256 (length bs), number_of_below bs (λ i. h (suc i)), h 0)

-- a number below 256 ^ k is what its k bytes spell
pub little_below : (k : ℕ) (bs : List ℕ) → Below 256 bs → little_endian k bs < 256 ^ k
unfolding number_of
little_below zero bs h = omega arith
little_below (suc k) [] h = one-le-pow (suc k) 256 (omega arith)
little_below (suc k) (b ∷ bs) h = omega (arith, pow-suc 256 k, little_below k bs (λ i. h (suc i)), h 0)

pub number_of_bytes : (k v : ℕ) → v < 256 ^ k → number_of (bytes_of k v) ≡ v
unfolding number_of bytes_of
number_of_bytes zero v h = omega (arith, pow-zero 256)
number_of_bytes (suc k) v h = omega (arith, pow-suc 256 k, number_of_bytes k (v / 256) (omega (arith, pow-suc 256 k)))

-- bytes are the bytes of the number that they spell
pub bytes_of_number : (bs : List ℕ) → Below 256 bs → bytes_of (length bs) (number_of bs) ≡ bs
unfolding number_of bytes_of
bytes_of_number [] h = refl
bytes_of_number (b ∷ bs) h =
    let low : (b + 256 * number_of bs) % 256 ≡ b = omega (arith, h 0) in
    let high : (b + 256 * number_of bs) / 256 ≡ number_of bs = omega (arith, h 0) in
    rw (low, high, bytes_of_number bs (λ i. h (suc i)))

-- the first j bytes of a number and the rest
pub number_of_append : (xs ys : List ℕ) → number_of (xs ++ ys) ≡ number_of xs + 256 ^ length xs * number_of ys
unfolding number_of
number_of_append [] ys = rw pow-zero (omega arith)
number_of_append (x ∷ xs) ys = rw (number_of_append xs ys, pow-suc) (omega (arith, mul_assoc 256 (256 ^ length xs) (number_of ys), mul_comm 256 (256 ^ length xs)))

-- the number of j + k bytes at `at`, by the number of j bytes there and that of the k bytes after them
pub number_split : (j k : ℕ) (bs : List ℕ) (at : ℕ) → at + j ≤ length bs
    → number_of (take (j + k) (drop at bs)) ≡ number_of (take j (drop at bs)) + 256 ^ j * number_of (take k (drop (at + j) bs))
number_split j k bs at h =
    let whole : length (take j (drop at bs)) ≡ j = simp (length-take, length-drop) (omega arith) in
    rw (take-add, drop-drop, number_of_append, whole)

-- the number of one byte at `at`
pub number_one : (bs : List ℕ) (at : ℕ) → at < length bs → number_of (take 1 (drop at bs)) ≡ get_or bs at 0
unfolding number_of
number_one bs at h = rw (drop-cons bs at 0 h) (omega arith)

-- the number of four bytes at `at`, byte by byte
pub number_four : (bs : List ℕ) (at : ℕ) → at + 4 ≤ length bs
    → number_of (take 4 (drop at bs)) ≡ get_or bs at 0 + get_or bs (at + 1) 0 * 0x100 + get_or bs (at + 2) 0 * 0x1_0000 + get_or bs (at + 3) 0 * 0x100_0000
number_four bs at h =
    let e1 : at + 1 + 1 ≡ at + 2 = omega arith in
    let e2 : at + 2 + 1 ≡ at + 3 = omega arith in
    let s1 = rw e1 at (number_split 1 2 bs (at + 1) (omega arith)) in
    let s2 = rw e2 at (number_split 1 1 bs (at + 2) (omega arith)) in
    omega (
      arith,
      number_split 1 3 bs at (omega arith),
      s1,
      s2,
      number_one bs at (omega arith),
      number_one bs (at + 1) (omega arith),
      number_one bs (at + 2) (omega arith),
      number_one bs (at + 3) (omega arith),
    )

-- the low j bytes of a number and the rest
pub bytes_of_append : (j k v : ℕ) → bytes_of (j + k) v ≡ bytes_of j (v % 256 ^ j) ++ bytes_of k (v / 256 ^ j)
unfolding bytes_of
bytes_of_append zero k v = rw (zero-add, pow-zero, div-one)
bytes_of_append (suc j) k v =
    let cut = mod-mul v {m = 256 ^ j} {c = 256} (omega (arith, one-le-pow j 256 (lit< tt))) (lit< tt) in
    let low : v % (256 ^ j * 256) % 256 ≡ v % 256 = omega arith in
    let high : v % (256 ^ j * 256) / 256 ≡ v / 256 % 256 ^ j = omega arith in
    let rest : v / (256 ^ j * 256) ≡ v / 256 / 256 ^ j = ap (λ (n : ℕ). v / n) (mul_comm (256 ^ j) 256) ∙ sym (div-div-eq-div-mul v 256 (256 ^ j)) in
    rw (suc-add, pow-suc, low, high, rest, bytes_of_append j k (v / 256))

-- the two round trips, at the front of a list
pub number_written : (k v : ℕ) (rest : List ℕ) → v < 256 ^ k → little_endian k (bytes_of k v ++ rest) ≡ v
number_written k v rest h = rw (take_at (bytes_of k v) rest k (length_bytes_of k v)) (number_of_bytes k v h)

pub written_number : (k : ℕ) (bs : List ℕ) → Below 256 bs → k ≤ length bs → bytes_of k (little_endian k bs) ≡ take k bs
written_number k bs h fits =
    let whole : length (take k bs) ≡ k = simp length-take (omega arith) in
    ap (λ (j : ℕ). bytes_of j (little_endian k bs)) (sym whole) ∙ bytes_of_number (take k bs) (below_take k bs h)

-- two numbers, one after the other
pub two_read : (k u v : ℕ) (rest : List ℕ) → u < 256 ^ k → v < 256 ^ k
    → (little_endian k ((bytes_of k u ++ bytes_of k v) ++ rest) ≡ u) × (little_endian k (drop k ((bytes_of k u ++ bytes_of k v) ++ rest)) ≡ v)
two_read k u v rest hu hv =
    let front = append_assoc (bytes_of k u) (bytes_of k v) rest in (
      rw front (number_written k u (bytes_of k v ++ rest) hu),
      rw (front, drop_at (bytes_of k u) (bytes_of k v ++ rest) k (length_bytes_of k u)) (number_written k v rest hv),
    )

pub two_written : (k : ℕ) (bs : List ℕ) → Below 256 bs → k + k ≤ length bs
    → bytes_of k (little_endian k bs) ++ bytes_of k (little_endian k (drop k bs)) ≡ take (k + k) bs
two_written k bs h fits =
    rw (written_number k bs h (omega arith), written_number k (drop k bs) (below_drop k bs h) (rw length-drop (omega arith)))
    (sym (take-add k k bs))

-- the number of two bytes at `at`, byte by byte
pub number_two : (bs : List ℕ) (at : ℕ) → at + 2 ≤ length bs
    → number_of (take 2 (drop at bs)) ≡ get_or bs at 0 + get_or bs (at + 1) 0 * 0x100
number_two bs at h =
    omega (arith, number_split 1 1 bs at (omega arith), number_one bs at (omega arith), number_one bs (at + 1) (omega arith))

-- the number of k bytes depends on these alone
pub number_same : (k : ℕ) (bs cs : List ℕ) → length bs ≡ length cs → ((i : ℕ) → i < k → get_or bs i 0 ≡ get_or cs i 0) → little_endian k bs ≡ little_endian k cs
unfolding number_of
number_same zero bs cs l h = refl
number_same (suc k) [] [] l h = refl
number_same (suc k) [] (c ∷ cs) l h = absurd (omega arith)
number_same (suc k) (b ∷ bs) [] l h = absurd (omega arith)
number_same (suc k) (b ∷ bs) (c ∷ cs) l h =
    omega (arith, h 0 (omega arith), number_same k bs cs (omega arith) (λ i u. h (suc i) (omega arith)))

-- the low half of a word of eight bytes is the number of its first four
pub low_half : (bs : List ℕ) → Below 256 bs → low32 (little_endian 8 bs) ≡ little_endian 4 bs
unfolding number_of
low_half [] h = refl
low_half (a ∷ []) h = omega (arith, h 0)
low_half (a ∷ b ∷ []) h = omega (arith, h 0, h 1)
low_half (a ∷ b ∷ c ∷ []) h = omega (arith, h 0, h 1, h 2)
low_half (a ∷ b ∷ c ∷ d ∷ bs) h = omega (arith, h 0, h 1, h 2, h 3)
