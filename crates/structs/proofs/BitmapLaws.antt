-- Laws of bits of a list of bytes. `bit_at_set_bits` says what each bit is after a range is written; those on ports and MSRs follow from it.
-- Assumes nothing.
use mathlib.Core.Path.{◌≡◌, refl, sym, ap, subst, ◌∙◌}
use mathlib.Core.Bool.{Bool, true, false, cond}
use mathlib.Core.List.{List, ◌++◌}
use mathlib.Core.Logic.{◌≢◌, dite}
use Prim.Native.Nat.{ℕ, zero, suc, ◌+◌, ◌-◌, ◌*◌, ◌/◌, ◌%◌, ◌≤◌, ◌<◌}
use native.Mathlib.Nat.{add-zero, add-suc, sub_self}
use native.Mathlib.Decide.{dec_le, dec_lt, ℕ_discrete}
use native.Mathlib.Omega.{arith}
use lib.Dec.{T, eqb}
use Rattle.std.proofs.lemmas.List.Edits.{paste_none, fill_from_more}
use lib.ListN.{length, get_or, set, take, drop, replicate, length-set, length-drop, get_or-append}
use lib.Seq.{paste, get_or-set_same, get_or-set_other, set_out, set-set, set_comm, take_all, get_or-append-add, ext_get_or}
use borrow.Author.Tests.{lt-ltb, le-ltb, le-leb, lt-leb, eq-eqb, ne_eqb}
use Rattle.bits.specs.Words.{bit, with_bit}
use Rattle.bits.specs.LittleEndian.{Below}
use Rattle.bits.proofs.BitLaws.{same_digits, same_bits, bit_of_zero}
use Rattle.bits.proofs.WordLaws.{is_true}
use Rattle.bits.proofs.WithBit.{bit_written, bit_kept, with_bit_lt}
use Rattle.bits.proofs.AllBelow.{at}
use Rattle.structs.specs.Bitmap.{full_byte, bit_at, set_bit, set_bits, in_range}

-- ---- one bit

length_set_bit : (xs : List ℕ) (n : ℕ) (v : Bool) → length (set_bit xs n v) ≡ length xs
unfolding set_bit
length_set_bit xs n v = length-set xs (n / 8) _

set_bit_same : (xs : List ℕ) (n : ℕ) (v : Bool) → n < 8 * length xs → bit_at (set_bit xs n v) n ≡ v
unfolding set_bit
set_bit_same xs n v h = let l : n / 8 < length xs = omega arith in rw get_or-set_same (bit_written (n % 8) v _)

set_bit_other : (xs : List ℕ) (n m : ℕ) (v : Bool) → m ≢ n → bit_at (set_bit xs n v) m ≡ bit_at xs m
unfolding set_bit
set_bit_other xs n m v d = dite (ℕ_discrete (m / 8) (n / 8)) here (λ e. ap (bit (m % 8)) (get_or-set_other xs (n / 8) (m / 8) _ 0 e))
  where
    here : m / 8 ≡ n / 8 → bit_at (set xs (n / 8) (with_bit (n % 8) v (get_or xs (n / 8) 0))) m ≡ bit_at xs m
    here e =
        rw e
        (dite (dec_lt (n / 8) (length xs))
        (λ l. ap (bit (m % 8)) (get_or-set_same xs (n / 8) _ 0 l) ∙ bit_kept (n % 8) v _ (m % 8) (λ (q : m % 8 ≡ n % 8). d (omega arith)))
        (λ g. ap (λ (ys : List ℕ). bit (m % 8) (get_or ys (n / 8) 0)) (set_out xs (n / 8) _ (omega arith))))

-- two bits of a word, written in either order
with_bit_comm : (k j : ℕ) (v u : Bool) (a : ℕ) → j ≢ k → with_bit j u (with_bit k v a) ≡ with_bit k v (with_bit j u a)
with_bit_comm k j v u a d =
    same_bits _ _
    (λ i. dite (ℕ_discrete i j)
    (λ e. rw e (bit_written j u _ ∙ sym (bit_kept k v _ j d ∙ bit_written j u a)))
    (λ f. bit_kept j u _ i f
    ∙ dite (ℕ_discrete i k) (λ e. rw e (bit_written k v a ∙ sym (bit_written k v _))) (λ g. bit_kept k v a i g ∙ sym (bit_kept k v _ i g ∙ bit_kept j u a i f))))

-- bit k of byte q made v
abbrev put : List ℕ → ℕ → ℕ → Bool → List ℕ
put xs q k v = set xs q (with_bit k v (get_or xs q 0))

one_byte : (xs : List ℕ) (q k j : ℕ) (v u : Bool) → j ≢ k → put (put xs q k v) q j u ≡ put (put xs q j u) q k v
one_byte xs q k j v u d =
    dite (dec_lt q (length xs))
    (λ l. simp (get_or-set_same, set-set) (ap (set xs q) (with_bit_comm k j v u _ d)))
    (λ g. let o : length xs ≤ q = omega arith in simp set_out)

two_bytes : (xs : List ℕ) (q p k j : ℕ) (v u : Bool) → p ≢ q → q ≢ p → put (put xs q k v) p j u ≡ put (put xs p j u) q k v
two_bytes xs q p k j v u d e = simp get_or-set_other (set_comm xs q p _ _ e)

set_bit_comm : (xs : List ℕ) (n m : ℕ) (v u : Bool) → m ≢ n → set_bit (set_bit xs n v) m u ≡ set_bit (set_bit xs m u) n v
unfolding set_bit
set_bit_comm xs n m v u d =
    dite (ℕ_discrete (m / 8) (n / 8))
    (λ e. rw e (one_byte xs (n / 8) (n % 8) (m % 8) v u (λ (q : m % 8 ≡ n % 8). d (omega arith))))
    (λ e. two_bytes xs (n / 8) (m / 8) (n % 8) (m % 8) v u e (λ q. e (sym q)))

-- ---- a range of bits

pub length_set_bits : (xs : List ℕ) (n count : ℕ) (v : Bool) → length (set_bits xs n count v) ≡ length xs
unfolding set_bits
length_set_bits xs n zero v = refl
length_set_bits xs n (suc count) v = length_set_bit (set_bits xs n count v) (n + count) v ∙ length_set_bits xs n count v

-- a bit in the range
pub inside : (xs : List ℕ) (n count m : ℕ) (v : Bool) → m < 8 * length xs → n ≤ m → m < n + count → bit_at (set_bits xs n count v) m ≡ v
unfolding set_bits
inside xs n zero m v l a b = absurd (omega arith)
inside xs n (suc count) m v l a b =
    dite (ℕ_discrete m (n + count))
    (λ e. rw e (set_bit_same (set_bits xs n count v) (n + count) v (omega (arith, length_set_bits xs n count v))))
    (λ d. set_bit_other (set_bits xs n count v) (n + count) m v d ∙ inside xs n count m v l a (omega arith))

-- a bit outside the range
pub outside : (xs : List ℕ) (n count m : ℕ) (v : Bool) → (n ≤ m → m < n + count → ⊥) → bit_at (set_bits xs n count v) m ≡ bit_at xs m
unfolding set_bits
outside xs n zero m v o = refl
outside xs n (suc count) m v o =
    set_bit_other (set_bits xs n count v) (n + count) m v (λ (e : m ≡ n + count). o (omega arith) (omega arith))
    ∙ outside xs n count m v (λ (a : n ≤ m) (b : m < n + count). o a (omega arith))

pub in_range_lem : (n count m : ℕ) → n ≤ m → m < n + count → T (in_range n count m)
in_range_lem n count m a b = simp (le-leb n m a, lt-ltb m (n + count) b) tt

-- x is y where m lies in the range, and z where it does not: as one equation
pub by_range : {A : Type 0} (n count m : ℕ) {x y z : A} → (n ≤ m → m < n + count → x ≡ y) → ((n ≤ m → m < n + count → ⊥) → x ≡ z) → x ≡ cond (in_range n count m) y z
by_range n count m i o =
    dite (dec_le n m)
    (λ a. dite (dec_lt m (n + count))
    (λ b. simp (le-leb n m a, lt-ltb m (n + count) b) (i a b))
    (λ b. simp (le-leb n m a, le-ltb m (n + count) (omega arith)) (o (λ _ c. b c))))
    (λ a. simp (lt-leb n m (omega arith)) (o (λ c _. a c)))

as_test : (t : Bool) → cond t true false ≡ t
as_test true = refl
as_test false = refl

-- a range of one
pub range_of_one : (n m : ℕ) → in_range n 1 m ≡ eqb m n
range_of_one n m =
    sym
    (by_range n 1 m (λ a b. eq-eqb m n (omega arith)) (λ o. ne_eqb m n (λ (e : m ≡ n). o (omega arith) (omega arith)))
    ∙ as_test (in_range n 1 m))

-- after a range of bits is written each bit is what was written if it lies in the range, and else as before
pub bit_at_set_bits : (xs : List ℕ) (n count m : ℕ) (v : Bool) → n + count ≤ 8 * length xs → bit_at (set_bits xs n count v) m ≡ cond (in_range n count m) v (bit_at xs m)
bit_at_set_bits xs n count m v f = by_range n count m (λ a b. inside xs n count m v (omega arith) a b) (outside xs n count m v)

-- two ranges with no bit in common may be written in either order
set_bits_set_bit : (xs : List ℕ) (n count m : ℕ) (v u : Bool) → (n ≤ m → m < n + count → ⊥) → set_bit (set_bits xs n count v) m u ≡ set_bits (set_bit xs m u) n count v
unfolding set_bits
set_bits_set_bit xs n zero m v u o = refl
set_bits_set_bit xs n (suc count) m v u o =
    set_bit_comm (set_bits xs n count v) (n + count) m v u (λ (e : m ≡ n + count). o (omega arith) (omega arith))
    ∙ ap (λ (ys : List ℕ). set_bit ys (n + count) v) (set_bits_set_bit xs n count m v u (λ (a : n ≤ m) (b : m < n + count). o a (omega arith)))

pub set_bits_comm : (xs : List ℕ) (n c m d : ℕ) (v u : Bool) → ((k : ℕ) → n ≤ k → k < n + c → m ≤ k → k < m + d → ⊥)
    → set_bits (set_bits xs n c v) m d u ≡ set_bits (set_bits xs m d u) n c v
unfolding set_bits
set_bits_comm xs n c m zero v u apart = refl
set_bits_comm xs n c m (suc d) v u apart =
    ap (λ (ys : List ℕ). set_bit ys (m + d) u) (set_bits_comm xs n c m d v u (λ k a b (e : m ≤ k) (f : k < m + d). apart k a b e (omega arith)))
    ∙ set_bits_set_bit (set_bits xs m d u) n c (m + d) v u (λ a b. apart (m + d) a b (omega arith) (omega arith))

-- ---- one range after another, and what a loop has written when it comes to bit p

set_bits_join : (xs : List ℕ) (n c d : ℕ) (v : Bool) → set_bits (set_bits xs n c v) (n + c) d v ≡ set_bits xs n (c + d) v
unfolding set_bits
set_bits_join xs n c zero v = rw add-zero
set_bits_join xs n c (suc d) v = rw add-suc (rw (set_bits_join xs n c d v) (ap (λ (i : ℕ). set_bit (set_bits xs n (c + d) v) i v) (omega arith)))

next_bits : (xs : List ℕ) (n m t : ℕ) (v : Bool) → n ≤ m → m ≤ t → set_bits (set_bits xs n (m - n) v) m (t - m) v ≡ set_bits xs n (t - n) v
next_bits xs n m t v h k =
    let e : n + (m - n) ≡ m = omega arith in
    let q : m - n + (t - m) ≡ t - n = omega arith in
    ap (λ (i : ℕ). set_bits (set_bits xs n (m - n) v) i (t - m) v) (sym e) ∙ set_bits_join xs n (m - n) (t - m) v ∙ ap (λ (c : ℕ). set_bits xs n c v) q

pub three_ranges : (xs : List ℕ) {ys zs ws : List ℕ} (n m t u : ℕ) (v : Bool) → ys ≡ set_bits xs n (m - n) v → zs ≡ set_bits ys m (t - m) v → ws ≡ set_bits zs t (u - t) v
    → n ≤ m → m ≤ t → t ≤ u → ws ≡ set_bits xs n (u - n) v
three_ranges xs n m t u v e f g h i j =
    g ∙ ap (λ (l : List ℕ). set_bits l t (u - t) v) (f ∙ ap (λ (l : List ℕ). set_bits l m (t - m) v) e ∙ next_bits xs n m t v h i) ∙ next_bits xs n t u v (omega arith) j

pub no_bits : (xs : List ℕ) (n : ℕ) (v : Bool) → xs ≡ set_bits xs n (n - n) v
unfolding set_bits
no_bits xs n v = rw sub_self

one_bit : (xs : List ℕ) (n : ℕ) (v : Bool) → set_bits xs n 1 v ≡ set_bit xs n v
unfolding set_bits
one_bit xs n v = ap (λ (i : ℕ). set_bit xs i v) (add-zero n)

pub next_bit : (xs : List ℕ) (n p : ℕ) (v : Bool) → n ≤ p → set_bit (set_bits xs n (p - n) v) p v ≡ set_bits xs n (p + 1 - n) v
next_bit xs n p v h =
    let e : p + 1 - p ≡ 1 = omega arith in
    sym (one_bit _ p v) ∙ ap (λ (c : ℕ). set_bits (set_bits xs n (p - n) v) p c v) (sym e) ∙ next_bits xs n p (p + 1) v h (omega arith)

-- ---- eight bits from a byte's start are one store

below_set : (xs : List ℕ) (j x : ℕ) → x < 256 → Below 256 xs → Below 256 (set xs j x)
below_set xs j x l b i =
    dite (dec_lt j (length xs))
    (λ h. dite (ℕ_discrete i j) (λ e. rw (e, get_or-set_same xs j x 0 h) l) (λ d. rw (get_or-set_other xs j i x 0 d) (b i)))
    (λ g. rw (set_out xs j x (omega arith)) (b i))

pub below_set_bits : (xs : List ℕ) (n count : ℕ) (v : Bool) → Below 256 xs → Below 256 (set_bits xs n count v)
unfolding set_bits set_bit
below_set_bits xs n zero v b = b
below_set_bits xs n (suc count) v b =
    let ys = set_bits xs n count v in
    let c = below_set_bits xs n count v b in
    below_set ys ((n + count) / 8) _ (with_bit_lt 8 ((n + count) % 8) v _ (omega arith) (c ((n + count) / 8))) c

-- of two lists one after the other
pub bit_at_first : (xs ys : List ℕ) (n : ℕ) → n < 8 * length xs → bit_at (xs ++ ys) n ≡ bit_at xs n
bit_at_first xs ys n h = ap (bit (n % 8)) (get_or-append xs ys 0 (n / 8) (omega arith))

pub bit_at_second : (xs ys : List ℕ) (n : ℕ) → bit_at (xs ++ ys) (8 * length xs + n) ≡ bit_at ys n
bit_at_second xs ys n =
    let q : (8 * length xs + n) / 8 ≡ length xs + n / 8 = omega arith in
    let r : (8 * length xs + n) % 8 ≡ n % 8 = omega arith in
    rw (q, r) (ap (bit (n % 8)) (get_or-append-add xs ys (n / 8) 0))

-- lists of bytes with the same bits are equal
bit_at_byte : (xs : List ℕ) (i k : ℕ) → k < 8 → bit_at xs (8 * i + k) ≡ bit k (get_or xs i 0)
bit_at_byte xs i k h =
    let q : (8 * i + k) / 8 ≡ i = omega arith in
    let r : (8 * i + k) % 8 ≡ k = omega arith in
    simp (q, r)

pub same_bytes : (xs ys : List ℕ) → length xs ≡ length ys → Below 256 xs → Below 256 ys → ((m : ℕ) → m < 8 * length xs → bit_at xs m ≡ bit_at ys m) → xs ≡ ys
same_bytes xs ys l bx by e =
    ext_get_or 0 xs ys l (λ i g. same_digits 8 _ _ (bx i) (by i) (λ k h. sym (bit_at_byte xs i k h) ∙ e (8 * i + k) (omega arith) ∙ bit_at_byte ys i k h))

pub bit_full_byte : (v : Bool) (k : ℕ) → k < 8 → bit k (full_byte v) ≡ v
unfolding full_byte
bit_full_byte true k h = is_true (bit k 255) (at (λ i. bit i 255) 8 tt k h)
bit_full_byte false k h = bit_of_zero k

full_byte_lt : (v : Bool) → full_byte v < 256
unfolding full_byte
full_byte_lt true = omega arith
full_byte_lt false = omega arith

one_store : (xs : List ℕ) (i : ℕ) (v : Bool) → Below 256 xs → i < length xs → set_bits xs (8 * i) 8 v ≡ set xs i (full_byte v)
one_store xs i v b f =
    same_bytes _ _ (length_set_bits xs (8 * i) 8 v ∙ sym (length-set xs i (full_byte v))) (below_set_bits xs (8 * i) 8 v b)
    (below_set xs i (full_byte v) (full_byte_lt v) b)
    (λ m _. bit_at_set_bits xs (8 * i) 8 m v (omega arith)
    ∙ sym (by_range (8 * i) 8 m
    (λ h k. let e : m / 8 ≡ i = omega arith in
    ap (λ (q : ℕ). bit (m % 8) (get_or (set xs i (full_byte v)) q 0)) e
    ∙ ap (bit (m % 8)) (get_or-set_same xs i (full_byte v) 0 f) ∙ bit_full_byte v (m % 8) (omega arith))
    (λ o. ap (bit (m % 8)) (get_or-set_other xs i (m / 8) (full_byte v) 0 (λ (e : m / 8 ≡ i). o (omega arith) (omega arith))))))

pub next_byte : (xs : List ℕ) (n i : ℕ) (v : Bool) → Below 256 xs → n ≤ 8 * i → i < length xs
    → set (set_bits xs n (8 * i - n) v) i (full_byte v) ≡ set_bits xs n (8 * (i + 1) - n) v
next_byte xs n i v b h f =
    let e : 8 * (i + 1) - 8 * i ≡ 8 = omega arith in
    sym (one_store (set_bits xs n (8 * i - n) v) i v (below_set_bits xs n (8 * i - n) v b) (omega (arith, length_set_bits xs n (8 * i - n) v)))
    ∙ ap (λ (c : ℕ). set_bits (set_bits xs n (8 * i - n) v) (8 * i) c v) (sym e)
    ∙ next_bits xs n (8 * i) (8 * (i + 1)) v h (omega arith)

-- bytes filled one after another are their bits written
pub filled : (xs : List ℕ) (i k : ℕ) (v : Bool) → Below 256 xs → i + k ≤ length xs
    → paste xs i (replicate k (full_byte v)) k ≡ set_bits xs (8 * i) (8 * (i + k) - 8 * i) v
filled xs i zero v b f = sym (paste_none xs i (replicate 0 (full_byte v))) ∙ rw add-zero (no_bits xs (8 * i) v)
filled xs i (suc k) v b f =
    let P : ℕ → Type 0 = λ n. paste xs i (replicate n (full_byte v)) n ≡ set_bits xs (8 * i) (8 * (i + n) - 8 * i) v in
    let e : k + 1 ≡ suc k = omega arith in
    let g : i + k + 1 ≡ i + (k + 1) = omega arith in
    subst P e
    (sym (fill_from_more xs i k (full_byte v) (omega arith))
    ∙ ap (λ (ys : List ℕ). set ys (i + k) (full_byte v)) (filled xs i k v b (omega arith))
    ∙ next_byte xs (8 * i) (i + k) v b (omega arith) (omega arith)
    ∙ ap (λ (n : ℕ). set_bits xs (8 * i) (8 * n - 8 * i) v) g)

-- ---- a part of a list from a place to its end

pub part_is_drop : (xs : List ℕ) (n : ℕ) → take (length xs - n) (drop n xs) ≡ drop n xs
part_is_drop xs n = take_all (length xs - n) (drop n xs) (omega (arith, length-drop n xs))

-- ---- two edits, each made only if its test passes, commute if they do where both are made

pub guarded_comm : {A : Type 0} (f g : A → A) (x : A) (s t : Bool) → (T s → T t → g (f x) ≡ f (g x))
    → cond t (g (cond s (f x) x)) (cond s (f x) x) ≡ cond s (f (cond t (g x) x)) (cond t (g x) x)
guarded_comm f g x true true e = e tt tt
guarded_comm f g x true false e = refl
guarded_comm f g x false true e = refl
guarded_comm f g x false false e = refl
