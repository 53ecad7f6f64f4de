-- Laws of MSR edits: what each number means, what the intercept of each access to each MSR is after an accepted edit, that edits with no access to an MSR in
-- common commute, and which bit of the frame is an access's. Assumes nothing.
use mathlib.Core.Path.{◌≡◌, refl, ap, ◌∙◌}
use mathlib.Core.Bool.{Bool, true, false, cond, ◌&&◌, ◌||◌}
use mathlib.Core.List.{List, [], ◌∷◌, ◌++◌}
use mathlib.Core.Logic.{◌≢◌, dite, ◌⊎◌, inl, inr, ⊎_elim}
use Prim.Native.Nat.{ℕ, ◌+◌, ◌-◌, ◌*◌, ◌≤◌, ◌<◌}
use native.Mathlib.Decide.{dec_le, dec_lt, ℕ_discrete}
use native.Mathlib.Omega.{arith}
use lib.Dec.{T, eqb, eqb→eq}
use lib.ListN.{length}
use borrow.Author.Tests.{lt-ltb, le-ltb, le-leb, lt-leb, eq-eqb, ne_eqb}
use Rattle.bits.specs.LittleEndian.{Below}
use Rattle.structs.specs.declared.Access.{Access}
use Rattle.structs.specs.declared.Access.TheVariants.{Read, Write}
use Rattle.structs.specs.Bitmap.{set_bits, in_range}
use Rattle.structs.specs.Frames.{quarter_of, msr_index, msr_intercept, same_access, among, covered, set_msrs, msr_refusal, edit_msrs}
use Rattle.structs.specs.Numbers.{Low, High, IsMsr, MsrNumbers}
use Rattle.structs.proofs.BitmapLaws.{length_set_bits, below_set_bits, inside, outside, in_range_lem, by_range, set_bits_comm, guarded_comm}

-- ---- the numbers

module _ (len base count : ℕ) where
  refused_length : len ≢ 4096 → msr_refusal len base (base + count) ≡ 2
  unfolding msr_refusal
  refused_length n = simp (ne_eqb len 4096 n)

  accepted_low : len ≡ 4096 → Low base count → msr_refusal len base (base + count) ≡ 0
  unfolding msr_refusal
  accepted_low e l = simp (eq-eqb len 4096 e, le-leb (base + count) 0x2000 l)

  refused_between : len ≡ 4096 → 0x2000 < base + count → base < 0xC000_0000 → msr_refusal len base (base + count) ≡ 11
  unfolding msr_refusal
  refused_between e l h = simp (eq-eqb len 4096 e, lt-leb (base + count) 0x2000 l, lt-ltb base 0xC000_0000 h)

  refused_above : len ≡ 4096 → 0x2000 < base + count → 0xC000_0000 ≤ base → 0xC000_2000 < base + count → msr_refusal len base (base + count) ≡ 11
  unfolding msr_refusal
  refused_above e l h k = simp (eq-eqb len 4096 e, lt-leb (base + count) 0x2000 l, le-ltb base 0xC000_0000 h, lt-ltb 0xC000_2000 (base + count) k)

  accepted_high : len ≡ 4096 → 0x2000 < base + count → High base count → msr_refusal len base (base + count) ≡ 0
  unfolding msr_refusal
  accepted_high e l h = simp (eq-eqb len 4096 e, lt-leb (base + count) 0x2000 l, le-ltb base 0xC000_0000 h.0, le-ltb 0xC000_2000 (base + count) h.1)

  refused : len ≡ 4096 → msr_refusal len base (base + count) ≡ 11 → (Low base count → ⊥) → (High base count → ⊥) → MsrNumbers len base count (msr_refusal len base (base + count))
  refused e r l h = record { is_2 = omega arith; is_11 = (λ _. (e, l, h), λ _. r); is_0 = (λ z. absurd (omega arith), λ t. absurd (⊎_elim l h t.1)) }

  accepted : len ≡ 4096 → msr_refusal len base (base + count) ≡ 0 → Low base count ⊎ High base count → MsrNumbers len base count (msr_refusal len base (base + count))
  accepted e r s = record { is_2 = omega arith; is_11 = (λ z. absurd (omega arith), λ t. absurd (⊎_elim t.1 t.2 s)); is_0 = (λ _. (e, s), λ _. r) }

  numbers : MsrNumbers len base count (msr_refusal len base (base + count))
  numbers =
      dite (ℕ_discrete len 4096)
      (λ e. dite (dec_le (base + count) 0x2000)
      (λ l. accepted e (accepted_low e l) (inl l))
      (λ l. dite (dec_lt base 0xC000_0000)
      (λ h. refused e (refused_between e (omega arith) h) l (omega arith))
      (λ h. dite (dec_lt 0xC000_2000 (base + count))
      (λ k. refused e (refused_above e (omega arith) (omega arith) k) l (omega arith))
      (λ k. let s : High base count = (omega arith, omega arith) in accepted e (accepted_high e (omega arith) s) (inr s)))))
      (λ n. let e = refused_length n in record { is_2 = omega arith; is_11 = (λ z. absurd (omega arith), λ t. absurd (n t.0)); is_0 = (λ z. absurd (omega arith), λ t. absurd (n t.0)) })

-- ---- where the bits of a range lie

-- reads are 0 and writes 1, so that the quarter of an access is linear in it
abbrev pub number : Access → ℕ
number Read = 0
number Write = 1

number_le : (x : Access) → number x ≤ 1
number_le Read = omega arith
number_le Write = omega arith

same_number : (x y : Access) → same_access x y ≡ eqb (number x) (number y)
same_number Read Read = refl
same_number Read Write = refl
same_number Write Read = refl
same_number Write Write = refl

same_access_lem : (x y : Access) → number x ≡ number y → x ≡ y
same_access_lem Read Read e = refl
same_access_lem Read Write e = absurd (omega arith)
same_access_lem Write Read e = absurd (omega arith)
same_access_lem Write Write e = refl

quarter_low : (x : Access) (msr : ℕ) → msr < 0x2000 → quarter_of x msr ≡ 2 * number x
unfolding quarter_of
quarter_low Read msr l = simp (lt-ltb msr 0x2000 l)
quarter_low Write msr l = simp (lt-ltb msr 0x2000 l)

quarter_high : (x : Access) (msr : ℕ) → 0x2000 ≤ msr → quarter_of x msr ≡ 2 * number x + 1
unfolding quarter_of
quarter_high Read msr g = simp (le-ltb msr 0x2000 g)
quarter_high Write msr g = simp (le-ltb msr 0x2000 g)

pub quarter_le : (x : Access) (msr : ℕ) → quarter_of x msr ≤ 3
quarter_le x msr =
    dite (dec_lt msr 0x2000) (λ l. omega (arith, quarter_low x msr l, number_le x)) (λ g. omega (arith, quarter_high x msr (omega arith), number_le x))

-- the bits of a range lie within the frame
msr_fits : (x : Access) (base count : ℕ) → Low base count ⊎ High base count → msr_index x base + count ≤ 32768
msr_fits x base count = ⊎_elim (λ l. omega (arith, quarter_le x base)) (λ h. omega (arith, quarter_le x base))

pub msr_accepted : (x : Access) (len base count : ℕ) → msr_refusal len base (base + count) ≡ 0 → (len ≡ 4096) × (msr_index x base + count ≤ 32768)
msr_accepted x len base count e = let n = (numbers len base count).is_0.0 e in (n.0, msr_fits x base count n.1)

-- base is a half (0: low, 1: high) and the rest, and its bit i the number n of the access, that half and that rest
record Place (n base count i : ℕ) : Type 0 where
  half : ℕ
  rest : ℕ
  half_le : half ≤ 1
  fits : rest + count ≤ 0x2000
  msr : base ≡ half * 0x6_0000 * 0x2000 + rest
  index : i ≡ (2 * n + half) * 0x2000 + rest

place_of : (x : Access) (base count : ℕ) → 0 < count → Low base count ⊎ High base count → Place (number x) base count (msr_index x base)
place_of x base count pos =
    ⊎_elim
    (λ l. let q = quarter_low x base (omega arith) in
    record { half = 0; rest = base; half_le = omega arith; fits = omega arith; msr = omega arith; index = omega arith })
    (λ h. let q = quarter_high x base (omega arith) in
    record { half = 1; rest = base - 0xC000_0000; half_le = omega arith; fits = omega arith; msr = omega arith; index = omega arith })

-- the MSR that bit t of those of a range stands for
msr_at : (n base count i t : ℕ) → Place n base count i → i ≤ t → t < i + count → Place n (base + (t - i)) 1 t
msr_at n base count i t p h l = record {
  half = p.half;
  rest = p.rest + (t - i);
  half_le = p.half_le;
  fits = omega arith;
  msr = omega arith;
  index = omega arith;
}

-- a number that lies in a range of one block of 0x2000 lies in that block; and the other way
same_block : (n k r s count : ℕ) → r + count ≤ 0x2000 → s + 1 ≤ 0x2000 → n * 0x2000 + r ≤ k * 0x2000 + s → k * 0x2000 + s < n * 0x2000 + r + count → (n ≡ k) × (r ≤ s) × (s < r + count)
same_block n k r s count f g h i = let e : n ≡ k = omega arith in omega arith

in_block : (n k r s count : ℕ) → n ≡ k → r ≤ s → s < r + count → (n * 0x2000 + r ≤ k * 0x2000 + s) × (k * 0x2000 + s < n * 0x2000 + r + count)
in_block n k r s count e h i = omega arith

same_half : (n k h g : ℕ) → h ≤ 1 → g ≤ 1 → 2 * n + h ≡ 2 * k + g → (n ≡ k) × (h ≡ g)
same_half n k h g a b e = omega arith

-- m is one of base, base + 1, .., base + count - 1 exactly where its bit j, of the same access, is one of i, i + 1, .., i + count - 1
module _ (n k base count m i j : ℕ) (p : Place n base count i) (q : Place k m 1 j) where
  bit_of : n ≡ k → base ≤ m → m < base + count → (i ≤ j) × (j < i + count)
  bit_of e h l =
      let b = same_block (p.half * 0x6_0000) (q.half * 0x6_0000) p.rest q.rest count p.fits q.fits (rw (p.msr, q.msr) at h) (rw (p.msr, q.msr) at l) in
      rw (p.index, q.index) (in_block (2 * n + p.half) (2 * k + q.half) p.rest q.rest count (omega arith) b.1 b.2)

  msr_of : i ≤ j → j < i + count → (n ≡ k) × (base ≤ m) × (m < base + count)
  msr_of h l =
      let b = same_block (2 * n + p.half) (2 * k + q.half) p.rest q.rest count p.fits q.fits (rw (p.index, q.index) at h) (rw (p.index, q.index) at l) in
      let e = same_half n k p.half q.half p.half_le q.half_le b.0 in
      let c = in_block (p.half * 0x6_0000) (q.half * 0x6_0000) p.rest q.rest count (ap (λ (t : ℕ). t * 0x6_0000) e.1) b.1 b.2 in
      (e.0, rw (p.msr, q.msr) c.0, rw (p.msr, q.msr) c.1)

-- ---- the bit of an access to an MSR

pub low_index : (x : Access) (m : ℕ) → Low m 1 → msr_index x m ≡ number x * 0x4000 + m
low_index x m l = omega (arith, quarter_low x m (omega arith))

pub high_index : (x : Access) (m : ℕ) → High m 1 → msr_index x m ≡ number x * 0x4000 + 0x2000 + (m - 0xC000_0000)
high_index x m h = omega (arith, quarter_high x m (omega arith))

-- it lies within the frame
pub index_lt : (x : Access) (m : ℕ) → IsMsr m → msr_index x m < 0x8000
index_lt x m r = omega (arith, msr_fits x m 1 r)

-- an access to an MSR that has bit n
pub record MsrOf (n : ℕ) : Type 0 where
  pub access : Access
  pub msr : ℕ
  pub real : IsMsr msr
  pub index : msr_index access msr ≡ n

-- each bit of the frame is that of an access
pub msr_of_bit : (n : ℕ) → n < 0x8000 → MsrOf n
msr_of_bit n h =
    dite (dec_lt n 0x4000) (λ l. of_access Read n (omega arith) (omega arith)) (λ g. of_access Write (n - 0x4000) (omega arith) (omega arith))
  where
    of_access : (x : Access) (k : ℕ) → k < 0x4000 → number x * 0x4000 + k ≡ n → MsrOf n
    of_access x k l e =
        dite (dec_lt k 0x2000)
        (λ low. record { access = x; msr = k; real = inl (omega arith); index = low_index x k (omega arith) ∙ e })
        (λ high. let m = k - 0x2000 + 0xC000_0000 in
        record { access = x; msr = m; real = inr (omega arith); index = high_index x m (omega arith) ∙ omega arith })

-- and of one alone
pub one_msr : (x y : Access) (m n : ℕ) → IsMsr m → IsMsr n → msr_index x m ≡ msr_index y n → (x ≡ y) × (m ≡ n)
one_msr x y m n r s e =
    let b = msr_of (number x) (number y) m 1 n (msr_index x m) (msr_index y n) (place_of x m 1 (omega arith) r) (place_of y n 1 (omega arith) s) (omega arith) (omega arith) in
    (same_access_lem x y b.0, omega arith)

-- ---- what an edit leaves

-- the intercept of y to m after one access x to a range is written
one_access : (xs : List ℕ) (x y : Access) (base count m : ℕ) (v : Bool) → length xs ≡ 4096 → Low base count ⊎ High base count → IsMsr m
    → msr_intercept (set_bits xs (msr_index x base) count v) y m ≡ cond (same_access x y && in_range base count m) v (msr_intercept xs y m)
one_access xs x y base count m v len r s =
    dite (ℕ_discrete (number x) (number y))
    (λ e. rw (same_number x y ∙ eq-eqb (number x) (number y) e)
    (by_range base count m
    (λ h l. let b = bit_of _ _ base count m _ _ (place_of x base count (omega arith) r) (place_of y m 1 (omega arith) s) e h l in
    inside xs (msr_index x base) count (msr_index y m) v (omega (arith, msr_fits y m 1 s)) b.0 b.1)
    (λ o. outside xs (msr_index x base) count (msr_index y m) v (λ h l. let b = back h l in o b.1 b.2))))
    (λ n. rw (same_number x y ∙ ne_eqb (number x) (number y) n) (outside xs (msr_index x base) count (msr_index y m) v (λ h l. n (back h l).0)))
  where
    back : msr_index x base ≤ msr_index y m → msr_index y m < msr_index x base + count → (number x ≡ number y) × (base ≤ m) × (m < base + count)
    back h l = msr_of _ _ base count m _ _ (place_of x base count (omega arith) r) (place_of y m 1 (omega arith) s) h l

length_set_msrs : (xs : List ℕ) (base count : ℕ) (accesses : List Access) (v : Bool) → length (set_msrs xs base count accesses v) ≡ length xs
unfolding set_msrs
length_set_msrs xs base count [] v = refl
length_set_msrs xs base count (x ∷ accesses) v = length_set_msrs (set_bits xs (msr_index x base) count v) base count accesses v ∙ length_set_bits xs (msr_index x base) count v

below_set_msrs : (xs : List ℕ) (base count : ℕ) (accesses : List Access) (v : Bool) → Below 256 xs → Below 256 (set_msrs xs base count accesses v)
unfolding set_msrs
below_set_msrs xs base count [] v b = b
below_set_msrs xs base count (x ∷ accesses) v b = below_set_msrs (set_bits xs (msr_index x base) count v) base count accesses v (below_set_bits xs (msr_index x base) count v b)

-- what is written twice is written where either wrote
merge : (p q r v w : Bool) → cond (q && r) v (cond (p && r) v w) ≡ cond ((p || q) && r) v w
merge true true true v w = refl
merge true true false v w = refl
merge true false true v w = refl
merge true false false v w = refl
merge false true true v w = refl
merge false true false v w = refl
merge false false true v w = refl
merge false false false v w = refl

set_msrs_at : (xs : List ℕ) (base count : ℕ) (accesses : List Access) (v : Bool) (y : Access) (m : ℕ) → length xs ≡ 4096 → Low base count ⊎ High base count → IsMsr m
    → msr_intercept (set_msrs xs base count accesses v) y m ≡ cond (among accesses y && in_range base count m) v (msr_intercept xs y m)
unfolding set_msrs
set_msrs_at xs base count [] v y m len r s = refl
set_msrs_at xs base count (x ∷ accesses) v y m len r s =
    set_msrs_at (set_bits xs (msr_index x base) count v) base count accesses v y m (length_set_bits xs (msr_index x base) count v ∙ len) r s
    ∙ ap (cond (among accesses y && in_range base count m) v) (one_access xs x y base count m v len r s)
    ∙ merge (same_access x y) (among accesses y) (in_range base count m) v (msr_intercept xs y m)

module _ (xs : List ℕ) (base count : ℕ) (accesses : List Access) (v : Bool) where
  -- accepted, and refused by each number, exactly where document 01 says
  pub msr_numbers : MsrNumbers (length xs) base count (edit_msrs xs base count accesses v).refusal
  unfolding edit_msrs
  msr_numbers = numbers (length xs) base count

  -- a refused edit changes nothing
  pub msr_refused : (edit_msrs xs base count accesses v).refusal ≢ 0 → (edit_msrs xs base count accesses v).frame ≡ xs
  unfolding edit_msrs
  msr_refused n = rw (ne_eqb (msr_refusal (length xs) base (base + count)) 0 n)

  -- an edit keeps the frame's length
  pub msr_length : length (edit_msrs xs base count accesses v).frame ≡ length xs
  unfolding edit_msrs
  msr_length = go (eqb (msr_refusal (length xs) base (base + count)) 0)
    where
      go : (t : Bool) → length (cond t (set_msrs xs base count accesses v) xs) ≡ length xs
      go true = length_set_msrs xs base count accesses v
      go false = refl

  -- bytes stay bytes
  pub msr_below : Below 256 xs → Below 256 (edit_msrs xs base count accesses v).frame
  unfolding edit_msrs
  msr_below b = go (eqb (msr_refusal (length xs) base (base + count)) 0)
    where
      go : (t : Bool) → Below 256 (cond t (set_msrs xs base count accesses v) xs)
      go true = below_set_msrs xs base count accesses v b
      go false = b

  -- after an accepted edit the intercept of an access to an MSR is what was asked if it is one of those edited, and else as before
  pub msr_edited : (edit_msrs xs base count accesses v).refusal ≡ 0 → (y : Access) (m : ℕ) → IsMsr m
      → msr_intercept (edit_msrs xs base count accesses v).frame y m ≡ cond (covered base count accesses y m) v (msr_intercept xs y m)
  unfolding edit_msrs
  msr_edited e y m s = let n = (numbers (length xs) base count).is_0.0 e in rw e (set_msrs_at xs base count accesses v y m n.0 n.1 s)

-- two edits of the same MSRs, one after the other, are one edit of the accesses of both
set_msrs_append : (xs : List ℕ) (base count : ℕ) (l k : List Access) (v : Bool) → set_msrs (set_msrs xs base count l v) base count k v ≡ set_msrs xs base count (l ++ k) v
unfolding set_msrs
set_msrs_append xs base count [] k v = refl
set_msrs_append xs base count (x ∷ l) k v = set_msrs_append (set_bits xs (msr_index x base) count v) base count l k v

pub msr_append : (xs : List ℕ) (base count : ℕ) (l k : List Access) (v : Bool) → edit_msrs (edit_msrs xs base count l v).frame base count k v ≡ edit_msrs xs base count (l ++ k) v
unfolding edit_msrs
msr_append xs base count l k v = rw (msr_length xs base count l v) (ap (λ (ys : List ℕ). record { refusal = msr_refusal (length xs) base (base + count); frame = ys }) (go (eqb (msr_refusal (length xs) base (base + count)) 0)))
  where
    go : (t : Bool) → cond t (set_msrs (cond t (set_msrs xs base count l v) xs) base count k v) (cond t (set_msrs xs base count l v) xs) ≡ cond t (set_msrs xs base count (l ++ k) v) xs
    go true = set_msrs_append xs base count l k v
    go false = refl

-- ---- edits with no access to an MSR in common commute

among_tail : (z w : Access) (l : List Access) → T (among l w) → T (among (z ∷ l) w)
among_tail Read Read l t = tt
among_tail Read Write l t = t
among_tail Write Read l t = t
among_tail Write Write l t = tt

among_head : (z : Access) (l : List Access) → T (among (z ∷ l) z)
among_head Read l = tt
among_head Write l = tt

and_intro : (x y : Bool) → T x → T y → T (x && y)
and_intro true y s t = t
and_intro false y s t = s

-- each MSR of an accepted range
each_msr : (base count m : ℕ) → Low base count ⊎ High base count → base ≤ m → m < base + count → IsMsr m
each_msr base count m r h l = ⊎_elim (λ (low : Low base count). inl (omega arith)) (λ (high : High base count). inr (omega arith)) r

-- if two edits share no access to an MSR, they share no bit
bits_apart : (f c : ℕ) (l : List Access) (g d : ℕ) (k : List Access) → Low f c ⊎ High f c → Low g d ⊎ High g d
    → ((x : Access) (m : ℕ) → IsMsr m → T (covered f c l x m) → T (covered g d k x m) → ⊥)
    → (x y : Access) → T (among l x) → T (among k y)
    → (t : ℕ) → msr_index x f ≤ t → t < msr_index x f + c → msr_index y g ≤ t → t < msr_index y g + d → ⊥
bits_apart f c l g d k r s apart x y a b t h i j o =
    let m = f + (t - msr_index x f) in
    let p = msr_at _ f c (msr_index x f) t (place_of x f c (omega arith) r) h i in
    let e = msr_of (number y) (number x) g d m (msr_index y g) t (place_of y g d (omega arith) s) p j o in
    apart x m (each_msr f c m r (omega arith) (omega arith))
    (and_intro (among l x) (in_range f c m) a (in_range_lem f c m (omega arith) (omega arith)))
    (and_intro (among k x) (in_range g d m) (rw (same_access_lem y x e.0) at b) (in_range_lem g d m e.1 e.2))

module _ (f c g d : ℕ) (v u : Bool) where
  set_msrs_set_bits : (xs : List ℕ) (l : List Access) (i : ℕ) → ((x : Access) → T (among l x) → (t : ℕ) → msr_index x f ≤ t → t < msr_index x f + c → i ≤ t → t < i + d → ⊥)
      → set_bits (set_msrs xs f c l v) i d u ≡ set_msrs (set_bits xs i d u) f c l v
  unfolding set_msrs
  set_msrs_set_bits xs [] i apart = refl
  set_msrs_set_bits xs (x ∷ l) i apart =
      set_msrs_set_bits (set_bits xs (msr_index x f) c v) l i (λ w a. apart w (among_tail x w l a))
      ∙ ap (λ (ys : List ℕ). set_msrs ys f c l v) (set_bits_comm xs (msr_index x f) c i d v u (apart x (among_head x l)))

  set_msrs_comm : (xs : List ℕ) (l k : List Access)
      → ((x y : Access) → T (among l x) → T (among k y) → (t : ℕ) → msr_index x f ≤ t → t < msr_index x f + c → msr_index y g ≤ t → t < msr_index y g + d → ⊥)
      → set_msrs (set_msrs xs f c l v) g d k u ≡ set_msrs (set_msrs xs g d k u) f c l v
  unfolding set_msrs
  set_msrs_comm xs l [] apart = refl
  set_msrs_comm xs l (y ∷ k) apart =
      ap (λ (ys : List ℕ). set_msrs ys g d k u) (set_msrs_set_bits xs l (msr_index y g) (λ x a. apart x y a (among_head y k)))
      ∙ set_msrs_comm (set_bits xs (msr_index y g) d u) l k (λ x w a b. apart x w a (among_tail y w k b))

-- two edits of the same frame, accepted or not
pub msrs_commute : (xs : List ℕ) (f c : ℕ) (l : List Access) (g d : ℕ) (k : List Access) (v u : Bool)
    → ((x : Access) (m : ℕ) → IsMsr m → T (covered f c l x m) → T (covered g d k x m) → ⊥)
    → (edit_msrs (edit_msrs xs f c l v).frame g d k u).frame ≡ (edit_msrs (edit_msrs xs g d k u).frame f c l v).frame
unfolding edit_msrs
msrs_commute xs f c l g d k v u apart =
    let n = msr_refusal (length xs) f (f + c) in
    let m = msr_refusal (length xs) g (g + d) in
    rw (msr_length xs f c l v, msr_length xs g d k u)
    (guarded_comm (λ ys. set_msrs ys f c l v) (λ ys. set_msrs ys g d k u) xs (eqb n 0) (eqb m 0)
    (λ s t. let p = (numbers (length xs) f c).is_0.0 (eqb→eq n 0 s) in
    let q = (numbers (length xs) g d).is_0.0 (eqb→eq m 0 t) in
    set_msrs_comm f c g d v u xs l k (bits_apart f c l g d k p.1 q.1 apart)))
