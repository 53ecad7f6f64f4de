-- Runs of stores, one after the other, and numbers by the library's bytes. Assumes nothing.
use mathlib.Core.Path.{◌≡◌, refl, sym, ap, ◌∙◌}
use mathlib.Core.List.{List, [], ◌∷◌, ◌++◌, append-nil, append_assoc}
use Prim.Native.Nat.{ℕ, zero, suc, ◌+◌, ◌*◌, ◌/◌, ◌%◌, ◌^◌, ◌≤◌}
use native.Mathlib.Nat.{add-zero, zero-add, mul_comm, pow-zero, pow-suc, div-one, div-div-eq-div-mul}
use native.Mathlib.Numerals.{add-one}
use native.Mathlib.Omega.{arith}
use lib.ListN.{length, get_or, take, drop, set, length-take, length-drop}
use lib.Seq.{sets, sets-eq, drop-length, drop-drop, take_all}
use borrow.Rule.Slice.PartMut.{put_mid}
use Rattle.std.specs.Int.{bytes_low_first, byte_at, byte_worth, sum_through}
use Rattle.bits.specs.LittleEndian.{number_of, little_endian, bytes_of}
use Rattle.bits.proofs.LittleEndianLaws.{number_one, number_split, length_bytes_of}

module _ {A : Type 0} where
  pub sets_append : (l : List A) (at : ℕ) (us vs : List A) → sets (sets l at us) (at + length us) vs ≡ sets l at (us ++ vs)
  sets_append l at [] vs = rw add-zero
  sets_append l at (u ∷ us) vs =
      let step : at + suc (length us) ≡ suc at + length us = omega arith in
      rw step (sets_append (set l at u) (suc at) us vs)

  -- a part in the middle overwritten
  pub part_stored : (l us : List A) (at k : ℕ) → length us ≡ k → at + k ≤ length l → put_mid at k l us ≡ sets l at us
  part_stored l us at k e h =
      rw (← e) (sym (sets-eq us l at (omega arith) ∙ append_assoc (take at l) us (drop (at + length us) l) ∙ ap (λ (r : List A). take at l ++ (us ++ r)) (sym (drop-drop (length us) at l))))

  -- a run of stores over the whole list
  pub sets_whole : (l vs : List A) → length vs ≡ length l → sets l 0 vs ≡ vs
  sets_whole l vs e = sets-eq vs l 0 (omega arith) ∙ rw (zero-add, e, drop-length) (append-nil vs)

-- ---- two numbers of k bytes, and a number of 2k bytes by its halves

pub stored_two : (k : ℕ) (l : List ℕ) (at u v : ℕ) → sets (sets l at (bytes_of k u)) (at + k) (bytes_of k v) ≡ sets l at (bytes_of k u ++ bytes_of k v)
stored_two k l at u v =
    ap (λ (n : ℕ). sets (sets l at (bytes_of k u)) (at + n) (bytes_of k v)) (sym (length_bytes_of k u)) ∙ sets_append l at (bytes_of k u) (bytes_of k v)

-- ---- the library's bytes of a number, least significant first

le_bytes_from : (i k v : ℕ) → bytes_low_first i k v ≡ bytes_of k (v / 256 ^ i)
unfolding bytes_of
le_bytes_from i zero v = refl
le_bytes_from i (suc k) v =
    let next : v / 256 ^ suc i ≡ v / 256 ^ i / 256 = rw pow-suc (sym (div-div-eq-div-mul v (256 ^ i) 256)) in
    rw (byte_of i v, le_bytes_from (suc i) k v, next)
  where
    byte_of : (i v : ℕ) → byte_at i v ≡ v / 256 ^ i % 256
    byte_of zero v = rw (pow-zero, div-one)
    byte_of (suc i) v = refl

pub le_bytes : (k v : ℕ) → bytes_low_first 0 k v ≡ bytes_of k v
le_bytes k v = le_bytes_from 0 k v ∙ rw (pow-zero, div-one)

-- read from `at` on
le_number : (bs : List ℕ) (k at : ℕ) → at + suc k ≤ length bs → sum_through (λ i. byte_worth i (get_or bs (at + i) 0)) k ≡ little_endian (suc k) (drop at bs)
le_number bs zero at h = rw add-zero (sym (number_one bs at (omega arith)))
le_number bs (suc k) at h =
    let last = get_or bs (at + suc k) 0 in
    let front = little_endian (suc k) (drop at bs) in
    ap (λ (n : ℕ). n + last * 256 ^ suc k) (le_number bs k at (omega arith))
    ∙ ap (λ (n : ℕ). front + n) (mul_comm last (256 ^ suc k) ∙ ap (λ (x : ℕ). 256 ^ suc k * x) (sym (number_one bs (at + suc k) (omega arith))))
    ∙ sym (number_split (suc k) 1 bs at (omega arith))
    ∙ ap (λ (n : ℕ). little_endian n (drop at bs)) (add-one (suc k))

-- of the suc k bytes of a part
pub part_number : (bs part : List ℕ) (k at : ℕ) → at + suc k ≤ length bs → part ≡ take (suc k) (drop at bs)
    → sum_through (λ i. byte_worth i (get_or part (0 + i) 0)) k ≡ little_endian (suc k) (drop at bs)
part_number bs part k at h e =
    let long : length part ≡ suc k = rw (e, length-take, length-drop) (omega arith) in
    le_number part k 0 (omega arith) ∙ ap number_of (take_all (suc k) part (omega arith) ∙ e)
