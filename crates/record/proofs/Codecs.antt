-- Kinds of values in a list of bytes: how reading and writing undo each other, for one value and for runs of them. Assumes nothing.
use mathlib.Core.Path.{◌≡◌, refl, ap, ◌∙◌}
use mathlib.Core.Bool.{Bool}
use mathlib.Core.List.{List, [], ◌∷◌, ◌++◌, append_assoc, flat_map}
use Prim.Native.Nat.{ℕ, zero, suc, ◌+◌, ◌*◌, ◌^◌, ◌≤◌, ◌<◌}
use native.Mathlib.Nat.{zero-mul, suc-mul, one-le-pow}
use native.Mathlib.Omega.{arith}
use lib.ListN.{length, take, drop, length-drop, length-take}
use lib.Seq.{take-add, drop_at}
use lib.Dec.{lit<}
use Rattle.bits.specs.Words.{flag}
use Rattle.bits.specs.LittleEndian.{little_endian, bytes_of, Below}
use Rattle.bits.proofs.BitLaws.{is_flag}
use Rattle.bits.proofs.WithBit.{flag_lt, flag_read}
use Rattle.bits.proofs.LittleEndianLaws.{length_bytes_of, number_of_below, number_written, written_number, two_read, two_written, below_drop, below_take}
use Rattle.regs.specs.Registers.{list_of, of_list}
use Rattle.record.specs.Runs.{read_all, All, Run, Takes, Numbers, numbers, number_bytes, flag_of, flag_bytes}
use Rattle.record.specs.Codec.{pair_of, pair_bytes, fixed_of, fixed_bytes}
use Rattle.record.specs.Sizes.{length_pair_bytes, length_fixed_bytes}
use Rattle.record.specs.Fitting.{PairFits, FixedFits}
use Rattle.record.proofs.Loops.{length_flat_map, all_map, Any}

module _ {A : Type 0} where
  -- values of `size` bytes: a value that fits is read back from its bytes, and valid bytes are the bytes of the value that they spell
  pub record Codec (size : ℕ) (read : List ℕ → A) (write : A → List ℕ) (Fits : A → Type 0) (Valid : List ℕ → Type 0) : Type 0 where
    pub sized : (v : A) → Fits v → length (write v) ≡ size
    pub back : (v : A) (rest : List ℕ) → Fits v → read (write v ++ rest) ≡ v
    pub same : (bs : List ℕ) → Below 256 bs → size ≤ length bs → Valid bs → write (read bs) ≡ take size bs
    pub fits : (bs : List ℕ) → Below 256 bs → size ≤ length bs → Fits (read bs)

-- runs of values for which all bytes are valid
module _ {A : Type 0} where
  module _ {size : ℕ} {read : List ℕ → A} {write : A → List ℕ} {Fits : A → Type 0} (c : Codec size read write Fits Any) where
    run_back : (vs : List A) (rest : List ℕ) → All Fits vs → read_all size read (length vs) (flat_map write vs ++ rest) ≡ vs
    unfolding read_all flat_map
    run_back [] rest h = refl
    run_back (v ∷ vs) rest h =
        rw (
          append_assoc (write v) (flat_map write vs) rest,
          drop_at (write v) (flat_map write vs ++ rest) size (c.sized v h.0),
          c.back v (flat_map write vs ++ rest) h.0,
          run_back vs rest h.1,
        )

    run_same : (n : ℕ) (bs : List ℕ) → Below 256 bs → n * size ≤ length bs → flat_map write (read_all size read n bs) ≡ take (n * size) bs
    unfolding read_all flat_map
    run_same zero bs below long = rw zero-mul
    run_same (suc n) bs below long =
        let turn : suc n * size ≡ size + n * size = omega (arith, suc-mul n size) in
        let rest : n * size ≤ length (drop size bs) = simp length-drop (omega arith) in
        rw (
          c.same bs below (omega arith) tt,
          run_same n (drop size bs) (below_drop size bs below) rest,
          turn,
          take-add size (n * size) bs,
        )

    run_fits : (n : ℕ) (bs : List ℕ) → Below 256 bs → n * size ≤ length bs → Run n Fits (read_all size read n bs)
    unfolding read_all
    run_fits zero bs below long = record { sized = refl; each = tt }
    run_fits (suc n) bs below long =
        let turn : suc n * size ≡ size + n * size = omega (arith, suc-mul n size) in
        let rest : n * size ≤ length (drop size bs) = simp length-drop (omega arith) in
        let r = run_fits n (drop size bs) (below_drop size bs below) rest in
        record { sized = ap suc r.sized; each = (c.fits bs below (omega arith), r.each) }

    -- n of them
    pub run : (n : ℕ) → Codec (n * size) (read_all size read n) (flat_map write) (Run n Fits) Any
    run n =
        record {
          sized = λ vs r. length_flat_map size write vs (all_map c.sized vs r.each) ∙ rw r.sized;
          back = λ vs rest r. rw (← r.sized) (run_back vs rest r.each);
          same = λ bs below long _. run_same n bs below long;
          fits = run_fits n;
        }

-- ---- a number of k bytes

pub number : (k : ℕ) → Codec k (little_endian k) (bytes_of k) (Takes k) Any
number k =
    record {
      sized = λ v h. length_bytes_of k v;
      back = number_written k;
      same = λ bs below long _. written_number k bs below long;
      fits = λ bs below long.
          let whole : length (take k bs) ≡ k = simp length-take (omega arith) in
          rw whole at (number_of_below (take k bs) (below_take k bs below));
    }

pub below_all : (m : ℕ) (vs : List ℕ) → Below m vs → All (λ v. v < m) vs
below_all m [] h = tt
below_all m (v ∷ vs) h = (h 0, below_all m vs (λ i. h (suc i)))

pub all_below : (m : ℕ) (vs : List ℕ) → 0 < m → All (λ v. v < m) vs → Below m vs
all_below m [] pos h i = pos
all_below m (v ∷ vs) pos h zero = h.0
all_below m (v ∷ vs) pos h (suc i) = all_below m vs pos h.1 i

-- n of them
pub numbers_codec : (k n : ℕ) → Codec (n * k) (numbers k n) (number_bytes k) (Numbers n k) Any
numbers_codec k n =
    let c = run (number k) n in
    let fit : (vs : List ℕ) → Numbers n k vs → Run n (Takes k) vs = λ vs h. record { sized = h.sized; each = below_all (256 ^ k) vs h.below } in
    record {
      sized = λ vs h. c.sized vs (fit vs h);
      back = λ vs rest h. c.back vs rest (fit vs h);
      same = c.same;
      fits = λ bs below long.
          let r = c.fits bs below long in
          record { sized = r.sized; below = all_below (256 ^ k) (numbers k n bs) (one-le-pow k 256 (lit< tt)) r.each };
    }

-- the registers of 16 numbers, as a list again
pub registers_read : (bs : List ℕ) → list_of (of_list (numbers 8 16 bs)) ≡ numbers 8 16 bs
unfolding read_all
registers_read bs = refl

-- ---- a yes/no byte

abbrev pub IsFlag : List ℕ → Type 0
IsFlag bs = little_endian 1 bs ≤ 1

flag_small : (on : Bool) → flag on < 256
flag_small on = omega (arith, flag_lt on)

pub yes_no_lem : Codec 1 flag_of flag_bytes Any IsFlag
unfolding flag_of flag_bytes
yes_no_lem =
    record {
      sized = λ on h. length_bytes_of 1 (flag on);
      back = λ on rest h. rw (number_written 1 (flag on) rest (flag_small on)) (flag_read on);
      same = λ bs below long h. rw (← is_flag (little_endian 1 bs) (omega arith)) (written_number 1 bs below long);
      fits = λ bs below long. tt;
    }

-- ---- two numbers of k bytes

two_fit : (k : ℕ) (bs : List ℕ) → Below 256 bs → k + k ≤ length bs → Takes k (little_endian k bs) × Takes k (little_endian k (drop k bs))
two_fit k bs below long =
    ((number k).fits bs below (omega arith), (number k).fits (drop k bs) (below_drop k bs below) (rw length-drop (omega arith)))

pub pair : Codec 8 pair_of pair_bytes PairFits Any
unfolding pair_of pair_bytes
pair =
    record {
      sized = λ p h. length_pair_bytes p;
      back = λ p rest h.
          let both = two_read 4 p.allowed0 p.allowed1 rest h.0 h.1 in
          λ i. record { allowed0 = both.0 i; allowed1 = both.1 i };
      same = λ bs below long _. two_written 4 bs below long;
      fits = two_fit 4;
    }

pub fixed : Codec 16 fixed_of fixed_bytes FixedFits Any
unfolding fixed_of fixed_bytes
fixed =
    record {
      sized = λ f h. length_fixed_bytes f;
      back = λ f rest h.
          let both = two_read 8 f.fixed0 f.fixed1 rest h.0 h.1 in
          λ i. record { fixed0 = both.0 i; fixed1 = both.1 i };
      same = λ bs below long _. two_written 8 bs below long;
      fits = two_fit 8;
    }
