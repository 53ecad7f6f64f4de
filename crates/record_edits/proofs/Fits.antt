-- Numbers that fit, one of them changed or some moved down by one. Assumes nothing.
use mathlib.Core.Path.{◌≡◌, sym, ◌∙◌, subst}
use mathlib.Core.List.{List, [], ◌∷◌, ◌++◌}
use Prim.Native.Nat.{ℕ, zero, suc, ◌+◌, ◌^◌, ◌<◌}
use native.Mathlib.Omega.{arith}
use lib.ListN.{length, get_or, take, drop, set, length-set, length-append, length-drop}
use lib.Seq.{drop-cons, drop-length, get_or-drop, length-take-le}
use Rattle.bits.specs.LittleEndian.{Below}
use Rattle.regs.specs.Registers.{list_of, of_list, with_reg}
use Rattle.regs.specs.declared.GeneralRegisters.{GeneralRegisters}
use Rattle.vmcs.specs.Field.{Field, Word16, Word64, Word32, Natural, width_bits, put}
use Rattle.vmcs.specs.declared.Vmcs.{Vmcs}
use Rattle.vcpu_events.specs.Queue.{shifted}
use Rattle.record.specs.Runs.{Numbers}
use Rattle.record.specs.Fitting.{VmcsFits}

below_set : (m : ℕ) (l : List ℕ) (i x : ℕ) → Below m l → x < m → Below m (set l i x)
below_set m [] i x b h j = b j
below_set m (v ∷ l) zero x b h zero = h
below_set m (v ∷ l) zero x b h (suc j) = b (suc j)
below_set m (v ∷ l) (suc i) x b h zero = b 0
below_set m (v ∷ l) (suc i) x b h (suc j) = below_set m l i x (λ n. b (suc n)) h j

pub numbers_set : {n k : ℕ} {vs : List ℕ} (i x : ℕ) → Numbers n k vs → x < 256 ^ k → Numbers n k (set vs i x)
numbers_set {n} {k} {vs} i x f h = record { sized = length-set vs i x ∙ f.sized; below = below_set (256 ^ k) vs i x f.below h }

below_front : (m n : ℕ) (us vs : List ℕ) → Below m us → Below m vs → Below m (take n us ++ vs)
below_front m zero us vs b c j = c j
below_front m (suc n) [] vs b c j = c j
below_front m (suc n) (u ∷ us) vs b c zero = b 0
below_front m (suc n) (u ∷ us) vs b c (suc j) = below_front m n us vs (λ i. b (suc i)) c j

below_drop : (m n : ℕ) (l : List ℕ) → Below m l → Below m (drop n l)
below_drop m n l b j = rw (get_or-drop n l j 0) (b (n + j))

pub numbers_shifted : {n k : ℕ} {vs : List ℕ} (i x : ℕ) → i < n → Numbers n k vs → x < 256 ^ k → Numbers n k (shifted i x vs)
unfolding shifted
numbers_shifted {n} {k} {vs} i x within f h =
    let behind = take i (drop 1 vs) in
    let count : length behind ≡ i = length-take-le i (drop 1 vs) (rw length-drop (omega (arith, f.sized))) in
    record {
      sized = omega (arith, length-append behind (x ∷ drop (suc i) vs), length-drop (suc i) vs, count, f.sized);
      below = below_front (256 ^ k) i (drop 1 vs) (x ∷ drop (suc i) vs) (below_drop (256 ^ k) 1 vs f.below) freed;
    }
  where
    freed : Below (256 ^ k) (x ∷ drop (suc i) vs)
    freed zero = h
    freed (suc j) = below_drop (256 ^ k) (suc i) vs f.below j

-- ---- the registers as a list of 16

abbrev picked : ℕ → ℕ → List ℕ → List ℕ
picked k zero l = []
picked k (suc n) l = get_or l k 0 ∷ picked (suc k) n l

picked_all : (k n : ℕ) (l : List ℕ) → length l ≡ k + n → picked k n l ≡ drop k l
picked_all k zero l e =
    let all : k ≡ length l = omega arith in
    rw all (sym (drop-length l))
picked_all k (suc n) l e = rw (picked_all (suc k) n l (omega arith)) (sym (drop-cons l k 0 (omega arith)))

pub listed : (l : List ℕ) → length l ≡ 16 → list_of (of_list l) ≡ l
listed l e = picked_all 0 16 l e

pub reg_fits : (g : GeneralRegisters) (i x : ℕ) → Numbers 16 8 (list_of g) → x < 2 ^ 64 → Numbers 16 8 (list_of (with_reg g i x))
reg_fits g i x f h = subst (Numbers 16 8) (sym (listed (set (list_of g) i x) (length-set (list_of g) i x ∙ f.sized))) (numbers_set i x f h)

-- ---- fields

pub put_fits : {v : Vmcs} → VmcsFits v → (g : Field) (x : ℕ) → x < 2 ^ width_bits g → VmcsFits (put v g x)
put_fits f (Word16 k) x h = record { w16 = numbers_set k x f.w16 h; w32 = f.w32; w64 = f.w64; natural = f.natural }
put_fits f (Word64 k) x h = record { w16 = f.w16; w32 = f.w32; w64 = numbers_set k x f.w64 h; natural = f.natural }
put_fits f (Word32 k) x h = record { w16 = f.w16; w32 = numbers_set k x f.w32 h; w64 = f.w64; natural = f.natural }
put_fits f (Natural k) x h = record { w16 = f.w16; w32 = f.w32; w64 = f.w64; natural = numbers_set k x f.natural h }
