-- The record of a session is bytes. Assumes nothing.
use mathlib.Core.Bool.{Bool}
use mathlib.Core.List.{List, [], ◌∷◌, ◌++◌, flat_map, flatten}
use Prim.Native.Nat.{ℕ, zero, suc, ◌/◌}
use native.Mathlib.Omega.{arith}
use lib.Dec.{lit<}
use Rattle.bits.specs.Words.{flag}
use Rattle.bits.specs.LittleEndian.{bytes_of, Below}
use Rattle.regs.specs.Registers.{list_of}
use Rattle.vcpu_session.specs.declared.Session.{Session}
use Rattle.vmcs.specs.declared.controls.Pair.{Pair}
use Rattle.record.specs.Runs.{All, flag_bytes}
use Rattle.record.specs.Codec.{encode_of, parts_of, pair_bytes, fixed_bytes}

none : Below 256 []
none i = lit< tt

joined : (a b : List ℕ) → Below 256 a → Below 256 b → Below 256 (a ++ b)
joined [] b h k i = k i
joined (x ∷ a) b h k zero = h 0
joined (x ∷ a) b h k (suc i) = joined a b (λ j. h (suc j)) k i

number : (k v : ℕ) → Below 256 (bytes_of k v)
unfolding bytes_of
number zero v i = none i
number (suc k) v zero = omega arith
number (suc k) v (suc i) = number k (v / 256) i

yes_no : (on : Bool) → Below 256 (flag_bytes on)
unfolding flag_bytes
yes_no on = number 1 (flag on)

run : {A : Type 0} (write : A → List ℕ) → ((v : A) → Below 256 (write v)) → (vs : List A) → Below 256 (flat_map write vs)
unfolding flat_map
run write each [] = none
run write each (v ∷ vs) = joined (write v) (flat_map write vs) (each v) (run write each vs)

parts : (ls : List (List ℕ)) → All (Below 256) ls → Below 256 (flatten ls)
unfolding flatten
parts [] h = none
parts (l ∷ ls) h = joined l (flatten ls) h.0 (parts ls h.1)

pair : (p : Pair) → Below 256 (pair_bytes p)
unfolding pair_bytes
pair p = joined _ _ (number 4 p.allowed0) (number 4 p.allowed1)

pub below_encoded : (s : Session) → Below 256 (encode_of s)
unfolding encode_of fixed_bytes
below_encoded s =
    parts (parts_of s) (number 1 s.progress.phase, (yes_no s.progress.launched, (number 4 s.progress.entries, (number 4 s.progress.held, (run (bytes_of 8) (number 8) (list_of s.regs), (run (bytes_of 2) (number 2) s.vmcs.w16, (run (bytes_of 4) (number 4) s.vmcs.w32, (run (bytes_of 8) (number 8) s.vmcs.w64, (run (bytes_of 8) (number 8) s.vmcs.natural, (number 1 s.queue.waiting, (run (bytes_of 1) (number 1) s.queue.vectors, (number 8 s.queue.coded, (run (bytes_of 4) (number 4) s.queue.codes, (run pair_bytes pair s.capabilities.pairs, (joined _ _ (number 8 s.capabilities.cr0.fixed0) (number 8 s.capabilities.cr0.fixed1), (joined _ _ (number 8 s.capabilities.cr4.fixed0) (number 8 s.capabilities.cr4.fixed1), (number 8 s.xcr0.value, (number 8 s.xcr0.supported, tt))))))))))))))))))
