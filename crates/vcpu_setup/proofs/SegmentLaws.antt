-- The writes to a list of segments, one segment after another. Assumes nothing.
use mathlib.Core.Path.{◌≡◌}
use mathlib.Core.List.{List, [], ◌∷◌, ◌++◌}
use Prim.Native.Nat.{ℕ, suc, ◌+◌, ◌<◌}
use native.Mathlib.Omega.{arith}
use lib.ListN.{length, drop, get_or}
use Rattle.std.proofs.Common.{drop-cons}
use Rattle.vmcs.specs.Writes.{Write, applied}
use Rattle.vmcs.specs.declared.Vmcs.{Vmcs}
use Rattle.vcpu_setup.specs.Writes.{writes_of}
use Rattle.vcpu_setup.specs.declared.Segment.{Segment}

abbrev pub all_writes : List Segment → List Write
all_writes [] = []
all_writes (g ∷ gs) = writes_of g ++ all_writes gs

-- one segment more
pub next_segment : (gs : List Segment) (i : ℕ) (d : Segment) (v w u : Vmcs) → i < length gs → applied (all_writes (drop i gs)) v ≡ u
    → w ≡ applied (writes_of (get_or gs i d)) v → applied (all_writes (drop (i + 1) gs)) w ≡ u
next_segment gs i d v w u h e f =
    let m : suc i ≡ i + 1 = omega arith in
    rw (f, ← m) (rw (drop-cons gs i d h) at e)
