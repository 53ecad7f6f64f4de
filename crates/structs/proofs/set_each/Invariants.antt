use mathlib.Core.Path.{◌≡◌}
use Prim.Native.Nat.{◌≤◌, ◌-◌}
use lib.ListN.{length}
use Rattle.structs.specs.Bitmap.{set_bits}
use Rattle.structs.proofs.set_each.Given as goal

abbrev pub invariant-loop-n : goal.invariant-loop-n
invariant-loop-n l = (l.from ≤ l.n) × (l.n ≤ l.to) × (length l.frame ≡ length l.initial.frame) × (l.frame ≡ set_bits l.initial.frame l.from (l.n - l.from) l.v)

abbrev pub decreases-loop-n : goal.decreases-loop-n
decreases-loop-n l = l.to - l.n
