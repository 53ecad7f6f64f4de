use mathlib.Core.Path.{◌≡◌}
use Prim.Native.Nat.{◌≤◌, ◌-◌, ◌*◌}
use lib.ListN.{length}
use Rattle.structs.specs.Bitmap.{set_bits}
use Rattle.structs.proofs.set_bytes.Given as goal

abbrev pub invariant-loop-i : goal.invariant-loop-i
invariant-loop-i l = (l.first ≤ l.i) × (l.i ≤ l.last) × (length l.frame ≡ length l.initial.frame) × (l.frame ≡ set_bits l.initial.frame (8 * l.first) (8 * l.i - 8 * l.first) l.v)

abbrev pub decreases-loop-i : goal.decreases-loop-i
decreases-loop-i l = l.last - l.i
