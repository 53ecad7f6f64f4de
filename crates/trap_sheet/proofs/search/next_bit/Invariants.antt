use Prim.Native.Nat.{ℕ, ◌-◌, ◌*◌, ◌≤◌, ◌<◌}
use mathlib.Core.Path.{◌≡◌}
use mathlib.Core.Bool.{not}
use lib.ListN.{length}
use Rattle.structs.specs.Bitmap.{bit_at}
use Rattle.trap_sheet.proofs.search.next_bit.Given as goal

abbrev pub invariant-loop-n : goal.invariant-loop-n
invariant-loop-n l = (l.from ≤ l.n) × (l.n ≤ 8 * length l.bits) × (l.end ≡ 8 * length l.bits) × ((m : ℕ) → l.from ≤ m → m < l.n → bit_at l.bits m ≡ not l.v)

abbrev pub decreases-loop-n : goal.decreases-loop-n
decreases-loop-n l = l.end - l.n
