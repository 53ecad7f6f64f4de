use Prim.Native.Nat.{◌*◌, ◌/◌}
use native.Mathlib.Omega.{arith}
use Rattle.structs.proofs.BitmapLaws.{three_ranges}
use Rattle.structs.proofs.set_bits.Goals as goal

-- bits, whole bytes and bits
pub returns-else-last-first : goal.returns-else-last-first
returns-else-last-first c = let a = c.args in
    three_ranges a.frame.now a.from (8 * c.div_ceil-first.result) (8 * (a.to / 8)) a.to a.v c.set_each-else-last-first.ensures c.set_bytes.ensures c.set_each-else-last-first-2.ensures
    (omega arith) (omega arith) (omega arith)
