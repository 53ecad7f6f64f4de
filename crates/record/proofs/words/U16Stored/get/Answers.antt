use mathlib.Core.Path.{◌≡◌, ◌∙◌}
use Prim.Native.Nat.{◌+◌, ◌-◌}
use native.Mathlib.Omega.{arith}
use Rattle.record.proofs.Stores.{part_number}
use Rattle.record.proofs.words.U16Stored.get.Goals as goal

pub returns : goal.returns
returns c = let a = c.args in
    let size : a.at + 2 - a.at ≡ 2 = omega arith in
    let whole = rw c.unwrap-bytes.ensures at c.try_from.ensures in
    c.from_le_bytes.ensures ∙ part_number a.b.now c.unwrap-bytes.result 1 a.at (omega arith) (rw size at whole.1.same)
