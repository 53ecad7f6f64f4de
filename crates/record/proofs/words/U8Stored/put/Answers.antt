use mathlib.Core.Path.{◌≡◌, sym, ap}
use Prim.Native.Nat.{ℕ, ◌%◌}
use native.Mathlib.Omega.{arith}
use lib.ListN.{set}
use Rattle.bits.specs.LittleEndian.{bytes_of}
use Rattle.record.proofs.words.U8Stored.put.Goals as goal

pub returns-clause-b_after : goal.returns-clause-b_after
unfolding bytes_of
returns-clause-b_after c = let a = c.args in
    let same : a.v % 256 ≡ a.v = omega arith in
    ap (λ (x : ℕ). set a.b.now a.at x) (sym same)
