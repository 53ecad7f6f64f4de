use mathlib.Core.Path.{refl, ap, ◌∙◌}
use mathlib.Core.List.{List}
use Prim.Native.Nat.{ℕ}
use native.Mathlib.Omega.{arith}
use lib.ListN.{length-set}
use Rattle.structs.specs.Bitmap.{set_bit}
use Rattle.structs.proofs.BitmapLaws.{no_bits, next_bit}
use Rattle.structs.proofs.set_each.Goals as goal

pub loop-n-init : goal.loop-n-init
loop-n-init c = (omega arith, omega arith, refl, no_bits _ _ _)

pub loop-n-preserved : goal.loop-n-preserved
unfolding set_bit
loop-n-preserved c = let a = c.args in (
  omega arith,
  omega arith,
  rw length-set c.loop-n.invariant.2,
  rw c.with_bit.ensures (ap (λ (ys : List ℕ). set_bit ys c.loop-n.n a.v) c.loop-n.invariant.3 ∙ next_bit a.frame.now a.from c.loop-n.n a.v c.loop-n.invariant.0),
)
