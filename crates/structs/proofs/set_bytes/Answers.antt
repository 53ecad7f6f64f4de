use mathlib.Core.Path.{refl, ap, ◌∙◌}
use mathlib.Core.List.{List}
use Prim.Native.Nat.{ℕ, ◌*◌}
use native.Mathlib.Omega.{arith}
use lib.ListN.{set, length-set}
use Rattle.structs.specs.Bitmap.{full_byte}
use Rattle.structs.proofs.BitmapLaws.{no_bits, next_byte}
use Rattle.structs.proofs.set_bytes.Goals as goal

pub loop-i-init : goal.loop-i-init
loop-i-init c = (omega arith, omega arith, refl, no_bits _ _ _)

pub loop-i-preserved : goal.loop-i-preserved
loop-i-preserved c = let a = c.args in (
  omega arith,
  omega arith,
  rw length-set c.loop-i.invariant.2,
  rw c.full_byte-full.ensures
      (ap (λ (ys : List ℕ). set ys c.loop-i.i (full_byte a.v)) c.loop-i.invariant.3
      ∙ next_byte a.frame.now (8 * a.first) c.loop-i.i a.v (λ k. (c.slice_known-1.given k).fits) (omega arith) (omega arith)),
)
