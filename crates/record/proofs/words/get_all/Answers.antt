use mathlib.Core.Path.{refl}
use native.Mathlib.Omega.{arith}
use Rattle.record.proofs.Loops.{filled_none, filled_more}
use Rattle.record.proofs.words.get_all.Goals as goal

pub loop-i-init : goal.loop-i-init
loop-i-init g c = filled_none refl

pub loop-i-preserved : goal.loop-i-preserved
loop-i-preserved g c = filled_more c.loop-i.invariant (omega arith) (rw c.SIZE.ensures at c.get.ensures)
