use Rattle.std.proofs.Common.{arith}
use Rattle.std.proofs.lemmas.Grind.{common_steps}
use Rattle.text.proofs.HexLaws.{number_more, grows, fits, fits_shifted, value_below}
use Rattle.text.proofs.hex.number.Goals as goal

pub overflow_mul-n : goal.overflow_mul-n
overflow_mul-n c = record { fits = fits_shifted c.loop-b.b-index c.loop-b.n c.loop-b.invariant.0 (omega arith) }

pub overflow_add-n : goal.overflow_add-n
overflow_add-n c = grind (arith, common_steps, fits, value_below)

pub loop-b-preserved : goal.loop-b-preserved
loop-b-preserved c = grind (arith, common_steps, number_more, grows, value_below)
