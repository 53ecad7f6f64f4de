use Rattle.std.proofs.Common.{arith, ℕ, length-append}
use Rattle.text.proofs.WritingLaws.{puts_both}
use Rattle.trap_sheet.proofs.lines.put_number.Goals as goal

pub put-requires-2 : goal.put-requires-2
put-requires-2 c = omega (arith, length-append {A = ℕ})

pub put-requires-3 : goal.put-requires-3
put-requires-3 c = omega (arith, length-append {A = ℕ})

pub returns : goal.returns
returns c = puts_both (puts_both c.put.ensures (rw c.columns.ensures at c.put-2.ensures)) c.put-3.ensures
