use Rattle.std.proofs.Common.{ap, length, arith}
use Rattle.text.proofs.WritingLaws.{puts_both}
use Rattle.sheet.specs.Line.{answer_text}
use Rattle.sheet.proofs.line.put_answer.Goals as goal

pub put-requires : goal.put-requires
unfolding answer_text
put-requires c = let h = rw c.in-Ok.is at c.requires in omega (arith, h)

pub put-requires-in-Ok : goal.put-requires-in-Ok
unfolding answer_text
put-requires-in-Ok c = let h = rw c.in-Ok.is at c.requires in omega (arith, h, ap length c.digits.ensures)

pub put-requires-in-Ok-2 : goal.put-requires-in-Ok-2
unfolding answer_text
put-requires-in-Ok-2 c = let h = rw c.in-Ok.is at c.requires in omega (arith, h, ap length c.digits.ensures)

pub put-requires-in-Err : goal.put-requires-in-Err
unfolding answer_text
put-requires-in-Err c = let h = rw c.in-Err.is at c.requires in omega (arith, h)

pub put-requires-in-Err-2 : goal.put-requires-in-Err-2
unfolding answer_text
put-requires-in-Err-2 c = let h = rw c.in-Err.is at c.requires in omega (arith, h)

pub returns-in-Ok : goal.returns-in-Ok
unfolding answer_text
returns-in-Ok c = rw c.in-Ok.is (puts_both (puts_both c.put.ensures (rw c.digits.ensures at c.put-in-Ok.ensures)) c.put-in-Ok-2.ensures)

pub returns-in-Err : goal.returns-in-Err
unfolding answer_text
returns-in-Err c = rw (c.in-Err.is, ← c.from.ensures) (puts_both c.put-in-Err.ensures c.put-in-Err-2.ensures)
