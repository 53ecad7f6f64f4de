use Rattle.std.proofs.Common.{arith}
use Rattle.text.proofs.DecimalLaws.{none_written, written_more, written_last, written_all}
use Rattle.text.proofs.decimal.columns.Goals as goal

pub loop-i-init : goal.loop-i-init
loop-i-init c = none_written 14 c.args.n

pub loop-i-preserved : goal.loop-i-preserved
loop-i-preserved c = let l = c.loop-i in written_more 14 l.i c.args.n l.rest l.text c.loop-i-test.true l.invariant c.if-rest-eq0.false

pub returns-then-rest-eq0 : goal.returns-then-rest-eq0
returns-then-rest-eq0 c = let l = c.loop-i in written_last 14 l.i c.args.n l.rest l.text c.loop-i-test.true l.invariant c.if-rest-eq0.true

pub returns-after-loop-i : goal.returns-after-loop-i
returns-after-loop-i c = let l = c.loop-i in written_all 14 l.i c.args.n l.rest l.text c.loop-i-test.false (omega arith) l.invariant
