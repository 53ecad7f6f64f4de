use Rattle.trap_sheet.proofs.SearchLaws.{next_high, next_over}
use Rattle.trap_sheet.proofs.search.next_of.Goals as goal

pub returns-then-border-from : goal.returns-then-border-from
returns-then-border-from c = let a = c.args in
    next_high a.low.now a.high.now a.v a.from c.next_bit.result c.if-border-from.true c.next_bit.ensures

pub returns : goal.returns
returns c = let a = c.args in
    next_over a.low.now a.high.now a.v a.from c.next_bit-2.result c.next_bit-n.result c.next_bit-n.ensures c.if-n-border.false c.next_bit-2.ensures
