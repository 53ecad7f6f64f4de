use Rattle.std.proofs.Common.{rules, arith, ap, length}
use Rattle.sheet.proofs.SheetLaws.{lines_none, lines_next}
use Rattle.sheet.proofs.lines.LinesIterator.next.Goals as goal

pub returns-then-is_empty-clause-steps : goal.returns-then-is_empty-clause-steps
returns-then-is_empty-clause-steps c =
    let none = lines_none c.args.self.now.rest.now (search rules) in
    (none, none)

pub returns-clause-steps : goal.returns-clause-steps
returns-clause-steps c = lines_next c.args.self.now.rest.now c.line_length-n.result c.min.result (search rules) c.line_length-n.ensures.value (search rules)

pub returns-clause-goes : goal.returns-clause-goes
returns-clause-goes c =
    let one = ap length (returns-clause-steps c) in
    record { on = λ _. (tt, tt, omega (arith, one)); keeps = tt; rests = λ _. tt }
