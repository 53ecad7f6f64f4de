use Rattle.std.proofs.Common.{◌++◌, arith, ap, length, length-append}
use Rattle.trap_sheet.proofs.RunSearch.{none_left, one_left}
use Rattle.trap_sheet.proofs.runs.RunsIterator.next.Goals as goal

pub returns-then-first-end-clause-steps : goal.returns-then-first-end-clause-steps
returns-then-first-end-clause-steps c =
    let s = c.args.self.now in
    let none = none_left s.base (s.low.now ++ s.high.now) s.from _ c.next_of-first.ensures (omega (arith, length-append s.low.now s.high.now)) in
    (none, none)

pub returns-clause-steps : goal.returns-clause-steps
returns-clause-steps c =
    let s = c.args.self.now in
    let first = c.next_of-first.ensures in
    one_left s.base (s.low.now ++ s.high.now) s.from _ first _ (omega (arith, length-append s.low.now s.high.now, first.within)) c.next_of-stop.ensures

pub returns-clause-goes : goal.returns-clause-goes
returns-clause-goes c =
    let one = ap length (returns-clause-steps c) in
    record { on = λ _. (tt, tt, omega (arith, one)); keeps = tt; rests = λ _. tt }
