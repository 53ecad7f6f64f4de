use Rattle.std.proofs.Common.{inl, ap, length, length-append, arith}
use Rattle.trap_sheet.specs.Left.{left}
use Rattle.trap_sheet.proofs.FrameLaws.{access_most}
use Rattle.trap_sheet.proofs.CountLaws.{runs_counted}
use Rattle.trap_sheet.proofs.frames.count_access.Goals as goal

pub count-requires-clause-fits : goal.count-requires-clause-fits
count-requires-clause-fits c =
    let r = c.of_access.result in
    inl (omega (arith, ap length c.of_access.ensures, length-append (left r.0) (left r.1), access_most c.args.half.now c.requires))

pub count-requires-2-clause-fits : goal.count-requires-2-clause-fits
count-requires-2-clause-fits c =
    let r = c.of_access.result in
    inl (omega (arith, ap length c.of_access.ensures, length-append (left r.0) (left r.1), access_most c.args.half.now c.requires))

pub returns : goal.returns
returns c =
    let r = c.of_access.result in
    let low = runs_counted r.0 c.count.result c.count.ensures.ran in
    let high = runs_counted r.1 c.count-2.result c.count-2.ensures.ran in
    omega (arith, low, high, ap length c.of_access.ensures, length-append (left r.0) (left r.1))

pub overflow_add-result : goal.overflow_add-result
overflow_add-result c = record { fits = omega (arith, returns c, access_most c.args.half.now c.requires) }
