use Rattle.std.proofs.Common.{◌++◌, inl, ap, ◌∙◌, length, length-append, arith}
use Rattle.trap_sheet.specs.Search.{access_runs}
use Rattle.trap_sheet.proofs.LineLaws.{sheet_most}
use Rattle.trap_sheet.proofs.FrameLaws.{runs_most}
use Rattle.trap_sheet.proofs.SheetLaws.{size}
use Rattle.trap_sheet.proofs.CountLaws.{runs_counted}
use Rattle.trap_sheet.proofs.frames.Frames.sheet_length.Goals as goal

pub count-ports-requires-clause-fits : goal.count-ports-requires-clause-fits
count-ports-requires-clause-fits c =
    let f = c.args.self.now in
    inl (omega (arith, ap length c.new.ensures, runs_most 0 (f.a.now ++ f.b.now), length-append f.a.now f.b.now))

pub returns : goal.returns
returns c =
    let f = c.args.self.now in
    let ports = runs_counted c.new.result c.count-ports.result c.count-ports.ensures.ran ∙ ap length c.new.ensures in
    size f.a.now f.b.now f.msr.now f.a_length f.b_length f.msr_length ports
    (c.count_access-reads.ensures ∙ ap (λ half. length (access_runs half)) c.split_at.ensures.front) (c.count_access-writes.ensures ∙ ap (λ half. length (access_runs half)) c.split_at.ensures.back)

-- the sums and the product fit, since a sheet is bounded
pub overflow_add-result : goal.overflow_add-result
overflow_add-result c = let f = c.args.self.now in record { fits = omega (arith, returns c, sheet_most f.a.now f.b.now f.msr.now) }

pub overflow_add-result-2 : goal.overflow_add-result-2
overflow_add-result-2 c = let f = c.args.self.now in record { fits = omega (arith, returns c, sheet_most f.a.now f.b.now f.msr.now) }

pub overflow_add-result-3 : goal.overflow_add-result-3
overflow_add-result-3 c = let f = c.args.self.now in record { fits = omega (arith, returns c, sheet_most f.a.now f.b.now f.msr.now) }

pub overflow_mul-result : goal.overflow_mul-result
overflow_mul-result c = let f = c.args.self.now in omega (arith, returns c, sheet_most f.a.now f.b.now f.msr.now)
