use Rattle.std.proofs.Common.{rules, ap, length, arith}
use mathlib.Core.List.{flat_map}
use Rattle.text.proofs.WritingLaws.{putting_none, putting_more, putting_room, putting_all}
use Rattle.sheet.specs.Line.{printed_line}
use Rattle.sheet.specs.Sheet.{printed_lines}
use Rattle.sheet.specs.Left.{left}
use Rattle.sheet.proofs.SheetLaws.{sheet_long, sheet_lines}
use Rattle.sheet.proofs.put_sheet.Goals as goal

pub put-requires : goal.put-requires
put-requires c = omega (arith, c.requires, ap length (sheet_long c.args.input.now (search rules)))

pub returns-then-longer : goal.returns-then-longer
returns-then-longer c = rw (sheet_long c.args.input.now (search rules)) c.put.ensures

pub loop-line-init : goal.loop-line-init
unfolding printed_lines
loop-line-init c =
    let lines = sheet_lines c.args.input.now (search rules) in
    rw (c.into_iter-line-iterator.ensures.into_iter_gives, lines) (putting_none {x = c.args.output.now} (rw lines at c.requires))

pub put_line-requires : goal.put_line-requires
unfolding flat_map
put_line-requires c = putting_room _ (flat_map printed_line (left c.next.new.self)) c.requires (rw c.in-Some.ensures.steps at c.loop-line.invariant)

pub loop-line-preserved : goal.loop-line-preserved
unfolding flat_map
loop-line-preserved c = putting_more _ (flat_map printed_line (left c.next.new.self)) (rw c.in-Some.ensures.steps at c.loop-line.invariant) c.put_line.ensures

pub returns : goal.returns
unfolding flat_map
returns c = putting_all (rw c.in-None.ensures.steps.0 at c.loop-line.invariant)
