use Rattle.std.proofs.Common.{ap, length, arith}
use Rattle.text.proofs.PutLaws.{put_first}
use Rattle.sheet.specs.Sheet.{sheet_of}
use Rattle.sheet.proofs.SheetLaws.{sheet_room}
use Rattle.sheet.proofs.sheet.Goals as goal

pub put_sheet-requires : goal.put_sheet-requires
put_sheet-requires c = omega (arith, sheet_room c.args.input.now, ap length c.new-sheet.ensures.bytes, c.new-sheet.ensures.none)

pub returns-clause-text : goal.returns-clause-text
returns-clause-text c =
    let new = c.new-sheet.ensures in
    let put = c.put_sheet.ensures in
    (put_first c.args.output.now _ (sheet_of c.args.input.now) c.written.result (omega (arith, put.written, new.none, c.written.ensures)) (rw (new.bytes, new.none) at put.bytes)).1
