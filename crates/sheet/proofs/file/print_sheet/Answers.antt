use borrow.Author.Rules.{rules}
use Rattle.streams.proofs.PrintedLaws.{written}
use Rattle.sheet.specs.Sheet.{sheet_of, too_long}
use Rattle.sheet.proofs.SheetLaws.{sheet_long}
use Rattle.sheet.proofs.file.print_sheet.Goals as goal

pub returns : goal.returns
returns g c =
    let sheet = c.sheet-length.ensures in
    written sheet_of 65537 too_long sheet_long _ _ _ _ _ _ _ _ _ (search rules) c.in_ok-read.ensures.start sheet.count sheet.text c.write_all.ensures.bytes
