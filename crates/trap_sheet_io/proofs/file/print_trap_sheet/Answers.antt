use borrow.Author.Rules.{rules}
use Rattle.streams.proofs.PrintedLaws.{written}
use Rattle.text.specs.Ascii.{ascii}
use Rattle.trap_sheet_io.specs.Printed.{printed_for}
use Rattle.trap_sheet_io.proofs.FileLaws.{longer_refused}
use Rattle.trap_sheet_io.proofs.file.print_trap_sheet.Goals as goal

pub returns : goal.returns
returns g c =
    let printed = c.printed-length.ensures in
    written printed_for 12289 (ascii "refused 2\n") longer_refused _ _ _ _ _ _ _ _ _ (search rules) c.in_ok-read.ensures.start printed.count printed.text c.write_all.ensures.bytes
