use Rattle.std.proofs.Common.{rules}
use Rattle.text.proofs.WritingLaws.{buffer_put}
use Rattle.trap_sheet.proofs.SheetLaws.{sheet_answer}
use Rattle.trap_sheet.proofs.trap_sheet.Goals as goal

pub returns : goal.returns
returns c =
    let sheet = c.new-sheet.ensures in
    λ size. sheet_answer c.args.a.now c.args.b.now c.args.msr.now (search rules) (search rules) (search rules) c.args.output.now _ size _
    c.sheet_length-size.ensures (search rules) (buffer_put sheet.same_buffer sheet.bytes sheet.none c.put_sheet.ensures (search rules))
