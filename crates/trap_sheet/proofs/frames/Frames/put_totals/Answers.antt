use Rattle.std.proofs.Common.{◌+◌, ◌*◌, ap, ◌∙◌, length, arith}
use Rattle.structs.specs.Bitmap.{bit_at}
use Rattle.text.proofs.WritingLaws.{puts_both}
use Rattle.trap_sheet.specs.Search.{bit_count}
use Rattle.trap_sheet.proofs.RunLaws.{count_most}
use Rattle.trap_sheet.proofs.SheetLaws.{total_parts}
use Rattle.trap_sheet.proofs.frames.Frames.put_totals.Goals as goal

pub overflow_add-count_ones : goal.overflow_add-count_ones
overflow_add-count_ones c =
    let a = c.args.self.now.a.now in
    let b = c.args.self.now.b.now in
    record { fits = omega (arith, c.count_ones.ensures, c.count_ones-2.ensures, count_most (bit_at a) 0 (8 * length a), count_most (bit_at b) 0 (8 * length b), c.args.self.now.a_length, c.args.self.now.b_length) }

pub returns : goal.returns
returns c =
    let f = c.args.self.now in
    let reads = c.count_ones-3.ensures ∙ ap bit_count c.split_at.ensures.front in
    let writes = c.count_ones-4.ensures ∙ ap bit_count c.split_at.ensures.back in
    let parts = total_parts f.a.now f.b.now f.msr.now f.a_length f.b_length f.msr_length {p = c.count_ones.result + c.count_ones-2.result}
    (λ i. c.count_ones.ensures i + c.count_ones-2.ensures i) reads writes in
    rw parts (puts_both (puts_both c.put_total.ensures c.put_total-2.ensures) c.put_total-3.ensures)
