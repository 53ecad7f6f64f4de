use Rattle.std.proofs.Common.{◌∙◌, rules, arith, ap, take, drop}
use Rattle.trap_sheet.proofs.AcceptedLaws.{accepted, accepted_sheet}
use Rattle.trap_sheet_io.proofs.PrintedLaws.{printed_refused, a_length, b_length, msr_length, room, printed_sheet}
use Rattle.trap_sheet_io.proofs.printed.Goals as goal

pub returns-then-input-ne-FRAMES : goal.returns-then-input-ne-FRAMES
returns-then-input-ne-FRAMES c =
    let new = c.new-refusal.ensures in
    let put = c.put.ensures in
    let p = printed_refused c.args.input.now c.args.output.now _ c.written.result (search rules) (omega (arith, c.written.ensures, put.written, new.none)) (rw (new.bytes, new.none) at put.bytes) in
    record { count = p.0; text = p.1 }

pub unwrap-requires : goal.unwrap-requires
unwrap-requires c =
    let s = c.args.input.now in
    let d = c.args.output.now in
    let x = c.split_at.ensures in
    let y = c.split_at-2.ensures in
    let q = y.front ∙ ap (λ l. take 4096 l) x.back in
    let r = y.back ∙ ap (λ l. drop 4096 l) x.back in
    accepted _ _ _ d _ (a_length s d _ _ _ (search rules) (search rules) x.front q r) (b_length s d _ _ _ (search rules) (search rules) x.front q r) (msr_length s d _ _ _ (search rules) (search rules) x.front q r)
    (room s d _ _ _ (search rules) (search rules) x.front q r) c.trap_sheet.result c.trap_sheet.ensures

pub returns : goal.returns
returns c =
    let s = c.args.input.now in
    let d = c.args.output.now in
    let x = c.split_at.ensures in
    let y = c.split_at-2.ensures in
    let q = y.front ∙ ap (λ l. take 4096 l) x.back in
    let r = y.back ∙ ap (λ l. drop 4096 l) x.back in
    let put = accepted_sheet _ _ _ d _ (a_length s d _ _ _ (search rules) (search rules) x.front q r) (b_length s d _ _ _ (search rules) (search rules) x.front q r) (msr_length s d _ _ _ (search rules) (search rules) x.front q r)
    (room s d _ _ _ (search rules) (search rules) x.front q r) c.trap_sheet.result c.unwrap.result c.trap_sheet.ensures (search rules) in
    let e = printed_sheet s d _ _ _ (search rules) (search rules) x.front q r in
    record { count = rw e put.0; text = rw e put.1 }
