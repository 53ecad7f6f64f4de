use Rattle.std.proofs.Common.{refl, arith}
use Rattle.text.proofs.WritingLaws.{puts_both}
use Rattle.trap_sheet.proofs.SheetLaws.{sheet_put, sheet_columns}
use Rattle.trap_sheet.proofs.frames.Frames.put_sheet.Goals as goal

pub put_totals-requires : goal.put_totals-requires
put_totals-requires c =
    let f = c.args.self.now in
    let s = c.split_at in
    omega (arith, c.requires, sheet_columns f.a.now f.b.now f.msr.now f.a_length f.b_length f.msr_length _ _ _ (refl) s.ensures.front s.ensures.back)

pub put_runs-requires : goal.put_runs-requires
put_runs-requires c =
    let f = c.args.self.now in
    let s = c.split_at in
    omega (arith, c.requires, sheet_columns f.a.now f.b.now f.msr.now f.a_length f.b_length f.msr_length _ _ _ c.new.ensures s.ensures.front s.ensures.back)

pub put_access-requires-clause-room : goal.put_access-requires-clause-room
put_access-requires-clause-room c =
    let f = c.args.self.now in
    let s = c.split_at in
    omega (arith, c.requires, sheet_columns f.a.now f.b.now f.msr.now f.a_length f.b_length f.msr_length _ _ _ c.new.ensures s.ensures.front s.ensures.back)

pub put_access-requires-2-clause-room : goal.put_access-requires-2-clause-room
put_access-requires-2-clause-room c =
    let f = c.args.self.now in
    let s = c.split_at in
    omega (arith, c.requires, sheet_columns f.a.now f.b.now f.msr.now f.a_length f.b_length f.msr_length _ _ _ c.new.ensures s.ensures.front s.ensures.back)

pub returns : goal.returns
returns c =
    let f = c.args.self.now in
    let s = c.split_at in
    rw (sheet_put f.a.now f.b.now f.msr.now f.a_length f.b_length f.msr_length _ _ _ c.new.ensures s.ensures.front s.ensures.back)
    (puts_both (puts_both (puts_both c.put_totals.ensures c.put_runs.ensures) c.put_access.ensures) c.put_access-2.ensures)
