use Rattle.std.proofs.Common.{sym, ap, ◌∙◌}
use Rattle.text.proofs.WritingLaws.{first_room, next_room, both_put}
use Rattle.trap_sheet.specs.Left.{left}
use Rattle.trap_sheet.specs.Search.{run_lines}
use Rattle.trap_sheet.proofs.FrameLaws.{lines_append}
use Rattle.trap_sheet.proofs.frames.put_access.Goals as goal

pub put_runs-requires : goal.put_runs-requires
put_runs-requires c =
    let r = c.of_access in let kind = c.args.kind.now in
    first_room _ _ c.args.output.now (ap (run_lines kind) (sym r.ensures) ∙ lines_append kind (left r.result.0) (left r.result.1)) c.requires.room

pub put_runs-requires-2 : goal.put_runs-requires-2
put_runs-requires-2 c =
    let r = c.of_access in let kind = c.args.kind.now in
    next_room _ _ c.args.output.now (ap (run_lines kind) (sym r.ensures) ∙ lines_append kind (left r.result.0) (left r.result.1)) c.put_runs.new.output c.requires.room c.put_runs.ensures

pub returns : goal.returns
returns c =
    let r = c.of_access in let kind = c.args.kind.now in
    both_put _ _ _ (ap (run_lines kind) (sym r.ensures) ∙ lines_append kind (left r.result.0) (left r.result.1)) c.put_runs.ensures c.put_runs-2.ensures
