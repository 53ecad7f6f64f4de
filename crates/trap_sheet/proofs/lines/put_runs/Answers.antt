use mathlib.Core.List.{flat_map}
use Rattle.text.proofs.WritingLaws.{putting_none, putting_more, putting_room, putting_all}
use Rattle.trap_sheet.specs.Search.{run_lines}
use Rattle.trap_sheet.specs.Left.{left}
use Rattle.trap_sheet.proofs.lines.put_runs.Goals as goal

pub loop-run-init : goal.loop-run-init
loop-run-init c = rw c.into_iter-run-iterator.ensures.into_iter_gives (putting_none c.requires)

pub put_run-requires : goal.put_run-requires
unfolding flat_map
put_run-requires c = putting_room _ (run_lines c.args.kind.now (left c.next.new.self)) c.requires (rw c.in-Some.ensures.steps at c.loop-run.invariant)

pub loop-run-preserved : goal.loop-run-preserved
unfolding flat_map
loop-run-preserved c = putting_more _ (run_lines c.args.kind.now (left c.next.new.self)) (rw c.in-Some.ensures.steps at c.loop-run.invariant) c.put_run.ensures

pub returns : goal.returns
unfolding flat_map
returns c = putting_all (rw c.in-None.ensures.steps.0 at c.loop-run.invariant)
