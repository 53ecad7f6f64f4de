use Rattle.text.proofs.WritingLaws.{Putting}
use Rattle.trap_sheet.specs.Search.{run_lines}
use Rattle.trap_sheet.specs.Left.{left}
use Rattle.trap_sheet.proofs.lines.put_runs.Given as goal

-- the lines of the runs that the iterator has left are still to be put
abbrev pub invariant-loop-run : goal.invariant-loop-run
invariant-loop-run l = Putting (run_lines l.kind (left l.fn.runs)) (run_lines l.kind (left l.run-iterator)) l.fn.output l.output
