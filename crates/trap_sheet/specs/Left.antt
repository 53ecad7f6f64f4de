-- What the iterator of runs has left. Assumes nothing.
use Rattle.std.specs.Prelude.{List, ◌++◌}
use Rattle.trap_sheet.specs.declared.runs.Runs.{Runs}
use Rattle.trap_sheet.specs.declared.runs.Run.{Run as Item}
use Rattle.trap_sheet.specs.Runs.{Run}
use Rattle.trap_sheet.specs.Search.{runs_from}

-- the run that an item is
abbrev pub run_of : Item → Run
run_of r = record { first = r.first; last = r.last }

abbrev pub left : Runs → List Run
left s = runs_from s.base (s.low.now ++ s.high.now) s.from
