-- The runs that an iterator gives, counted. Assumes nothing.
use Rattle.std.proofs.Common.{◌≡◌, ℕ, List, refl, length}
use Rattle.std.proofs.lemmas.Iterator.Consumers.{YieldsList-from_first, count_from_yields_List}
use Rattle.std.specs.Iterator.{YieldsFirstBy, Drains}
use Rattle.trap_sheet.specs.declared.runs.Runs.{Runs}
use Rattle.trap_sheet.specs.declared.runs.Run.{Run as Item}
use Rattle.trap_sheet.specs.Left.{run_of, left}

pub runs_counted : (s : Runs) (n : ℕ) → ((xs : List Item) × Drains (YieldsFirstBy run_of left) s xs × (n ≡ length xs)) → n ≡ length (left s)
runs_counted s n ran = count_from_yields_List s n ran (YieldsList-from_first run_of left (left s) refl)
