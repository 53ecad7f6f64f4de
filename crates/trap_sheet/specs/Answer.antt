-- The answer of the code as the record of the call. Assumes nothing.
use Rattle.std.specs.Prelude.{ℕ, List, Result, Ok, Err}
use Rattle.definitions.specs.declared.refusal.Refusal.{Refusal}
use Rattle.definitions.specs.Refusals.{number}
use Rattle.trap_sheet.specs.Sheet.{TrapSheet}

-- with the output as it is left, and the length as it was before the call
abbrev pub answered : Result ℕ Refusal → List ℕ → ℕ → TrapSheet
answered (Ok n) output size = record { refusal = 0; output = output; size = n }
answered (Err e) output size = record { refusal = number e; output = output; size = size }
