use mathlib.Core.Path.{◌≡◌}
use lib.ListN.{drop}
use Rattle.replay.specs.Text.{number_at, number_from}
use Rattle.replay.proofs.text.number_at.Given as goal

abbrev pub invariant-loop-i : goal.invariant-loop-i
invariant-loop-i l = number_at l.text l.at ≡ number_from l.value l.i (drop l.i l.text)
