use Rattle.text.proofs.DecimalLaws.{Written}
use Rattle.text.proofs.decimal.columns.Given as goal

abbrev pub invariant-loop-i : goal.invariant-loop-i
invariant-loop-i l = Written 14 l.i l.n l.text l.rest
