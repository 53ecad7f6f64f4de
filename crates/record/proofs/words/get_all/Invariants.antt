use lib.ListN.{length}
use Rattle.record.proofs.Loops.{Filled}
use Rattle.record.proofs.words.get_all.Given as goal

abbrev pub invariant-loop-i : goal.invariant-loop-i
invariant-loop-i g l = Filled g.T.Stored.SIZE g.T.Stored.read l.b l.at (length l.initial.out) l.out l.i
