use Rattle.record.proofs.Loops.{Written}
use Rattle.record.proofs.words.put_all.Given as goal

abbrev pub invariant-loop-i : goal.invariant-loop-i
invariant-loop-i g l = Written g.T.Stored.SIZE g.T.Stored.write g.T.Stored.Fits l.initial.b l.at l.vs l.b l.i
