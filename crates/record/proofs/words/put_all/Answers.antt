use native.Mathlib.Omega.{arith}
use Rattle.record.proofs.Loops.{written_none, written_more}
use Rattle.record.proofs.words.put_all.Goals as goal

pub loop-i-init : goal.loop-i-init
loop-i-init g c = written_none

pub loop-i-preserved : goal.loop-i-preserved
loop-i-preserved g c = let v = c.index-vs-i in
    let put = rw (c.SIZE.ensures, v.is) at c.put.ensures in
    written_more c.loop-i.invariant v.result g.met.T.Stored.size (omega arith) put.b_after put.fits
