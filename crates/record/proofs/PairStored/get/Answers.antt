use lib.Seq.{drop-drop}
use Rattle.record.specs.Codec.{pair_of}
use Rattle.record.proofs.PairStored.get.Goals as goal

pub returns : goal.returns
unfolding pair_of
returns c = let a = c.args in
    rw (drop-drop 4 a.at a.b.now, c.get.ensures, c.get-2.ensures)
