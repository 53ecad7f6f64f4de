use lib.Seq.{drop-drop}
use Rattle.record.specs.Codec.{fixed_of}
use Rattle.record.proofs.FixedStored.get.Goals as goal

pub returns : goal.returns
unfolding fixed_of
returns c = let a = c.args in
    rw (drop-drop 8 a.at a.b.now, c.get.ensures, c.get-2.ensures)
