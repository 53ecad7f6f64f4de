use Rattle.record.specs.Codec.{pair_bytes}
use Rattle.record.proofs.Stores.{stored_two}
use Rattle.record.proofs.PairStored.put.Goals as goal

pub returns-clause-b_after : goal.returns-clause-b_after
unfolding pair_bytes
returns-clause-b_after c = rw (c.put-2.ensures.b_after, c.put.ensures.b_after, stored_two 4)
