use Rattle.record.specs.Codec.{fixed_bytes}
use Rattle.record.proofs.Stores.{stored_two}
use Rattle.record.proofs.FixedStored.put.Goals as goal

pub returns-clause-b_after : goal.returns-clause-b_after
unfolding fixed_bytes
returns-clause-b_after c = rw (c.put-2.ensures.b_after, c.put.ensures.b_after, stored_two 8)
