use Rattle.bits.proofs.WithBit.{shifted_one, or_writes, and_writes}
use Rattle.structs.proofs.with_bit.Goals as goal

pub returns-then-v : goal.returns-then-v
returns-then-v c = rw (c.if-v.true, shifted_one 8 c.args.k c.requires) (or_writes _ _)

pub returns-else-v : goal.returns-else-v
returns-else-v c = rw (c.if-v.false, shifted_one 8 c.args.k c.requires) (and_writes 8 _ _ c.requires c.ranges.byte.fits)
