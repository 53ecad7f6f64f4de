use mathlib.Core.Path.{ap, ◌∙◌}
use lib.Bits.{bit_and, bit_or}
use Rattle.bits.specs.Words.{bit_not}
use Rattle.bits.proofs.WithBit.{shifted_one, or_writes, and_writes}
use Rattle.vcpu_events.proofs.with_coded.Goals as goal

pub returns-then-on : goal.returns-then-on
returns-then-on c = rw c.if-on.true (ap (bit_or c.args.coded) (shifted_one 64 c.args.place c.requires) ∙ or_writes _ _)

pub returns-else-on : goal.returns-else-on
returns-else-on c = rw c.if-on.false
    (ap (λ one. bit_and c.args.coded (bit_not 64 one)) (shifted_one 64 c.args.place c.requires)
    ∙ and_writes 64 _ _ c.requires c.ranges.coded.fits)
