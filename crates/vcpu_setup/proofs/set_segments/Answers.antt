use Rattle.vcpu_setup.proofs.SegmentLaws.{next_segment}
use Rattle.vcpu_setup.proofs.set_segments.Goals as goal

pub loop-g-preserved : goal.loop-g-preserved
loop-g-preserved c = next_segment _ _ _ _ _ _ c.loop-g-test.true c.loop-g.invariant c.set_segment.ensures
