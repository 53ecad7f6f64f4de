use mathlib.Core.Path.{◌≡◌}
use lib.ListN.{drop}
use Rattle.vmcs.specs.Writes.{applied}
use Rattle.vcpu_setup.specs.Writes.{segments_set}
use Rattle.vcpu_setup.proofs.SegmentLaws.{all_writes}
use Rattle.vcpu_setup.proofs.set_segments.Given as goal

-- the segments that are left, written next, give what all of them give
abbrev pub invariant-loop-g : goal.invariant-loop-g
invariant-loop-g l = applied (all_writes (drop l.g-index l.g-items)) l.v ≡ segments_set l.fn.v
