use borrow.Author.Rules.{rules}
use Rattle.record.proofs.Accepted.{accepted_length}
use Rattle.call_specs.specs.Reads.{get_xcr0}
use Rattle.x86_vcpu.proofs.readings.vcpu_get_xcr0.Goals as goal

pub xcr0_at-held-requires : goal.xcr0_at-held-requires
unfolding get_xcr0
xcr0_at-held-requires c = search (accepted_length, rules)
