use borrow.Author.Rules.{rules}
use Rattle.record.proofs.Accepted.{accepted_length}
use Rattle.call_specs.specs.Reads.{address_call}
use Rattle.x86_vcpu.proofs.readings.vcpu_gla2gva.Goals as goal

pub w32_at-rights-requires : goal.w32_at-rights-requires
unfolding address_call
w32_at-rights-requires c = search (accepted_length, rules)

pub natural_at-cr0-requires : goal.natural_at-cr0-requires
unfolding address_call
natural_at-cr0-requires c = search (accepted_length, rules)

pub natural_at-base-requires : goal.natural_at-base-requires
unfolding address_call
natural_at-base-requires c = search (accepted_length, rules)
