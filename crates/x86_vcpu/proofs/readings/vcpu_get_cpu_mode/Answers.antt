use borrow.Author.Rules.{rules}
use Rattle.record.proofs.Accepted.{accepted_length}
use Rattle.call_specs.specs.Reads.{mode_call}
use Rattle.x86_vcpu.proofs.readings.vcpu_get_cpu_mode.Goals as goal

pub w32_at-rights-requires : goal.w32_at-rights-requires
unfolding mode_call
w32_at-rights-requires c = search (accepted_length, rules)

pub natural_at-cr0-requires : goal.natural_at-cr0-requires
unfolding mode_call
natural_at-cr0-requires c = search (accepted_length, rules)
