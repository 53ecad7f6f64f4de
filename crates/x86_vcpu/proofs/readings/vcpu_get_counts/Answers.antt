use borrow.Author.Rules.{rules}
use Rattle.record.proofs.Accepted.{accepted_length}
use Rattle.call_specs.specs.Reads.{get_counts}
use Rattle.x86_vcpu.proofs.readings.vcpu_get_counts.Goals as goal

pub progress_at-p-requires : goal.progress_at-p-requires
unfolding get_counts
progress_at-p-requires c = search (accepted_length, rules)

pub waiting_at-requires : goal.waiting_at-requires
unfolding get_counts
waiting_at-requires c = search (accepted_length, rules)
