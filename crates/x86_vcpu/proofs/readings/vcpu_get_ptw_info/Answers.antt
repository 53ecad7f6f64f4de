use borrow.Author.Rules.{rules}
use Rattle.record.proofs.Accepted.{accepted_length}
use Rattle.call_specs.specs.Reads.{walk_call}
use Rattle.x86_vcpu.proofs.readings.vcpu_get_ptw_info.Goals as goal

pub paging_words-words-requires : goal.paging_words-words-requires
unfolding walk_call
paging_words-words-requires c = search (accepted_length, rules)
