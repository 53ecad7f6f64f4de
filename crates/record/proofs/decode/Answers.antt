use borrow.Author.Rules.{rules}
use Rattle.record.specs.Codec.{decode_of}
use Rattle.record.proofs.Accepted.{accepted_length}
use Rattle.record.proofs.decode.Goals as goal

pub session_at-requires : goal.session_at-requires
unfolding decode_of
session_at-requires c = search (accepted_length, rules)
