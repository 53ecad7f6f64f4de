use borrow.Author.Rules.{rules}
use Rattle.replay.proofs.DigestLaws.{digest_end, digest_more}
use Rattle.replay.proofs.digest.digest_of.Goals as goal

pub loop-byte-preserved : goal.loop-byte-preserved
loop-byte-preserved c = search (digest_more, rules)

pub returns-clause-value : goal.returns-clause-value
returns-clause-value c = search (digest_end, rules)
