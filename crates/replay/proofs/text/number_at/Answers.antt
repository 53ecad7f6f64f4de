use borrow.Author.Rules.{rules}
use Rattle.replay.proofs.TextLaws.{number_end, number_blank, number_stop, number_more}
use Rattle.replay.proofs.text.number_at.Goals as goal

pub returns-then-text-i-eq32-clause-value : goal.returns-then-text-i-eq32-clause-value
returns-then-text-i-eq32-clause-value c = search (number_blank, rules)

pub returns-then-text-i-lt48-clause-value : goal.returns-then-text-i-lt48-clause-value
returns-then-text-i-lt48-clause-value c = search (number_stop, rules)

pub loop-i-preserved : goal.loop-i-preserved
loop-i-preserved c = search (number_more, rules)

pub returns-clause-value : goal.returns-clause-value
returns-clause-value c = search (number_end, rules)
