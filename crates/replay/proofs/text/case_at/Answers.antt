use borrow.Author.Rules.{rules}
use Rattle.replay.proofs.TextLaws.{eight}
use Rattle.replay.proofs.text.case_at.Goals as goal

pub returns : goal.returns
returns c = search (eight, rules)
