use mathlib.Core.Path.{◌∙◌}
use lib.Dec.{lit<}
use Rattle.record.proofs.Capabilities.{pair_read}
use Rattle.report_edits.proofs.entry_pair_at.Goals as goal

pub returns : goal.returns
returns c = c.get.ensures ∙ pair_read c.args.b.now 4 (lit< tt)
