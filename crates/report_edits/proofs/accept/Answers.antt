use mathlib.Core.Path.{sym, ◌∙◌}
use Rattle.vcpu_exit.proofs.Passes.{passes}
use Rattle.record_edits.specs.Edited.{session}
use Rattle.report_edits.proofs.accept.Goals as goal

pub after_exit-requires : goal.after_exit-requires
after_exit-requires c = let a = c.args in
    (passes (session a.b.now) a.r c.requires (sym c.is_failed.ensures ∙ c.if-is_failed.false)).sum
