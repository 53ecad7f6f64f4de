use mathlib.Core.Path.{sym, ◌∙◌}
use Rattle.vcpu.proofs.Shell.{kept}
use Rattle.vcpu.proofs.record_of.Goals as goal

pub returns-clause-value : goal.returns-clause-value
returns-clause-value c = kept (sym c.is_unlawful.ensures ∙ c.if-is_unlawful.false) c.put_session.ensures.b_after c.put_session.ensures.fitting
