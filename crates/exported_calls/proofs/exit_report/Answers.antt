use Rattle.calls.proofs.Contracts.{contracts}
use Rattle.exported_calls.proofs.exit_report.Goals as goal

pub returns : goal.returns
returns c = (contracts _).report _ _ _ _ _ c.vcpu_exit_report.ensures
