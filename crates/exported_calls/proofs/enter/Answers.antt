use Rattle.calls.proofs.Contracts.{contracts}
use Rattle.exported_calls.proofs.enter.Goals as goal

pub returns : goal.returns
returns c = (contracts _).enter _ _ _ _ _ _ _ c.vcpu_entry.ensures
