use mathlib.Core.List.{[]}
use Rattle.calls.proofs.Contracts.{contracts}
use Rattle.exported_calls.proofs.new.Goals as goal

pub returns : goal.returns
returns c = (contracts []).new _ _ _ _ _ _ _ _ _ c.vcpu_new.ensures
