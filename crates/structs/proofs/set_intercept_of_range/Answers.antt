use mathlib.Core.Path.{refl}
use native.Mathlib.Omega.{arith}
use Rattle.structs.proofs.PortLaws.{port_accepted}
use Rattle.structs.proofs.set_intercept_of_range.Goals as goal

pub set_ports-requires : goal.set_ports-requires
set_ports-requires c = let k = port_accepted _ _ _ _ c.in_ok-port_refusal.ensures refl in
    (k.0, k.1, omega (arith, k.2 (omega arith)))
