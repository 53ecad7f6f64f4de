use mathlib.Core.Path.{refl, sym}
use native.Mathlib.Omega.{arith}
use Rattle.structs.proofs.PortLaws.{port_accepted}
use Rattle.structs.proofs.PartLaws.{part_length, one_port_a, one_port_b}
use Rattle.structs.proofs.set_intercept.Goals as goal

pub bounds-part-0 : goal.bounds-part-0
bounds-part-0 c = let k = port_accepted _ _ _ 1 c.in_ok-port_refusal.ensures refl in
    part_length _ _ _ _ c.port_part-part.ensures k.0 k.1 (omega (arith, k.2 (omega arith)))

pub bounds-a-p : goal.bounds-a-p
bounds-a-p c = omega (arith, (port_accepted _ _ _ 1 c.in_ok-port_refusal.ensures refl).0)

pub returns-then-p-lt-FIRST_PORT_OF_B : goal.returns-then-p-lt-FIRST_PORT_OF_B
returns-then-p-lt-FIRST_PORT_OF_B c = let k = port_accepted _ _ _ 1 c.in_ok-port_refusal.ensures refl in
    rw c.with_bit-byte.ensures (sym (one_port_a _ _ _ _ c.port_part-part.ensures k.0 k.1 _ (omega arith)))

pub bounds-b-p : goal.bounds-b-p
bounds-b-p c = let k = port_accepted _ _ _ 1 c.in_ok-port_refusal.ensures refl in
    omega (arith, k.1, k.2 (omega arith))

pub returns-else-p-lt-FIRST_PORT_OF_B : goal.returns-else-p-lt-FIRST_PORT_OF_B
returns-else-p-lt-FIRST_PORT_OF_B c = let k = port_accepted _ _ _ 1 c.in_ok-port_refusal.ensures refl in
    rw c.with_bit-byte.ensures (sym (one_port_b _ _ _ _ c.port_part-part.ensures k.0 k.1 _ (omega arith) (omega (arith, k.2 (omega arith)))))
