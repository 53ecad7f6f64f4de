use mathlib.Core.Path.{sym}
use Prim.Native.Nat.{◌+◌}
use Rattle.structs.proofs.PortLaws.{past_a, set_ports_frames}
use Rattle.structs.proofs.set_ports.Goals as goal

pub returns : goal.returns
returns c = let a = c.args in
    rw (c.set_bits-2.ensures, c.set_bits.ensures, c.min-to_a.ensures, c.min-from_a.ensures, past_a a.from, past_a (a.from + a.count))
    (sym (set_ports_frames _ _ _ _))
