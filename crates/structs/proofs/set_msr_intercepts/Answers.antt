use mathlib.Core.Path.{sym, ◌∙◌}
use native.Mathlib.Omega.{arith}
use lib.ListN.{get_or}
use Rattle.structs.specs.declared.Access.TheVariants.{Read}
use Rattle.structs.proofs.MsrLaws.{msr_accepted}
use Rattle.structs.proofs.set_msr_intercepts.Goals as goal

pub set_bits-requires : goal.set_bits-requires
set_bits-requires c =
    let n = msr_accepted (get_or c.args.accesses.now c.loop-access.access-index Read) _ _ _ (sym c.in_ok-msr_refusal.ensures) in
    (c.loop-access.invariant.0 ∙ n.0, omega arith, omega (arith, n.1, c.quarter.ensures))
