use mathlib.Core.Path.{◌≡◌}
use lib.ListN.{length, drop}
use Rattle.structs.specs.Frames.{set_msrs}
use Rattle.structs.proofs.set_msr_intercepts.Given as goal

-- the accesses that are left, written next, give what all of them give
abbrev pub invariant-loop-access : goal.invariant-loop-access
invariant-loop-access l =
    (length l.frame ≡ length l.initial.frame)
    × (set_msrs l.frame l.msr_base l.count (drop l.access-index l.accesses) l.intercept ≡ set_msrs l.initial.frame l.msr_base l.count l.accesses l.intercept)
