use Prim.Native.Nat.{◌/◌, ◌^◌, ◌<◌}
use native.Mathlib.Omega.{arith}
use Rattle.bits.proofs.Tests.{tests}
use Rattle.vmcs.specs.Fields.{place_in_table}
use Rattle.vmcs.specs.Lookup.{lookup, start_of, count_of}
use Rattle.vmcs.proofs.Lookup.{start_small, lookup_right}
use Rattle.vmcs.proofs.position.Goals as goal

pub returns-then-encoding-eq18478 : goal.returns-then-encoding-eq18478
unfolding lookup place_in_table
returns-then-encoding-eq18478 c = rw (← (lookup_right c.args.encoding)) (search tests)

pub returns-then-encoding-ge32768 : goal.returns-then-encoding-ge32768
unfolding lookup place_in_table
returns-then-encoding-ge32768 c = rw (← (lookup_right c.args.encoding)) (search tests)

pub returns-then-encoding-eq1 : goal.returns-then-encoding-eq1
unfolding lookup place_in_table
returns-then-encoding-eq1 c = rw (← (lookup_right c.args.encoding)) (search tests)

pub returns-then-count_of-index : goal.returns-then-count_of-index
unfolding lookup place_in_table
returns-then-count_of-index c = rw (← (lookup_right c.args.encoding)) (search (tests, ← c.count_of.ensures))

pub overflow_add-result : goal.overflow_add-result
overflow_add-result c =
    let group : c.args.encoding / 2 ^ 10 < 32 = omega arith in
    record { fits = omega (arith, c.start_of.ensures, start_small _ group) }

pub returns : goal.returns
unfolding lookup place_in_table start_of count_of
returns c = rw (← (lookup_right c.args.encoding), c.start_of.ensures) (search (tests, ← c.count_of.ensures))
