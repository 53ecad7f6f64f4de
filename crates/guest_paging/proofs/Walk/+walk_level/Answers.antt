use Rattle.std.proofs.Common.{◌≡◌, sym, arith}
use Rattle.guest_paging.specs.Walked.{Below}
use Rattle.guest_paging.specs.Walk.{level_gives}
use Rattle.guest_paging.proofs.WalkLaws.{level_below}
use Rattle.guest_paging.proofs.Walk.+walk_level.Goals as goal

-- the level has a table below it, so it is no last one
pub walk_level-requires : goal.walk_level-requires
walk_level-requires t c =
    let w = c.args.self.now in
    let below = c.in-Below.below in
    let gives : level_gives w.memory.now w.reading w.address c.args.level c.args.table.address c.args.table.user ≡ Below below.address below.user =
    sym (rw (c.in_ok-walked.was, c.in-Below.is) at c.level_gives.ensures) in
    let above = level_below w.memory.now w.reading w.address c.args.level c.args.table.address c.args.table.user c.requires gives in
    (omega (arith, above, c.decreases), omega (arith, above))
