use Rattle.guest_paging.proofs.Walk.+walk_level.Given as goal

abbrev pub decreases-walk_level : goal.decreases-walk_level
decreases-walk_level l = l.level
