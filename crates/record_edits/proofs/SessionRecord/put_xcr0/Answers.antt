use borrow.Author.Rules.{rules}
use Rattle.record_edits.proofs.Edits.{xcr0_held}
use Rattle.record_edits.proofs.SessionRecord.put_xcr0.Goals as goal

pub invariant_of-self : goal.invariant_of-self
invariant_of-self c =
    let h = xcr0_held c.args.self.now _ c.put.ensures.fits c.put.ensures.b_after in
    record { accepted = h.accepted; below = h.below }

pub returns : goal.returns
returns c =
    record { holds = (xcr0_held c.args.self.now _ c.put.ensures.fits c.put.ensures.b_after).session; same_reference = search rules }
