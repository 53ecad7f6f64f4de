use borrow.Author.Rules.{rules}
use Rattle.vmcs.specs.Field.{Natural}
use Rattle.record_edits.proofs.Edits.{field_held}
use Rattle.record_edits.proofs.SessionRecord.put_natural.Goals as goal

pub invariant_of-self : goal.invariant_of-self
invariant_of-self c =
    let h = field_held c.args.self.now (Natural c.args.place) _ c.requires c.put.ensures.fits c.put.ensures.b_after in
    record { accepted = h.accepted; below = h.below }

pub returns : goal.returns
returns c =
    record { holds = (field_held c.args.self.now (Natural c.args.place) _ c.requires c.put.ensures.fits c.put.ensures.b_after).session; same_reference = search rules }
