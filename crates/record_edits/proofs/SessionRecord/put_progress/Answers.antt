use borrow.Author.Rules.{rules}
use Rattle.record.specs.Fitting.{ProgressFits}
use Rattle.record_edits.proofs.Edits.{progress_held}
use Rattle.record_edits.proofs.SessionRecord.put_progress.Goals as goal

pub invariant_of-self : goal.invariant_of-self
invariant_of-self c =
    let fits : ProgressFits c.args.p = record { phase = c.put.ensures.fits; entries = c.put-3.ensures.fits; held = c.put-4.ensures.fits } in
    let h = progress_held c.args.self.now c.args.p fits c.requires.0 c.requires.1 c.put.ensures.b_after c.put-2.ensures.b_after c.put-3.ensures.b_after c.put-4.ensures.b_after in
    record { accepted = h.accepted; below = h.below }

pub returns : goal.returns
returns c =
    let fits : ProgressFits c.args.p = record { phase = c.put.ensures.fits; entries = c.put-3.ensures.fits; held = c.put-4.ensures.fits } in
    record { holds = (progress_held c.args.self.now c.args.p fits c.requires.0 c.requires.1 c.put.ensures.b_after c.put-2.ensures.b_after c.put-3.ensures.b_after c.put-4.ensures.b_after).session; same_reference = search rules }
