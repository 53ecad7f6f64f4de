use borrow.Author.Rules.{rules}
use mathlib.Core.Path.{◌∙◌}
use Rattle.vcpu_events.specs.Queue.{event_of}
use Rattle.vcpu_events.proofs.EventLaws.{stored}
use Rattle.record_edits.proofs.Edits.{push_held}
use Rattle.record_edits.proofs.SessionRecord.push_back.Goals as goal

pub invariant_of-self : goal.invariant_of-self
invariant_of-self c =
    let h = push_held c.args.self.now (event_of c.args.e) c.waiting_at-waiting.ensures (c.unwrap_or-code.ensures ∙ stored c.args.e.code)
    (rw (c.coded_at.ensures, c.is_some.ensures) at c.with_coded-coded.ensures) (rw c.waiting_at-waiting.ensures c.requires) c.put.ensures.fits c.put-3.ensures.fits c.put-2.ensures.fits
    c.put.ensures.b_after c.put-2.ensures.b_after c.put-3.ensures.b_after c.put-4.ensures.b_after in
    record { accepted = h.accepted; below = h.below }

pub returns : goal.returns
returns c =
    record {
      holds = (push_held c.args.self.now (event_of c.args.e) c.waiting_at-waiting.ensures (c.unwrap_or-code.ensures ∙ stored c.args.e.code)
          (rw (c.coded_at.ensures, c.is_some.ensures) at c.with_coded-coded.ensures) (rw c.waiting_at-waiting.ensures c.requires) c.put.ensures.fits c.put-3.ensures.fits c.put-2.ensures.fits
          c.put.ensures.b_after c.put-2.ensures.b_after c.put-3.ensures.b_after c.put-4.ensures.b_after).session;
      same_reference = search rules;
    }
