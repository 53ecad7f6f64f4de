use borrow.Author.Tests.{le-leb, lt-leb, eq-eqb, ne_eqb}
use Rattle.vcpu_events.specs.Queue.{queue_event}
use Rattle.record.proofs.RoundTrip.{never_unlawful}
use Rattle.session_edits.proofs.Ends.{refused, edited}
use Rattle.session_edits.proofs.queue_event.Goals as goal

pub returns-then-phase-eq-ENDED : goal.returns-then-phase-eq-ENDED
unfolding queue_event
returns-then-phase-eq-ENDED c = refused (rw (never_unlawful _ c.args.b.now.accepted, ← c.phase.ensures, eq-eqb _ _ c.if-phase-eq-ENDED.true))

pub returns-then-waiting-ge-CAPACITY : goal.returns-then-waiting-ge-CAPACITY
unfolding queue_event
returns-then-waiting-ge-CAPACITY c = refused (rw (never_unlawful _ c.args.b.now.accepted, ← c.phase.ensures, ne_eqb _ _ c.if-phase-eq-ENDED.false, ← c.waiting.ensures, le-leb 64 _ c.if-waiting-ge-CAPACITY.true))

pub returns : goal.returns
unfolding queue_event
returns c = edited c.push_back.ensures (rw (never_unlawful _ c.args.b.now.accepted, ← c.phase.ensures, ne_eqb _ _ c.if-phase-eq-ENDED.false, ← c.waiting.ensures, lt-leb 64 _ c.if-waiting-ge-CAPACITY.false))
