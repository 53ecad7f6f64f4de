use mathlib.Core.Path.{◌≡◌, sym, ◌∙◌}
use mathlib.Core.Bool.{false}
use borrow.Author.Tests.{lt-ltb, le-ltb, eq-eqb, ne_eqb}
use Rattle.vcpu_events.specs.Queue.{queue_event, inject_interrupt}
use Rattle.record_edits.specs.Edited.{session}
use Rattle.record.proofs.RoundTrip.{never_unlawful}
use Rattle.session_edits.proofs.Ends.{refused}
use Rattle.session_edits.proofs.inject_interrupt.Goals as goal

pub returns-then-phase-eq-ENDED : goal.returns-then-phase-eq-ENDED
unfolding inject_interrupt
returns-then-phase-eq-ENDED c = refused (rw (never_unlawful _ c.args.b.now.accepted, ← c.phase.ensures, eq-eqb _ _ c.if-phase-eq-ENDED.true))

pub returns-then-vector-eq0 : goal.returns-then-vector-eq0
unfolding inject_interrupt
returns-then-vector-eq0 c = refused (rw (never_unlawful _ c.args.b.now.accepted, ← c.phase.ensures, ne_eqb _ _ c.if-phase-eq-ENDED.false, eq-eqb _ _ c.if-vector-eq0.true))

pub returns-then-vector-gt255 : goal.returns-then-vector-gt255
unfolding inject_interrupt
returns-then-vector-gt255 c = refused (rw (never_unlawful _ c.args.b.now.accepted, ← c.phase.ensures, ne_eqb _ _ c.if-phase-eq-ENDED.false, ne_eqb _ _ c.if-vector-eq0.false, lt-ltb _ _ c.if-vector-gt255.true))

pub returns : goal.returns
unfolding inject_interrupt
returns c = let h = c.queue_event.ensures in
    let x = session c.args.b.now in
    let v = c.args.vector in
    let same : inject_interrupt x v ≡ queue_event x (record { vector = v; coded = false; code = 0 }) =
    rw (never_unlawful _ c.args.b.now.accepted, ← c.phase.ensures, ne_eqb _ _ c.if-phase-eq-ENDED.false, ne_eqb _ _ c.if-vector-eq0.false, le-ltb _ _ c.if-vector-gt255.false) in
    record { answers = h.answers ∙ sym same; same_reference = h.same_reference }
