use mathlib.Core.Path.{sym, ◌∙◌}
use native.Mathlib.Omega.{arith}
use borrow.Author.Rules.{rules}
use Rattle.session_edits.proofs.Ends.{on_record}
use borrow.Author.Tests.{lt-ltb, le-ltb}
use Rattle.definitions.specs.Refusals.{refusal_of}
use lib.Dec.{eqb}
use Rattle.vcpu_events.specs.Queue.{Event, event_of, given, answered, queue_event}
use Rattle.vcpu_events.proofs.EventLaws.{queue_given}
use Rattle.session_edits.specs.OnRecord.{OnRecord}
use Rattle.record.specs.Codec.{session_of}
use Rattle.call_specs.specs.Records.{queue_step}
use Rattle.call_specs.proofs.Calls.{no_record, called}
use Rattle.call_specs.proofs.Calls.{step_stays}
use Rattle.x86_vcpu.proofs.session.vcpu_queue_event.Goals as goal

pub returns-then-coded-gt1 : goal.returns-then-coded-gt1
unfolding queue_step
returns-then-coded-gt1 c = let a = c.args in
    let bytes = c.slice_known-1.given in
    called (queue_step a.vector a.coded a.code) c.accepts.ensures c.if-accepts.true (step_stays a.vector a.coded a.code (session_of a.bytes.now))
    (λ i. omega (arith, bytes i)) (λ i. omega (arith, bytes i)) (record { accepted = sym c.accepts.ensures ∙ c.if-accepts.true; answers = rw (lt-ltb _ _ c.if-coded-gt1.true) })

pub returns-else-coded-gt1 : goal.returns-else-coded-gt1
unfolding queue_step
returns-else-coded-gt1 c = let a = c.args in
    let e : Event = record { vector = a.vector; coded = eqb a.coded 1; code = a.code } in
    let h : OnRecord (answered (refusal_of c.queue_event.result)) (λ s. queue_event s (event_of (given e))) a.bytes.now c.bytes-1.given.0 =
    on_record (rw c.new-e.ensures at c.queue_event.ensures) c.new.ensures.value (search rules) in
    called (queue_step a.vector a.coded a.code) c.accepts.ensures c.if-accepts.true (step_stays a.vector a.coded a.code (session_of a.bytes.now))
    (λ i. omega (arith, c.slice_known-1.given i)) (λ i. (c.type_inv.bytes i).fits) (record { accepted = h.accepted; answers = rw (le-ltb _ _ c.if-coded-gt1.false, c.refusal_of.ensures) (h.answers ∙ queue_given _ e) })

pub returns-else-accepts : goal.returns-else-accepts
returns-else-accepts c = let a = c.args in
    no_record (queue_step a.vector a.coded a.code) c.accepts.ensures c.if-accepts.false
