use native.Mathlib.Omega.{arith}
use borrow.Author.Rules.{rules}
use Rattle.session_edits.proofs.Ends.{on_record}
use Rattle.vcpu_events.specs.Queue.{inject_interrupt}
use Rattle.record.specs.Codec.{session_of}
use Rattle.call_specs.proofs.Calls.{no_record, called}
use Rattle.vcpu_events.proofs.Stays.{interrupt_stays}
use Rattle.x86_vcpu.proofs.session.vcpu_inject_interrupt.Goals as goal

pub returns-then-accepts : goal.returns-then-accepts
returns-then-accepts c = let a = c.args in
    rw c.refusal_of.ensures (called (λ s. inject_interrupt s a.vector) c.accepts.ensures c.if-accepts.true (interrupt_stays (session_of a.bytes.now) a.vector)
    (λ i. omega (arith, c.slice_known-1.given i)) (λ i. (c.type_inv.bytes i).fits) (on_record c.inject_interrupt.ensures c.new.ensures.value (search rules)))

pub returns-else-accepts : goal.returns-else-accepts
returns-else-accepts c = let a = c.args in
    no_record (λ s. inject_interrupt s a.vector) c.accepts.ensures c.if-accepts.false
