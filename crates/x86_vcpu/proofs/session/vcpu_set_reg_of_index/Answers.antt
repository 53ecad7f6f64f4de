use native.Mathlib.Omega.{arith}
use borrow.Author.Rules.{rules}
use Rattle.session_edits.proofs.Ends.{on_record}
use Rattle.vcpu_events.specs.Access.{set_register}
use Rattle.record.specs.Codec.{session_of}
use Rattle.call_specs.proofs.Calls.{no_record, called}
use Rattle.vcpu_events.proofs.Stays.{register_stays}
use Rattle.x86_vcpu.proofs.session.vcpu_set_reg_of_index.Goals as goal

pub returns-then-accepts : goal.returns-then-accepts
returns-then-accepts c = let a = c.args in
    rw c.refusal_of.ensures (called (λ s. set_register s a.index a.value) c.accepts.ensures c.if-accepts.true (register_stays (session_of a.bytes.now) a.index a.value)
    (λ i. omega (arith, c.slice_known-1.given i)) (λ i. (c.type_inv.bytes i).fits) (on_record c.set_register.ensures c.new.ensures.value (search rules)))

pub returns-else-accepts : goal.returns-else-accepts
returns-else-accepts c = let a = c.args in
    no_record (λ s. set_register s a.index a.value) c.accepts.ensures c.if-accepts.false
