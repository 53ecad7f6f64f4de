use mathlib.Core.Path.{refl, sym, ap, ◌∙◌}
use Rattle.definitions.proofs.RefusalLaws.{positive}
use borrow.Author.Rules.{rules}
use Rattle.structs.specs.Frames.{PortEdit, MsrEdit}
use Rattle.call_specs.proofs.SetupCalls.{setup_no_record, record_length, block_length, setup_early, setup_refused, setup_stored}
use Rattle.x86_vcpu.proofs.setup.vcpu_setup.Goals as goal

pub phase_at-requires : goal.phase_at-requires
phase_at-requires c = record_length _ _ _ _ _ c.setup_accepts.ensures c.if-setup_accepts.true

pub returns-then-phase_at-ne-FRESH : goal.returns-then-phase_at-ne-FRESH
returns-then-phase_at-ne-FRESH c = setup_early _ _ _ _ _ c.setup_accepts.ensures c.if-setup_accepts.true (λ e. c.if-phase_at-ne-FRESH.true (c.phase_at.ensures ∙ e))

pub arguments_at-arguments-requires : goal.arguments_at-arguments-requires
arguments_at-arguments-requires c = block_length _ _ _ _ _ c.setup_accepts.ensures c.if-setup_accepts.true

pub returns-in-Err : goal.returns-in-Err
returns-in-Err c = rw c.from.ensures (setup_refused _ _ _ _ _ c.setup_accepts.ensures c.if-setup_accepts.true (sym c.phase_at.ensures ∙ c.if-phase_at-ne-FRESH.false) c.arguments_at-arguments.ensures
    c.capabilities_of-capabilities.ensures c.in-Err.ensures (positive c.in-Err.refusal _ refl))

pub session_at-s-requires : goal.session_at-s-requires
session_at-s-requires c = record_length _ _ _ _ _ c.setup_accepts.ensures c.if-setup_accepts.true

pub put_session-requires : goal.put_session-requires
put_session-requires c = search (record_length _ _ _ _ _ c.setup_accepts.ensures c.if-setup_accepts.true, rules)

pub returns-in-Ok : goal.returns-in-Ok
returns-in-Ok c = let put = c.put_session.ensures in
    setup_stored _ _ _ _ _ c.setup_accepts.ensures c.if-setup_accepts.true (sym c.phase_at.ensures ∙ c.if-phase_at-ne-FRESH.false) c.arguments_at-arguments.ensures c.capabilities_of-capabilities.ensures
    c.in-Ok.ensures refl c.session_at-s.ensures c.ready-t.ensures put.b_after put.fitting
    (ap (λ (e : PortEdit). e.a) c.setup_io_bitmap.ensures)
    (ap (λ (e : PortEdit). e.b) c.setup_io_bitmap.ensures)
    (ap (λ (e : MsrEdit). e.frame) c.setup_msr_bitmap.ensures)

pub returns-else-setup_accepts : goal.returns-else-setup_accepts
returns-else-setup_accepts c = setup_no_record _ _ _ _ _ c.setup_accepts.ensures c.if-setup_accepts.false
