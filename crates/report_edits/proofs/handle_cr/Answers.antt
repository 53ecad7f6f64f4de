use mathlib.Core.Path.{◌∙◌}
use Rattle.bits.proofs.Tests.{answers}
use Rattle.vcpu_report.specs.Handlers.{cr_handled}
use Rattle.record.proofs.Capabilities.{cr0_read, cr4_read}
use Rattle.report_edits.proofs.handle_cr.Goals as goal

-- a move to CR4
pub returns-then-is_move_to : goal.returns-then-is_move_to
unfolding cr_handled
returns-then-is_move_to c = let b = c.args.b.now.bytes.now in
    let read = rw c.bytes.ensures.value at c.get-cr4.ensures in
    search (answers, ← c.is_move_to.ensures, ← c.moved_value-value.ensures, ← (read ∙ cr4_read b))

-- a move to CR0 with PG: setting CR0 leaves the capabilities
pub returns-then-value-eq1 : goal.returns-then-value-eq1
unfolding cr_handled
returns-then-value-eq1 c = let b = c.args.b.now.bytes.now in
    let held = c.set_cr0.ensures.holds in
    let read = rw c.bytes-2.ensures.value at c.get-cr0.ensures in
    let same = rw (c.bytes-then-value-eq1.ensures.value, held) at c.entry_pair_at-pair.ensures in
    let updated = rw held at c.update_efer.ensures.holds in
    record {
      holds = search (answers, ← c.is_move_to.ensures, ← c.moved_value-value.ensures, ← (read ∙ cr0_read b), ← same);
      same_reference = c.update_efer.ensures.same_reference ∙ c.set_cr0.ensures.same_reference;
    }

-- a move to CR0 without PG
pub returns : goal.returns
unfolding cr_handled
returns c = let b = c.args.b.now.bytes.now in
    let read = rw c.bytes-2.ensures.value at c.get-cr0.ensures in
    search (answers, ← c.is_move_to.ensures, ← c.moved_value-value.ensures, ← (read ∙ cr0_read b))
