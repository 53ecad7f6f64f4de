use mathlib.Core.Path.{◌≡◌, refl, ap, ◌∙◌}
use borrow.Author.Rules.{rules}
use Prim.Native.Nat.{◌≤◌}
use Rattle.vcpu_session.specs.declared.Session.{Session}
use Rattle.vcpu_session.specs.Session.{with_progress, with_queue, with_vmcs}
use Rattle.vcpu_events.specs.Queue.{event_of, front_of}
use Rattle.vcpu_events.specs.Entry.{with_stack, vmcs_after, queue_after, after_entry}
use Rattle.vcpu_events.proofs.EntryLaws.{progress_after_lawful}
use Rattle.vcpu_events.proofs.EventLaws.{vmcs_after_given}
use Rattle.record.proofs.RoundTrip.{session_lawful}
use Rattle.record_edits.specs.Edited.{session}
use Rattle.entry_edits.proofs.after_entry.Goals as goal

pub progress_after-next-requires : goal.progress_after-next-requires
progress_after-next-requires c =
    let held : c.progress-p.result.held ≤ c.progress-p.result.entries = rw c.progress-p.ensures (session_lawful c.args.b.now.bytes.now c.args.b.now.accepted).held in
    (rw c.progress-p.ensures c.requires, held)

pub put_progress-requires : goal.put_progress-requires
put_progress-requires c =
    let held : c.progress-p.result.held ≤ c.progress-p.result.entries = rw c.progress-p.ensures (session_lawful c.args.b.now.bytes.now c.args.b.now.accepted).held in
    let counted : let n = c.progress_after-next.result in (n.phase ≤ 4) × (n.held ≤ n.entries) = rw c.progress_after-next.ensures (progress_after_lawful _ _ held) in
    counted

-- the front is written as the code has it: its error code only where it is coded
pub returns : goal.returns
unfolding after_entry
returns c =
    let s = session c.args.b.now in
    let injection = c.args.injection in
    let written : Session → Session = λ x. with_vmcs x (vmcs_after x.vmcs (event_of c.front_at-front.result) injection) in
    let left : Session → Session = λ x. with_queue x (queue_after x.queue injection) in
    let counted : Session → Session = λ x. with_progress x c.progress_after-next.result in
    let steps = c.put_progress.ensures.holds ∙ ap counted (c.pop_written.ensures.holds ∙ ap left (c.put_injection.ensures.holds ∙ ap written c.put_stack.ensures.holds)) in
    let as_defined : counted (left (written (with_vmcs s (with_stack s.vmcs c.progress-p.result.launched c.args.stack)))) ≡ after_entry s c.args.stack injection =
    rw (c.progress_after-next.ensures, c.progress-p.ensures, c.front_at-front.ensures, c.bytes.ensures.value, vmcs_after_given (with_stack s.vmcs s.progress.launched c.args.stack) (front_of s.queue) injection) refl in
    record { holds = steps ∙ as_defined; same_reference = search rules }
