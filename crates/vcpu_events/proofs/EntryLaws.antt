-- An accepted entry leaves a lawful session lawful. Assumes nothing.
use mathlib.Core.Path.{refl}
use Prim.Native.Nat.{ℕ, ◌≤◌}
use native.Mathlib.Omega.{arith}
use Rattle.vcpu_session.specs.Session.{Lawful}
use Rattle.vcpu_session.specs.declared.Progress.{Progress}
use Rattle.vcpu_session.specs.declared.Queue.{Queue}
use Rattle.vcpu_session.specs.declared.Session.{Session}
use Rattle.vcpu_session.proofs.LawfulLaws.{lawful_alike, lawful_progress, lawful_queue}
use Rattle.vcpu_events.specs.Queue.{popped}
use Rattle.vcpu_events.specs.Entry.{progress_after, queue_after, after_entry}
use Rattle.vcpu_events.specs.declared.Injection.{Injection}
use Rattle.vcpu_events.specs.declared.Injection.TheVariants.{Empty, Held, Written}

-- what a record asks of where the session stands, and of the queue
pub progress_after_lawful : (p : Progress) (i : Injection) → p.held ≤ p.entries
    → ((progress_after p i).phase ≤ 4) × ((progress_after p i).held ≤ (progress_after p i).entries)
unfolding progress_after
progress_after_lawful p Empty h = (omega arith, omega arith)
progress_after_lawful p Held h = (omega arith, omega arith)
progress_after_lawful p Written h = (omega arith, omega arith)

queue_after_lawful : (q : Queue) (i : Injection) → q.waiting ≤ 64 → (queue_after q i).waiting ≤ 64
unfolding queue_after popped
queue_after_lawful q Empty h = h
queue_after_lawful q Held h = h
queue_after_lawful q Written h = omega arith

pub after_entry_lawful : (s : Session) (stack : ℕ) (i : Injection) → Lawful s → Lawful (after_entry s stack i)
unfolding after_entry
after_entry_lawful s stack i l =
    let counts = progress_after_lawful s.progress i l.held in
    let queue = lawful_queue l (queue_after s.queue i) (queue_after_lawful s.queue i l.waiting) in
    lawful_alike (lawful_progress queue (progress_after s.progress i) counts.0 counts.1) refl
