-- Each step leaves a lawful session lawful. Assumes nothing.
use mathlib.Core.Path.{◌≡◌, refl}
use mathlib.Core.Bool.{Bool, true, false, cond, not}
use Prim.Native.Nat.{ℕ, ◌<◌}
use native.Mathlib.Omega.{arith}
use lib.Dec.{eqb, leb, ltb}
use borrow.Author.Tests.{leb-false}
use Rattle.vcpu_session.specs.Phase as Phase
use Rattle.vcpu_session.specs.Session.{LAST_ENTRY, is_unlawful, Lawful}
use Rattle.vcpu_session.specs.declared.Session.{Session}
use Rattle.vcpu_session.proofs.LawfulLaws.{lawful_alike, lawful_phase, lawful_queue}
use Rattle.vcpu_events.specs.Queue.{answered, pushed, queue_event, inject_interrupt}
use Rattle.vcpu_events.specs.Entry.{injection_of, refused_entry, entry}
use Rattle.vcpu_events.specs.Queue.{Event, Answered}
use Rattle.vcpu_events.specs.Entry.{Entered}
use Rattle.vcpu_events.specs.Access.{write_field, set_register, apic_value}
use Rattle.vcpu_events.proofs.EntryLaws.{after_entry_lawful}
use Rattle.call_specs.specs.Records.{queue_step}

-- a test that refuses, before the rest
test : {s : Session} (b : Bool) (n : ℕ) (r : Answered) → Lawful s → (b ≡ false → Lawful r.session) → Lawful (cond b (answered n s) r).session
test true n r l f = l
test false n r l f = f refl

pub keeps_queue : (e : Event) (s : Session) → Lawful s → Lawful (queue_event s e).session
unfolding queue_event pushed
keeps_queue e s l =
    test (is_unlawful s) 2 _ l (λ _.
    test (eqb s.progress.phase Phase.ENDED) 1 _ l (λ _.
    test (leb 64 s.queue.waiting) 13 _ l (λ h.
    let small : s.queue.waiting < 64 = leb-false 64 s.queue.waiting h in
    lawful_queue l (pushed s.queue e) (omega arith))))

pub keeps_queue_step : (vector coded code : ℕ) (s : Session) → Lawful s → Lawful (queue_step vector coded code s).session
unfolding queue_step
keeps_queue_step vector coded code s l = test (ltb 1 coded) 2 _ l (λ _. keeps_queue _ s l)

pub keeps_interrupt : (vector : ℕ) (s : Session) → Lawful s → Lawful (inject_interrupt s vector).session
unfolding inject_interrupt
keeps_interrupt vector s l =
    test (is_unlawful s) 2 _ l (λ _.
    test (eqb s.progress.phase Phase.ENDED) 1 _ l (λ _.
    test (eqb vector 0) 12 _ l (λ _.
    test (ltb 255 vector) 12 _ l (λ _. keeps_queue _ s l))))

pub keeps_field : (encoding value : ℕ) (s : Session) → Lawful s → Lawful (write_field s encoding value).session
unfolding write_field
keeps_field encoding value s l = test (is_unlawful s) 2 _ l (λ _. lawful_alike l refl)

pub keeps_register : (index value : ℕ) (s : Session) → Lawful s → Lawful (set_register s index value).session
unfolding set_register
keeps_register index value s l = test (is_unlawful s) 2 _ l (λ _. lawful_alike l refl)

pub keeps_apic : (value : ℕ) (s : Session) → Lawful s → Lawful (apic_value s value).session
unfolding apic_value
keeps_apic value s l =
    test (is_unlawful s) 2 _ l (λ _.
    test (not (eqb s.progress.phase Phase.WAITING)) 1 _ l (λ _. lawful_alike (lawful_phase l Phase.READY (omega arith)) refl))

-- a test that refuses an entry, before the rest
entry_test : {s : Session} (b : Bool) (n : ℕ) (r : Entered) → Lawful s → (b ≡ false → Lawful r.session) → Lawful (cond b (refused_entry n s) r).session
entry_test true n r l f = l
entry_test false n r l f = f refl

pub keeps_entry : (stack : ℕ) (s : Session) → Lawful s → Lawful (entry s stack).session
unfolding entry
keeps_entry stack s l =
    entry_test (is_unlawful s) 2 _ l (λ _.
    entry_test (not (eqb s.progress.phase Phase.READY)) 1 _ l (λ _.
    entry_test (eqb s.progress.entries LAST_ENTRY) 22 _ l (λ _. after_entry_lawful s stack (injection_of s.queue s.vmcs) l)))
