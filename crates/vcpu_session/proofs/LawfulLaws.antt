-- The test that refuses by 2 is the property, and what of a session it is about. Assumes nothing.
use mathlib.Core.Path.{◌≡◌, refl, ◌∙◌}
use mathlib.Core.Bool.{Bool, true, false, ◌||◌, true≢false}
use Prim.Native.Nat.{ℕ, ◌≤◌}
use lib.Dec.{ltb}
use borrow.Author.Tests.{ltb-false, le-ltb}
use Rattle.vcpu_session.specs.Session.{is_unlawful, Lawful, with_progress, with_queue, in_phase}
use Rattle.vcpu_session.specs.declared.Progress.{Progress}
use Rattle.vcpu_session.specs.declared.Queue.{Queue}
use Rattle.vcpu_session.specs.declared.Session.{Session}

none : (a b c : Bool) → (a || b || c) ≡ false → (a ≡ false) × (b ≡ false) × (c ≡ false)
none false false c e = (refl, refl, e)
none false true c e = absurd (true≢false e)
none true b c e = absurd (true≢false e)

pub lawful_of : (s : Session) → is_unlawful s ≡ false → Lawful s
lawful_of s e =
    let p = none (ltb 4 s.progress.phase) (ltb 64 s.queue.waiting) (ltb s.progress.entries s.progress.held) e in
    record { phase = ltb-false _ _ p.0; waiting = ltb-false _ _ p.1; held = ltb-false _ _ p.2 }

pub of_lawful : (s : Session) → Lawful s → is_unlawful s ≡ false
of_lawful s l = simp (le-ltb _ _ l.phase, le-ltb _ _ l.waiting, le-ltb _ _ l.held)

-- ---- a session with a part changed

module _ {s : Session} (l : Lawful s) where
  -- a part that the test does not read, as the registers and the fields: the equation is `refl`
  pub lawful_alike : {t : Session} → is_unlawful t ≡ is_unlawful s → Lawful t
  lawful_alike {t} e = lawful_of t (e ∙ of_lawful s l)

  -- the parts that it reads
  pub lawful_progress : (p : Progress) → p.phase ≤ 4 → p.held ≤ p.entries → Lawful (with_progress s p)
  lawful_progress p phase held = record { phase = phase; waiting = l.waiting; held = held }

  pub lawful_phase : (x : ℕ) → x ≤ 4 → Lawful (with_progress s (in_phase s.progress x))
  lawful_phase x phase = lawful_progress (in_phase s.progress x) phase l.held

  pub lawful_queue : (q : Queue) → q.waiting ≤ 64 → Lawful (with_queue s q)
  lawful_queue q waiting = record { phase = l.phase; waiting = waiting; held = l.held }
