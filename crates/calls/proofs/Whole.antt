-- Every list of calls on sessions, by one induction over `step`, and the law on waiting. Assumes nothing.
use Prim.Native.Nat.{ℕ}
use mathlib.Core.Path.{◌≡◌, refl, sym, ap, ◌∙◌, subst}
use mathlib.Core.Bool.{Bool, true, false, cond}
use mathlib.Core.List.{List, [], ◌∷◌}
use borrow.Author.Tests.{eqb-true, not-false}
use Rattle.bits.specs.Refuses.{Refuses}
use Rattle.bits.specs.Words.{bit}
use Rattle.bits.proofs.Tells.{cond_all}
use Rattle.vcpu_session.specs.declared.Session.{Session}
use Rattle.vcpu_events.specs.declared.Injection.{Injection}
use Rattle.vcpu_events.specs.declared.Injection.TheVariants.{Held, Written}
use Rattle.blocks.specs.ReportBlock.{report_of}
use Rattle.calls.specs.Moves.{Move, fails, exits, rests, moved, Tally, tallied, tallied_all}
use Rattle.calls.specs.Reference.{choose, Call, setup, queue_event, inject_interrupt, entry, exit_report, apic_value, field_write, register_write, WellTyped, AllWellTyped, Event, entry_move, Reference, is_held, answer_on, move_on, reference_step, reference_after, reference_answers, own_rules, Fed}
use Rattle.calls.specs.Calls.{is_refused, fed, answers_of, move_of, moves_of, waiting_of}
use Rattle.calls.proofs.Sessions.{next, session_after, session_logged, session_log, Sound, view_of}
use Rattle.calls.proofs.Fits.{sound_step}
use Rattle.calls.proofs.Steps.{step}
use Rattle.calls.proofs.Waiting.{Can, Kept, keeps}

pub accepts : (n : ℕ) → is_refused n ≡ false → n ≡ 0
accepts n e = eqb-true n 0 (not-false _ e)

-- ---- one call, on the reference

-- what a call does, accepted or refused
abbrev move_where : Reference → Call → Bool → Move Event
move_where p c refused = cond refused rests (move_on p c)

tally_on : (p : Reference) (c : Call) (r : Bool) → (reference_step p c r).tally ≡ tallied p.tally (move_where p c r)
tally_on p c true = refl
tally_on p c false = refl

pending_on : (p : Reference) (c : Call) (r : Bool) → (reference_step p c r).pending ≡ moved p.pending (move_where p c r)
pending_on p c true = refl
pending_on p c false = refl

can_enter : (w : List Event) (f : Bool) (i : ℕ) → Can w (entry_move (answer_on w f i) w)
can_enter [] f i = refl
can_enter (e ∷ w) f i = go (is_held e.vector f i)
  where
    go : {P : Type 0} (d : Dec P) → Can (e ∷ w) (entry_move (choose d Held Written) (e ∷ w))
    go (yes p) = tt
    go (no p) = refl

can_on : (p : Reference) (c : Call) → Can p.pending (move_on p c)
can_on p (setup block a b msr) = tt
can_on p (queue_event vector coded code) = tt
can_on p (inject_interrupt vector) = tt
can_on p (entry stack) = can_enter p.pending p.words.interrupt_flag p.words.interruptibility
can_on p (exit_report block) = cond_all (Can p.pending) (bit 31 (report_of block).reason) fails exits (λ _. tt) (λ _. tt)
can_on p (apic_value value) = tt
can_on p (field_write encoding value) = tt
can_on p (register_write index value) = tt

can_where : (p : Reference) (c : Call) (r : Bool) → Can p.pending (move_where p c r)
can_where p c true = tt
can_where p c false = can_on p c

-- ---- one call, on the session

module _ (t : Tally Event) (s : Session) (c : Call) (w : WellTyped c) (h : Sound s) where
  abbrev this : Move Event
  this = move_of (session_logged s c)

  pub can : Can (waiting_of s) this
  can = subst (Can (waiting_of s)) (sym (step t s c w h).move) (can_where (view_of t s) c (is_refused (session_logged s c).refusal))

  pub moves : waiting_of (next s c) ≡ moved (waiting_of s) this
  moves =
      ap (λ (p : Reference). p.pending) (step t s c w h).state ∙ pending_on (view_of t s) c (is_refused (session_logged s c).refusal)
      ∙ ap (moved (waiting_of s)) (sym (step t s c w h).move)

  -- a tally that has the session's counts has them after the call
  counts : (view_of t s).tally ≡ t → (view_of (tallied t this) (next s c)).tally ≡ tallied t this
  counts e =
      ap (λ (p : Reference). p.tally) (step t s c w h).state ∙ tally_on (view_of t s) c (is_refused (session_logged s c).refusal)
      ∙ (λ i. tallied (e i) (sym (step t s c w h).move i))

  pub accepted : is_refused (session_logged s c).refusal ≡ false → Refuses (own_rules (view_of t s) c) 0
  accepted e = subst (Refuses (own_rules (view_of t s) c)) (accepts (session_logged s c).refusal e) (step t s c w h).numbers

-- ---- a list of calls

-- each accepted call is accepted by its rules
abbrev pub Follows : Reference → List Fed → Type 0
Follows p [] = Unit {0}
Follows p (l ∷ ls) = (l.refused ≡ false → Refuses (own_rules p l.call) 0) × Follows (reference_step p l.call l.refused) ls

pub record Ran (t : Tally Event) (s : Session) (cs : List Call) : Type 0 where
  pub sound : Sound (session_after s cs)
  pub state : view_of (tallied_all t (moves_of (session_log s cs))) (session_after s cs) ≡ reference_after (view_of t s) (fed (session_log s cs))
  pub answered : answers_of (session_log s cs) ≡ reference_answers (view_of t s) (fed (session_log s cs))
  pub follows : Follows (view_of t s) (fed (session_log s cs))
  pub counts : (view_of t s).tally ≡ t → (view_of (tallied_all t (moves_of (session_log s cs))) (session_after s cs)).tally ≡ tallied_all t (moves_of (session_log s cs))

pub run : (t : Tally Event) (s : Session) (cs : List Call) → AllWellTyped cs → Sound s → Ran t s cs
run t s [] w h = record { sound = h; state = refl; answered = refl; follows = tt; counts = λ e. e }
run t s (c ∷ cs) w h =
    let k = step t s c w.0 h in
    let ls = session_log (next s c) cs in
    let r = run (tallied t (move_of (session_logged s c))) (next s c) cs w.1 (sound_step s c w.0 h) in
    record {
      sound = r.sound;
      state = r.state ∙ ap (λ (p : Reference). reference_after p (fed ls)) k.state;
      answered = ap (λ (x : List Injection). (session_logged s c).answer ∷ x) r.answered ∙ (λ i. k.answer i ∷ reference_answers (k.state i) (fed ls));
      follows = (accepted t s c w.0 h, subst (λ (p : Reference). Follows p (fed ls)) k.state r.follows);
      counts = λ e. r.counts (counts t s c w.0 h e);
    }

-- the invariant of waiting
pub kept_after : {ahead x : List Event} (t : Tally Event) (s : Session) (cs : List Call) → AllWellTyped cs → Sound s → Kept ahead x (waiting_of s) t
    → Kept ahead x (waiting_of (session_after s cs)) (tallied_all t (moves_of (session_log s cs)))
kept_after t s [] w h k = k
kept_after {ahead} {x} t s (c ∷ cs) w h k =
    kept_after (tallied t (move_of (session_logged s c))) (next s c) cs w.1 (sound_step s c w.0 h)
    (subst (λ (l : List Event). Kept ahead x l (tallied t (move_of (session_logged s c)))) (sym (moves t s c w.0 h)) (keeps k (move_of (session_logged s c)) (can t s c w.0 h)))
