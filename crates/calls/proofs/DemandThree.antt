-- Demand 3, put together from the lemmas on one call, on lists and on records. Assumes nothing.
use Prim.Native.Nat.{ℕ, ◌+◌, ◌<◌, ◌≤◌}
use mathlib.Core.Path.{◌≡◌, refl, sym, ap, ◌∙◌, subst}
use mathlib.Core.Bool.{Bool, false, cond, not}
use mathlib.Core.List.{List, [], ◌∷◌, ◌++◌, append-nil, Memᴰ}
use mathlib.Core.Logic.{inr}
use native.Mathlib.Omega.{arith}
use lib.Dec.{eqb}
use lib.ListN.{length, drop, length-append, length-drop}
use borrow.Author.Tests.{eq-eqb, ne_eqb}
use Rattle.bits.specs.Refuses.{Refuses}
use Rattle.bits.specs.Words.{bit}
use Rattle.bits.proofs.Tells.{cond_all}
use Rattle.vmcs.specs.Field.{value_of}
use Rattle.vmcs.specs.Names.VmcsHostNW as VmcsHostNW
use Rattle.vcpu_session.specs.Session.{LAST_ENTRY, new_session, is_unlawful}
use Rattle.vcpu_session.specs.declared.Session.{Session}
use Rattle.vcpu_events.specs.Queue.{front_of}
use Rattle.vcpu_events.specs.Entry as Entry
use Rattle.vcpu_events.specs.Entry.{injection_of, after_entry}
use Rattle.vcpu_events.specs.Entry.{Entered}
use Rattle.vcpu_events.specs.declared.Injection.{Injection}
use Rattle.vcpu_events.specs.declared.Injection.TheVariants.{Empty, Held, Written}
use Rattle.vcpu_setup.specs.Capability.{capabilities_of}
use Rattle.blocks.specs.SetupBlock.{msrs_of}
use Rattle.record.specs.Codec.{session_of}
use Rattle.calls.specs.Moves.{Move, queues, finds_none, holds, writes, exits, fails, rests, moved, Tally, begun, tallied, tallied_all}
use Rattle.calls.specs.Reference.{Call, entry, WellTyped, AllWellTyped, Event, entry_move, limits_of, start, Reference, EventFields, choose, is_held, answer_on, reference_answer, reference_after, reference_answers, Fed, own_rules}
use Rattle.calls.specs.Calls.{step_of, new_record, after, logged_of, history_of, is_refused, Logged, fed, move_of, moves_of, tally_of, answers_of, event_of, waiting_of, words_of}
use Rattle.calls.specs.DemandThree.{Answers, Wrote, Launches, WaitLaw, is_written, Permits, Unwritten, judged_fields, Loadable, accepted_setup, WholeList}
use Rattle.calls.proofs.Choices.{impossible, choose_yes, choose_no}
use Rattle.calls.proofs.WordBits.{tabled}
use Rattle.calls.proofs.Sessions.{session_step, next, session_after, session_logged, session_log, Sound, view_of}
use Rattle.calls.proofs.Fits.{sound_step}
use Rattle.calls.proofs.Steps.{step, written_waits, front_waits, answer_moves, rsp_after, event_written, event_so}
use Rattle.calls.proofs.Waiting.{Kept, begins, keeps, counted, waits, injects}
use Rattle.calls.proofs.Whole.{can, moves, accepted, Follows, run, kept_after}
use Rattle.calls.proofs.Invariants.{entry_ready, Clear, clear_after, launched_after, one_setup, loadable_after}
use Rattle.calls.proofs.Permit.{unwritten_at, permits_since, enter_kept, kept_permits}
use Rattle.calls.proofs.Records.{Holds, carried, carry, holds_new, sound_new}

-- ---- what an accepted entry leaves, case by case

-- of a session that a record holds, ready, and below the last count
module _ (s : Session) (stack : ℕ) (P : Entered → Type 0) where
  by_entry : ((n : ℕ) → (eqb n 0 ≡ false) → P (Entry.refused_entry n s))
      → P (record { refusal = 0; resumed = s.progress.launched; injection = injection_of s.queue s.vmcs; session = after_entry s stack (injection_of s.queue s.vmcs) })
      → P (Entry.entry s stack)
  unfolding Entry.entry
  by_entry refused done =
      cond_all P (is_unlawful s) _ _ (λ _. refused 2 refl)
      (λ _. cond_all P (not (eqb s.progress.phase 1)) _ _ (λ _. refused 1 refl)
      (λ _. cond_all P (eqb s.progress.entries LAST_ENTRY) _ _ (λ _. refused 22 refl) (λ _. done)))

-- ---- the event that an entry writes

other : Empty ≡ Written → ⊥
other e = let z : ◌≡◌ {A = ℕ} 0 1 = cc in omega arith

module _ (t : Tally Event) (s : Session) (stack : ℕ) (h : Sound s) where
  wrote : 0 < s.queue.waiting → Wrote (view_of t s) (after_entry s stack Written)
  wrote some-wait =
      record {
        front = event_of (front_of s.queue).vector (front_of s.queue).coded (front_of s.queue).code;
        rest = drop 1 (waiting_of s);
        pending = front_waits s h some-wait;
        fields = event_written t s stack h some-wait;
      }

  entry_wrote : (session_step s (entry stack)).answer ≡ Written → Wrote (view_of t s) (next s (entry stack))
  entry_wrote =
      by_entry s stack (λ (a : Entered). a.injection ≡ Written → Wrote (view_of t s) a.session) (λ n _ e. absurd (other e))
      (λ w. subst (λ (a : Injection). Wrote (view_of t s) (after_entry s stack a)) (sym w) (wrote (written_waits s w)))

-- ---- launch or resume

module _ (s : Session) (stack : ℕ) (h : Sound s) where
  -- by the flag
  record Resumes (a : Entered) : Type 0 where
    resumed : a.resumed ≡ s.progress.launched
    rsp : value_of a.session.vmcs VmcsHostNW.RSP ≡ cond s.progress.launched (value_of s.vmcs VmcsHostNW.RSP) stack

  entry_resumes : is_refused (Entry.entry s stack).refusal ≡ false → Resumes (Entry.entry s stack)
  entry_resumes =
      by_entry s stack (λ (a : Entered). is_refused a.refusal ≡ false → Resumes a) (λ n e f. impossible (sym f ∙ ap not e))
      (λ _. record { resumed = refl; rsp = rsp_after begun s stack h (injection_of s.queue s.vmcs) })

  -- by the entries counted
  entry_launches : (n : ℕ) → s.progress.launched ≡ not (eqb n 0) → is_refused (Entry.entry s stack).refusal ≡ false
      → Launches n stack s (next s (entry stack)) (session_step s (entry stack)).resumed
  entry_launches n e ok =
      let k = entry_resumes ok in
      record {
        launch = λ z. let f = e ∙ ap not (eq-eqb n 0 z) in (k.resumed ∙ f, k.rsp ∙ rw f);
        resume = λ l. let f = e ∙ ap not (ne_eqb n 0 (λ z. omega arith)) in (k.resumed ∙ f, k.rsp ∙ rw f);
      }

-- ---- bit 31 of the word that an accepted entry leaves

-- where it was clear before
valid_after : (s : Session) (stack : ℕ) → Sound s → bit 31 (words_of s).event.info ≡ false → (a : Injection) → injection_of s.queue s.vmcs ≡ a
    → bit 31 (words_of (after_entry s stack a)).event.info ≡ is_written a
valid_after s stack h clear Empty e = ap (λ (x : EventFields). bit 31 x.info) (event_so begun s stack h Empty e) ∙ clear
valid_after s stack h clear Held e = ap (λ (x : EventFields). bit 31 x.info) (event_so begun s stack h Held e) ∙ clear
valid_after s stack h clear Written e =
    ap (λ (x : EventFields). bit 31 x.info) (event_written begun s stack h (written_waits s e))
    ∙ (tabled (front_of s.queue).vector (bit 0 (words_of s).cr0) (h.fits.queue.vectors.below 0)).valid

entry_valid : (t : Tally Event) (s : Session) (stack : ℕ) → WellTyped (entry stack) → Sound s → Clear (words_of s)
    → is_refused (session_step s (entry stack)).refusal ≡ false
    → bit 31 (words_of (next s (entry stack))).event.info ≡ is_written (session_step s (entry stack)).answer
entry_valid t s stack v h k ok =
    let p = view_of t s in
    let n = accepted t s (entry stack) v h ok in
    let clear = k (λ e. entry_ready p stack n (λ o. omega arith)) (λ e. entry_ready p stack n (λ o. omega arith)) in
    by_entry s stack (λ (a : Entered). is_refused a.refusal ≡ false → bit 31 (words_of a.session).event.info ≡ is_written a.injection)
    (λ n e f. impossible (sym f ∙ ap not e)) (λ _. valid_after s stack h clear (injection_of s.queue s.vmcs) refl) ok

-- ---- what an accepted entry answers

answers_of_lem : (w : List Event) (f : Bool) (i : ℕ) (front : Event) (rest : List Event) → w ≡ front ∷ rest
    → answer_on w f i ≡ choose (is_held front.vector f i) Held Written
answers_of_lem w f i front rest e = ap (λ (l : List Event). answer_on l f i) e

entry_answers : (t : Tally Event) (s : Session) (stack : ℕ) → WellTyped (entry stack) → Sound s → is_refused (session_step s (entry stack)).refusal ≡ false
    → Answers (view_of t s) (session_step s (entry stack)).answer
entry_answers t s stack v h ok =
    let p = view_of t s in
    let f = p.words.interrupt_flag in
    let i = p.words.interruptibility in
    let a = (step t s (entry stack) v h).answer ∙ ap (reference_answer p (entry stack)) ok ∙ answer_moves p.pending f i in
    record {
      none = λ e. a ∙ ap (λ (l : List Event). answer_on l f i) e;
      held = λ front rest e k. a ∙ answers_of_lem p.pending f i front rest e ∙ choose_yes (is_held front.vector f i) Held Written k;
      written = λ front rest e k. a ∙ answers_of_lem p.pending f i front rest e ∙ choose_no (is_held front.vector f i) Held Written k;
    }

-- ---- what a move takes off

none_queued : (a : Injection) (w : List Event) → (tallied begun (entry_move a w)).queued ≡ []
none_queued Empty w = refl
none_queued Held w = refl
none_queued Written [] = refl
none_queued Written (e ∷ w) = refl

one_off : (w : List Event) (m : Move Event) → length w ≤ length (moved w m) + 1
one_off w (queues e) = omega (arith, length-append w (e ∷ []))
one_off w finds_none = omega arith
one_off w holds = omega arith
one_off w (writes e) = omega (arith, length-drop 1 w)
one_off w exits = omega arith
one_off w fails = omega arith
one_off w rests = omega arith

-- ---- one call more, on a record b that holds s

typed_more : (cs : List Call) (c : Call) → AllWellTyped cs → WellTyped c → AllWellTyped (cs ++ (c ∷ []))
typed_more [] c w v = (v, tt)
typed_more (d ∷ cs) c w v = (w.0, typed_more cs c w.1 v)

-- a call more at the end of a list is a move more
tally_more : (t : Tally Event) (s : Session) (cs : List Call) (c : Call)
    → tallied_all t (moves_of (session_log s (cs ++ (c ∷ [])))) ≡ tallied (tallied_all t (moves_of (session_log s cs))) (move_of (session_logged (session_after s cs) c))
tally_more t s [] c = refl
tally_more t s (d ∷ cs) c = tally_more (tallied t (move_of (session_logged s d))) (next s d) cs c

logged_as : (b : List ℕ) (s : Session) → Holds b s → Sound s → (c : Call) → WellTyped c → logged_of b c ≡ session_logged s c
logged_as b s m h c v =
    let k = carried b s c v m h in λ i. record { call = c; refusal = k.refusal i; answer = k.answer i; waiting = waiting_of (m.holds i) }

module _ (b : List ℕ) (s : Session) (m : Holds b s) (h : Sound s) where
  -- acceptance, on the session
  ok_session : (c : Call) → WellTyped c → is_refused (step_of b c).refusal ≡ false → is_refused (session_step s c).refusal ≡ false
  ok_session c v ok = subst (λ (n : ℕ). is_refused n ≡ false) (carried b s c v m h).refusal ok

  moved_entry : (stack : ℕ) → WellTyped (entry stack) → is_refused (step_of b (entry stack)).refusal ≡ false
      → waiting_of (session_of b) ≡ (tally_of (history_of b (entry stack ∷ []))).injected ++ waiting_of (session_of (step_of b (entry stack)).state)
  moved_entry stack v ok =
      let c = entry stack in
      let w = waiting_of s in
      let x = move_of (session_logged s c) in
      let none : (tallied begun x).queued ≡ []
      = ap (λ (r : Bool). (tallied begun (cond r rests (entry_move (session_step s c).answer w))).queued) (ok_session c v ok) ∙ none_queued (session_step s c).answer w in
      let k = keeps (subst (λ (l : List Event). Kept w [] l begun) (append-nil w) (begins w [])) x (can begun s c v h) in
      ap waiting_of m.holds
      ∙ sym (k.order ∙ ap (λ (l : List Event). w ++ l) none ∙ append-nil w)
      ∙ ap (λ (l : List Event). (tallied begun x).injected ++ l) (sym (moves begun s c v h))
      ∙ (λ i. (tallied begun (move_of (sym (logged_as b s m h c v) i))).injected ++ waiting_of (sym (carried b s c v m h).state.holds i))

  at_most_one_lem : (c : Call) → WellTyped c → length (waiting_of (session_of b)) ≤ length (waiting_of (session_of (step_of b c).state)) + 1
  at_most_one_lem c v =
      let x = move_of (session_logged s c) in
      let before = ap (λ (t : Session). length (waiting_of t)) m.holds in
      let later = ap (λ (t : Session). length (waiting_of t)) (carried b s c v m h).state.holds ∙ ap length (moves begun s c v h) in
      let l = one_off (waiting_of s) x in
      omega arith

  law : (c : Call) → WellTyped c → (e : Event) → move_of (logged_of b c) ≡ queues e → WaitLaw (step_of b c).state (waiting_of (session_of b)) e
  law c v e q =
      let t = next s c in
      let bt = (step_of b c).state in
      let ahead = waiting_of (session_of b) in
      let ht = sound_step s c v h in
      let mt = (carried b s c v m h).state in
      let last : waiting_of t ≡ ahead ++ (e ∷ [])
      = moves begun s c v h ∙ (λ i. moved (waiting_of (sym m.holds i)) (move_of (sym (logged_as b s m h c v) i))) ∙ ap (moved ahead) q in
      let first : Kept ahead (e ∷ []) (waiting_of t) begun = subst (λ (l : List Event). Kept ahead (e ∷ []) l begun) (sym last) (begins ahead (e ∷ [])) in
      let kept : (later : List Call) → AllWellTyped later → Kept ahead (e ∷ []) (waiting_of (session_after t later)) (tally_of (session_log t later))
      = λ later u. kept_after begun t later u ht first in
      let on : (later : List Call) → AllWellTyped later → tally_of (history_of bt later) ≡ tally_of (session_log t later)
      = λ later u. ap tally_of (carry bt t later u mt ht).history in
      record {
        counted = λ later u. subst (λ (y : Tally Event). y.held ≤ y.entries) (sym (on later u)) (counted (kept later u));
        waits = λ later u n made few.
            ap waiting_of (carry bt t later u mt ht).state.holds
            ∙ waits e (kept later u) n (subst (λ (y : Tally Event). y.entries ≡ y.held + n) (on later u) made) few
            ∙ ap (λ (y : Tally Event). drop n ahead ++ (e ∷ y.queued)) (sym (on later u));
        injects = λ later u d x n made few full.
            let sl = session_after t later in
            let hl = (run begun t later u ht).sound in
            ap move_of (logged_as (after bt later) sl (carry bt t later u mt ht).state hl d x)
            ∙ injects e (kept later u) (move_of (session_logged sl d)) (can begun sl d x hl) n
            (subst (λ (y : Tally Event). y.entries ≡ y.held + n) (on later u) made) few
            (subst (λ (y : Tally Event). y.entries ≡ y.held + (length ahead + 1)) (on (later ++ (d ∷ [])) (typed_more later d u x) ∙ tally_more begun t later d) full);
      }

-- ---- the whole

view_new : view_of begun new_session ≡ start
unfolding new_session
view_new = refl

pub whole_list : (calls : List Call) → AllWellTyped calls → WholeList calls (after new_record calls)
whole_list calls w =
    let s = session_after new_session calls in
    let b = after new_record calls in
    let log = session_log new_session calls in
    let t = tally_of log in
    let p = reference_after start (fed (history_of new_record calls)) in
    let k = carry new_record new_session calls w holds_new sound_new in
    let m = k.state in
    let r = run begun new_session calls w sound_new in
    let h = r.sound in
    let on = ap fed (sym k.history) in
    let at : view_of t s ≡ p = r.state ∙ (λ i. reference_after (view_new i) (on i)) in
    let words : words_of (session_of b) ≡ p.words = ap words_of m.holds ∙ ap (λ (q : Reference). q.words) at in
    let same : (view_of t s).tally ≡ t = r.counts (ap (λ (q : Reference). q.tally) view_new) in
    let follows : Follows start (fed (history_of new_record calls)) = subst (λ (ls : List Fed). Follows start ls) on (subst (λ (q : Reference). Follows q (fed log)) view_new r.follows) in
    let line = kept_after {ahead = []} {x = []} begun new_session calls w sound_new
    (subst (λ (l : List Event). Kept [] [] l begun) (ap (λ (q : Reference). q.pending) (sym view_new)) (begins [] [])) in
    let ready : (stack : ℕ) → WellTyped (entry stack) → is_refused (step_of b (entry stack)).refusal ≡ false → Refuses (own_rules p (entry stack)) 0
    = λ stack v ok. subst (λ (q : Reference). Refuses (own_rules q (entry stack)) 0) at (accepted t s (entry stack) v h (ok_session b s m h (entry stack) v ok)) in
    record {
      accepted = m.accepted;
      pending = ap waiting_of m.holds ∙ ap (λ (q : Reference). q.pending) at;
      words = words;
      tally = ap tally_of k.history ∙ sym same ∙ ap (λ (q : Reference). q.tally) at;
      answered = ap answers_of k.history ∙ r.answered ∙ (λ i. reference_answers (view_new i) (on i));
      numbers = λ c v.
          inr (λ never. never, subst (Refuses (own_rules p c)) (sym (carried b s c v m h).refusal) (subst (λ (q : Reference). Refuses (own_rules q c) (session_step s c).refusal) at (step t s c v h).numbers));
      unchanged = λ c v. (carried b s c v m h).unchanged;
      order = ap (λ (ls : List Logged). (tally_of ls).queued) k.history ∙ sym line.order ∙ (λ i. (tally_of (sym k.history i)).injected ++ waiting_of (sym m.holds i));
      entered = ap (λ (x : Session). x.progress.entries) m.holds ∙ ap (λ (x : Tally Event). x.entries) same ∙ ap (λ (ls : List Logged). (tally_of ls).entries) (sym k.history);
      held = ap (λ (x : Session). x.progress.held) m.holds ∙ ap (λ (x : Tally Event). x.held) same ∙ ap (λ (ls : List Logged). (tally_of ls).held) (sym k.history);
      once = λ stack v ok. one_setup start (fed (history_of new_record calls)) follows refl (λ e. entry_ready p stack (ready stack v ok) (λ o. omega arith));
      launches = λ stack v ok.
          let kc = carried b s (entry stack) v m h in
          let flag : s.progress.launched ≡ not (eqb t.entries 0)
          = ap (λ (q : Reference). q.words.launched) at ∙ launched_after start (fed (history_of new_record calls)) refl
          ∙ ap (λ (q : Reference). not (eqb q.tally.entries 0)) (sym at) ∙ ap (λ (x : Tally Event). not (eqb x.entries 0)) same in
          subst (λ (ls : List Logged). Launches (tally_of ls).entries stack (session_of b) (session_of (step_of b (entry stack)).state) (step_of b (entry stack)).resumed) (sym k.history)
          (subst (λ (x : Session). Launches t.entries stack x (session_of (step_of b (entry stack)).state) (step_of b (entry stack)).resumed) (sym m.holds)
          (subst (λ (x : Session). Launches t.entries stack s x (step_of b (entry stack)).resumed) (sym kc.state.holds)
          (subst (Launches t.entries stack s (next s (entry stack))) (sym kc.resumed)
          (entry_launches s stack h t.entries flag (ok_session b s m h (entry stack) v ok)))));
      answers = λ stack v ok.
          subst (Answers p) (sym (carried b s (entry stack) v m h).answer)
          (subst (λ (q : Reference). Answers q (session_step s (entry stack)).answer) at (entry_answers t s stack v h (ok_session b s m h (entry stack) v ok)));
      moved = moved_entry b s m h;
      at_most_one = at_most_one_lem b s m h;
      wrote = λ stack v e.
          let kc = carried b s (entry stack) v m h in
          subst (Wrote p) (sym kc.state.holds) (subst (λ (q : Reference). Wrote q (next s (entry stack))) at (entry_wrote t s stack h (sym kc.answer ∙ e)));
      valid = λ none stack v ok.
          let kc = carried b s (entry stack) v m h in
          let clear : Clear p.words = clear_after start (fed (history_of new_record calls)) follows none (λ _ _. refl) in
          ap (λ (x : Session). bit 31 (words_of x).event.info) kc.state.holds
          ∙ entry_valid t s stack v h (subst (λ (q : Reference). Clear q.words) (sym at) clear) (ok_session b s m h (entry stack) v ok)
          ∙ ap is_written (sym kc.answer);
      permitted = λ none block a c msr mem stack v ok.
          subst (λ (x : Session). Permits (limits_of block) x.vmcs) (sym (carried b s (entry stack) v m h).state.holds)
          (kept_permits block (next s (entry stack))
          (enter_kept (capabilities_of (msrs_of block)) s stack
          (permits_since block a c msr new_session calls w sound_new
          (unwritten_at judged_fields (fed log) (subst (Unwritten judged_fields) (sym on) none))
          (subst (Memᴰ (accepted_setup block a c msr)) (sym on) mem))));
      loadable = λ stack v ok.
          subst Loadable (sym words)
          (loadable_after start (fed (history_of new_record calls)) follows refl (λ e. entry_ready p stack (ready stack v ok) (λ o. omega arith)));
      law = law b s m h;
    }
