-- A call on a record is the call on its session: so the lists on records go as those on sessions do. Assumes nothing.
use Prim.Native.Nat.{ℕ, zero-le}
use mathlib.Core.Path.{◌≡◌, refl, sym, ap, ◌∙◌, subst}
use mathlib.Core.Bool.{Bool, true, false, cond, not, true≢false}
use mathlib.Core.List.{List, [], ◌∷◌}
use lib.ListN.{replicate}
use lib.Dec.{eqb, lit<}
use borrow.Author.Tests.{eqb-true}
use Rattle.bits.specs.Words.{flag}
use Rattle.bits.proofs.Tells.{cond_all}
use Rattle.vcpu_session.specs.Session.{LAST_ENTRY, new_session, is_unlawful}
use Rattle.vcpu_session.specs.declared.Session.{Session}
use Rattle.vcpu_events.specs.Queue as Queue
use Rattle.vcpu_events.specs.Queue.{answered}
use Rattle.vcpu_events.specs.Entry as Entry
use Rattle.vcpu_events.specs.Entry.{injection_number}
use Rattle.vcpu_events.specs.Queue.{Answered}
use Rattle.vcpu_events.specs.Entry.{Entered}
use Rattle.vcpu_events.specs.declared.Injection.{Injection}
use Rattle.vcpu_events.specs.declared.Injection.TheVariants.{Empty, Held, Written}
use Rattle.vcpu_events.specs.Access as Access
use Rattle.vcpu_setup.specs.Bitmaps.{io_bitmap_set, msr_bitmap_set}
use Rattle.vcpu_setup.specs.Setup.{setup_of}
use Rattle.blocks.specs.SetupBlock.{arguments_of}
use Rattle.record.specs.Codec.{session_of, encode_of, accepted_of, Decoded, Encoded}
use Rattle.record.specs.Fitting.{Fitting}
use Rattle.record.proofs.RoundTrip.{lawful_accepted, accepted_decoded, refused_decoded, decode_encode, faithful}
use Rattle.call_specs.specs.Records.{call_of, queue_step, EntryCall, entry_call, entry_answer, FramesCall, frames_call}
use Rattle.vcpu_answers.specs.Answer.{answer_words}
use Rattle.vcpu_report.specs.ExitReport as Exit
use Rattle.vcpu_report.specs.ExitReport.{Reported}
use Rattle.blocks.specs.ReportBlock as Report
use Rattle.blocks.specs.ReportBlock.{report_of}
use Rattle.call_specs.specs.ReportCall.{ReportCall, report_answer, report_accepts, report_call}
use Rattle.call_specs.specs.SetupCall.{setup_accepts, setup_call}
use Rattle.calls.specs.Reference.{Call, setup, queue_event, inject_interrupt, entry, exit_report, apic_value, field_write, register_write, WellTyped, AllWellTyped}
use Rattle.calls.specs.Moves.{begun}
use Rattle.calls.specs.Calls.{reported, Outcome, plain, framed, numbered, entered, step_of, waiting_of, new_record, after, history_of, is_refused, answer_number}
use Rattle.calls.proofs.Choices.{impossible}
use Rattle.calls.proofs.Sessions.{has_buffers, left, entering, session_step, next, session_after, session_log, Sound}
use Rattle.calls.proofs.Fits.{sound_step}
use Rattle.calls.proofs.Steps.{step}

-- b is a record, and holds s
pub record Holds (b : List ℕ) (s : Session) : Type 0 where
  pub accepted : accepted_of b ≡ true
  pub holds : session_of b ≡ s

pub holds_encoded : (s : Session) → Sound s → Holds (encode_of s) s
holds_encoded s h =
    let ok = lawful_accepted s h.fits h.lawful in
    record { accepted = ok; holds = ap (λ (d : Decoded). d.session) (sym (accepted_decoded (encode_of s) ok) ∙ decode_encode s h.fits h.lawful) }

-- ---- one call

-- o on the record b goes as p on its session
pub record Carried (b : List ℕ) (o : Outcome (List ℕ)) (p : Outcome Session) : Type 0 where
  pub refusal : o.refusal ≡ p.refusal
  pub answer : o.answer ≡ p.answer
  pub resumed : o.resumed ≡ p.resumed
  pub state : Holds o.state p.state
  pub unchanged : is_refused o.refusal ≡ true → o.state ≡ b

call_carried : (f : Session → Answered) (b : List ℕ) (s : Session) → Holds b s → (is_refused (f s).refusal ≡ true → (f s).session ≡ s) → Sound (f s).session
    → Carried b (plain (call_of f b)) (left (f s))
unfolding call_of
call_carried f b s m same h =
    rw (m.accepted, m.holds)
    (cond_all (λ (o : Encoded). Carried b (plain o) (left (f s))) (eqb (f s).refusal 0) _ _
    (λ t. record { refusal = sym (eqb-true _ _ t); answer = refl; resumed = refl; state = holds_encoded (f s).session h; unchanged = impossible })
    (λ t. record { refusal = refl; answer = refl; resumed = refl; state = record { accepted = m.accepted; holds = m.holds ∙ sym (same (ap not t)) }; unchanged = λ _. refl }))

same_number : (a : Injection) → injection_number a ≡ answer_number a
same_number Empty = refl
same_number Held = refl
same_number Written = refl

numbered_back : (a : Injection) → numbered (injection_number a) ≡ a
numbered_back Empty = refl
numbered_back Held = refl
numbered_back Written = refl

flag_back : (b : Bool) → eqb (flag b) 1 ≡ b
flag_back true = refl
flag_back false = refl

entry_carried : (stack : ℕ) (b : List ℕ) (s : Session) → Holds b s → (is_refused (Entry.entry s stack).refusal ≡ true → (Entry.entry s stack).session ≡ s)
    → (is_refused (Entry.entry s stack).refusal ≡ true → (Entry.entry s stack).injection ≡ Empty)
    → (is_refused (Entry.entry s stack).refusal ≡ true → (Entry.entry s stack).resumed ≡ false) → Sound (Entry.entry s stack).session
    → Carried b (entered (entry_call stack b 0 0)) (entering (Entry.entry s stack))
unfolding entry_call
entry_carried stack b s m same none launch h =
    rw (m.accepted, m.holds)
    (cond_all (λ (o : EntryCall). Carried b (entered o) (entering (Entry.entry s stack))) (eqb (Entry.entry s stack).refusal 0) _ _
    (λ t. record {
      refusal = sym (eqb-true _ _ t);
      answer = numbered_back (Entry.entry s stack).injection;
      resumed = flag_back (Entry.entry s stack).resumed;
      state = holds_encoded
          (Entry.entry s stack).session h;
      unchanged = impossible;
    })
    (λ t. record {
      refusal = refl;
      answer = sym (none (ap not t));
      resumed = sym (launch (ap not t));
      state = record {
        accepted = m.accepted;
        holds = m.holds ∙ sym
            (same (ap not t));
      };
      unchanged = λ _. refl;
    }))

-- an entry whose two results hold these numbers before it: an accepted one stores the number of its answer
pub record Results (b : List ℕ) (stack resumed injection : ℕ) : Type 0 where
  pub refusal : (entry_call stack b resumed injection).refusal ≡ (step_of b (entry stack)).refusal
  pub bytes : (entry_call stack b resumed injection).bytes ≡ (step_of b (entry stack)).state
  pub answer : is_refused (step_of b (entry stack)).refusal ≡ false
      → (entry_call stack b resumed injection).injection ≡ answer_number (step_of b (entry stack)).answer
  pub resumes : is_refused (step_of b (entry stack)).refusal ≡ false → (entry_call stack b resumed injection).resumed ≡ flag (step_of b (entry stack)).resumed
  -- a refused one stores nothing
  pub left : is_refused (step_of b (entry stack)).refusal ≡ true
      → entry_call stack b resumed injection ≡ entry_answer (step_of b (entry stack)).refusal b resumed injection

-- what the results held before does not matter
pub entry_results : (stack resumed injection : ℕ) (b : List ℕ) → Results b stack resumed injection
unfolding entry_call
entry_results stack resumed injection b =
    let p = go (accepted_of b) (eqb (Entry.entry (session_of b) stack).refusal 0) refl in
    record { refusal = p.0; bytes = p.1; answer = p.2; resumes = p.3; left = p.4 }
  where
    o : Entered
    o = Entry.entry (session_of b) stack

    made : ℕ → ℕ → Bool → Bool → EntryCall
    made x y t u =
        cond t
        (cond u (record { refusal = 0; bytes = encode_of o.session; resumed = flag o.resumed; injection = injection_number o.injection })
        (entry_answer o.refusal b x y))
        (entry_answer 2 b x y)

    go : (t u : Bool) → eqb o.refusal 0 ≡ u
        → ((made resumed injection t u).refusal ≡ (made 0 0 t u).refusal) × ((made resumed injection t u).bytes ≡ (made 0 0 t u).bytes)
        × (is_refused (made 0 0 t u).refusal ≡ false → (made resumed injection t u).injection ≡ answer_number (numbered (made 0 0 t u).injection))
        × (is_refused (made 0 0 t u).refusal ≡ false → (made resumed injection t u).resumed ≡ flag (eqb (made 0 0 t u).resumed 1))
        × (is_refused (made 0 0 t u).refusal ≡ true → made resumed injection t u ≡ entry_answer (made 0 0 t u).refusal b resumed injection)
    go true true e = (refl, refl, λ _. same_number o.injection ∙ ap answer_number (sym (numbered_back o.injection)), λ _. ap flag (sym (flag_back o.resumed)), impossible)
    go true false e = (refl, refl, λ f. absurd (true≢false (sym (ap not e) ∙ f)), λ f. absurd (true≢false (sym (ap not e) ∙ f)), λ _. refl)
    go false u e = (refl, refl, λ f. absurd (true≢false f), λ f. absurd (true≢false f), λ _. refl)

setup_carried : (block a c msr : List ℕ) (b : List ℕ) (s : Session) → Holds b s
    → (is_refused (session_step s (setup block a c msr)).refusal ≡ true → next s (setup block a c msr) ≡ s) → Sound (next s (setup block a c msr))
    → Carried b (framed (setup_call b block a c msr)) (session_step s (setup block a c msr))
unfolding setup_call setup_accepts
setup_carried block a c msr b s m = rw (m.accepted, m.holds) (go (has_buffers block a c msr))
  where
    x : Answered
    x = setup_of s (arguments_of block)

    y : Answered → FramesCall
    y r = cond (eqb r.refusal 0) (frames_call 0 (encode_of r.session) (io_bitmap_set a c).a (io_bitmap_set a c).b (msr_bitmap_set msr).frame)
        (frames_call r.refusal b a c msr)

    go : (t : Bool) → (is_refused (cond t x (answered 2 s)).refusal ≡ true → (cond t x (answered 2 s)).session ≡ s) → Sound (cond t x (answered 2 s)).session
        → Carried b (framed (cond t (y x) (frames_call 2 b a c msr))) (left (cond t x (answered 2 s)))
    go true same h =
        cond_all (λ (o : FramesCall). Carried b (framed o) (left x)) (eqb x.refusal 0) _ _
        (λ t. record { refusal = sym (eqb-true _ _ t); answer = refl; resumed = refl; state = holds_encoded x.session h; unchanged = impossible })
        (λ t. record {
          refusal = refl;
          answer = refl;
          resumed = refl;
          state = record {
            accepted = m.accepted;
            holds = m.holds ∙ sym
                (same (ap not t));
          };
          unchanged = λ _. refl;
        })
    go false same h = record { refusal = refl; answer = refl; resumed = refl; state = m; unchanged = λ _. refl }

-- a refused setup leaves every buffer
pub setup_left : (block a c msr b : List ℕ) → is_refused (setup_call b block a c msr).refusal ≡ true
    → setup_call b block a c msr ≡ frames_call (setup_call b block a c msr).refusal b a c msr
unfolding setup_call
setup_left block a c msr b = go (setup_accepts b block a c msr) (eqb o.refusal 0)
  where
    o : Answered
    o = setup_of (session_of b) (arguments_of block)

    made : Bool → Bool → FramesCall
    made t u =
        cond t
        (cond u (frames_call 0 (encode_of o.session) (io_bitmap_set a c).a (io_bitmap_set a c).b (msr_bitmap_set msr).frame) (frames_call o.refusal b a c msr))
        (frames_call 2 b a c msr)

    go : (t u : Bool) → is_refused (made t u).refusal ≡ true → made t u ≡ frames_call (made t u).refusal b a c msr
    go true true e = impossible e
    go true false e = refl
    go false u e = refl

report_carried : (block b : List ℕ) (s : Session) → Holds b s
    → (is_refused (session_step s (exit_report block)).refusal ≡ true → next s (exit_report block) ≡ s) → Sound (next s (exit_report block))
    → Carried b (reported (report_call b block (replicate 8 0))) (session_step s (exit_report block))
unfolding report_call report_accepts
report_carried block b s m = rw (m.accepted, m.holds) (go (Report.block_accepted block))
  where
    x : Answered
    x = answered (Exit.exit_report s (report_of block)).refusal (Exit.exit_report s (report_of block)).session

    y : ReportCall
    y =
        cond (eqb (Exit.exit_report s (report_of block)).refusal 0)
        (report_answer 0 (encode_of (Exit.exit_report s (report_of block)).session) (answer_words (Exit.exit_report s (report_of block)).answer))
        (report_answer (Exit.exit_report s (report_of block)).refusal b (replicate 8 0))

    go : (t : Bool) → (is_refused (cond t x (answered 2 s)).refusal ≡ true → (cond t x (answered 2 s)).session ≡ s) → Sound (cond t x (answered 2 s)).session
        → Carried b (reported (cond t y (report_answer 2 b (replicate 8 0)))) (left (cond t x (answered 2 s)))
    go true same h =
        cond_all (λ (o : ReportCall). Carried b (reported o) (left x)) (eqb x.refusal 0) _ _
        (λ t. record { refusal = sym (eqb-true _ _ t); answer = refl; resumed = refl; state = holds_encoded x.session h; unchanged = impossible })
        (λ t. record {
          refusal = refl;
          answer = refl;
          resumed = refl;
          state = record { accepted = m.accepted; holds = m.holds ∙ sym (same (ap not t)) };
          unchanged = λ _. refl;
        })
    go false same h = record { refusal = refl; answer = refl; resumed = refl; state = m; unchanged = λ _. refl }

-- what the answer held before does not matter, and a refused report leaves it
pub report_results : (block words b : List ℕ)
    → ((report_call b block words).refusal ≡ (report_call b block (replicate 8 0)).refusal)
    × ((report_call b block words).bytes ≡ (report_call b block (replicate 8 0)).bytes)
    × (is_refused (report_call b block (replicate 8 0)).refusal ≡ true → report_call b block words ≡ report_answer (report_call b block (replicate 8 0)).refusal b words)
unfolding report_call
report_results block words b = go (report_accepts b block) (eqb o.refusal 0)
  where
    o : Reported
    o = Exit.exit_report (session_of b) (report_of block)

    made : List ℕ → Bool → Bool → ReportCall
    made w t u = cond t (cond u (report_answer 0 (encode_of o.session) (answer_words o.answer)) (report_answer o.refusal b w)) (report_answer 2 b w)

    go : (t u : Bool) → ((made words t u).refusal ≡ (made (replicate 8 0) t u).refusal) × ((made words t u).bytes ≡ (made (replicate 8 0) t u).bytes)
        × (is_refused (made (replicate 8 0) t u).refusal ≡ true → made words t u ≡ report_answer (made (replicate 8 0) t u).refusal b words)
    go true true = (refl, refl, impossible)
    go true false = (refl, refl, λ _. refl)
    go false u = (refl, refl, λ _. refl)

-- a refused entry says that it does not resume
no_launch : (s : Session) (stack : ℕ) → is_refused (Entry.entry s stack).refusal ≡ true → (Entry.entry s stack).resumed ≡ false
unfolding Entry.entry
no_launch s stack =
    cond_all P (is_unlawful s) _ _ (λ _ _. refl)
    (λ _. cond_all P (not (eqb s.progress.phase 1)) _ _ (λ _ _. refl)
    (λ _. cond_all P (eqb s.progress.entries LAST_ENTRY) _ _ (λ _ _. refl) (λ _. impossible)))
  where
    P : Entered → Type 0
    P a = is_refused a.refusal ≡ true → a.resumed ≡ false

pub carried : (b : List ℕ) (s : Session) (c : Call) → WellTyped c → Holds b s → Sound s → Carried b (step_of b c) (session_step s c)
carried b s (setup block a d msr) w m h =
    setup_carried block a d msr b s m (step begun s (setup block a d msr) w h).unchanged (sound_step s (setup block a d msr) w h)
carried b s (queue_event vector coded code) w m h =
    call_carried (queue_step vector coded code) b s m (step begun s (queue_event vector coded code) w h).unchanged (sound_step s (queue_event vector coded code) w h)
carried b s (inject_interrupt vector) w m h =
    call_carried (λ t. Queue.inject_interrupt t vector) b s m (step begun s (inject_interrupt vector) w h).unchanged (sound_step s (inject_interrupt vector) w h)
carried b s (entry stack) w m h =
    let t = step begun s (entry stack) w h in
    entry_carried stack b s m t.unchanged (λ r. t.answer ∙ rw r) (no_launch s stack) (sound_step s (entry stack) w h)
carried b s (exit_report block) w m h = report_carried block b s m (step begun s (exit_report block) w h).unchanged (sound_step s (exit_report block) w h)
carried b s (apic_value value) w m h =
    call_carried (λ t. Access.apic_value t value) b s m (step begun s (apic_value value) w h).unchanged (sound_step s (apic_value value) w h)
carried b s (field_write encoding value) w m h =
    call_carried (λ t. Access.write_field t encoding value) b s m (step begun s (field_write encoding value) w h).unchanged
    (sound_step s (field_write encoding value) w h)
carried b s (register_write index value) w m h =
    call_carried (λ t. Access.set_register t index value) b s m (step begun s (register_write index value) w h).unchanged
    (sound_step s (register_write index value) w h)

-- ---- a list of calls

pub record CarriedAll (b : List ℕ) (s : Session) (cs : List Call) : Type 0 where
  pub history : history_of b cs ≡ session_log s cs
  pub state : Holds (after b cs) (session_after s cs)

pub carry : (b : List ℕ) (s : Session) (cs : List Call) → AllWellTyped cs → Holds b s → Sound s → CarriedAll b s cs
carry b s [] w m h = record { history = refl; state = m }
carry b s (c ∷ cs) w m h =
    let k = carried b s c w.0 m h in
    let r = carry (step_of b c).state (next s c) cs w.1 k.state (sound_step s c w.0 h) in
    record {
      history = λ i. record { call = c; refusal = k.refusal i; answer = k.answer i; waiting = waiting_of (m.holds i) } ∷ r.history i;
      state = r.state;
    }

-- ---- a new session

no_bytes : accepted_of [] ≡ false
unfolding accepted_of
no_bytes = refl

pub sound_new : Sound new_session
unfolding new_session
sound_new =
    record {
      fits = subst Fitting (ap (λ (d : Decoded). d.session) (refused_decoded [] no_bytes)) (faithful.fitting [] (λ i. lit< tt));
      lawful = record { phase = zero-le; waiting = zero-le; held = zero-le };
    }

pub holds_new : Holds new_record new_session
holds_new = subst (λ (b : List ℕ). Holds b new_session) faithful.new (holds_encoded new_session sound_new)
