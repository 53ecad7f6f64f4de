-- One call on a session: it goes as the reference does, and is refused exactly where its numbers say. One lemma for each call. Assumes nothing.
use Prim.Native.Nat.{ℕ, zero, suc, ◌+◌, ◌-◌, ◌/◌, ◌%◌, ◌^◌, ◌<◌, ◌≤◌}
use mathlib.Core.Path.{◌≡◌, refl, sym, ap, ◌∙◌, subst}
use mathlib.Core.Bool.{Bool, true, false, cond, not, ◌&&◌, true≢false}
use mathlib.Core.List.{List, [], ◌∷◌, ◌++◌, Memᴰ}
use mathlib.Core.Logic.{◌⊎◌, ◌≢◌, inl, inr}
use mathlib.Core.Option
use mathlib.Core.Option.{some, none}
use native.Mathlib.Decide.{ℕ_discrete}
use native.Mathlib.Omega.{arith}
use native.Mathlib.Numerals.{add-one}
use lib.ListN.{length, get_or, take, drop, set}
use lib.Seq.{take-suc-set, length-take-le}
use lib.Bits.{bit_or}
use lib.Dec.{eqb, ltb, leb, lit<, eqb-suc-zero}
use borrow.Author.Tests.{eqb-true, eqb-false, leb-true, leb-false, ltb-true, ltb-false, not-true, not-false}
use Rattle.bits.specs.Words.{bit, with_bit, low32}
use Rattle.vmcs.specs.Control.{control_word}
use Rattle.vmcs.specs.Field.{Field, place_of, size_of, value_of, put}
use Rattle.vmcs.specs.declared.Vmcs.{Vmcs}
use Rattle.vmcs.specs.Fields.{position_of, field_at, field_of, vmcs_write}
use Rattle.vmcs.specs.Rules.{width_by_bits}
use Rattle.vmcs.specs.Named.{named, encodings}
use Rattle.vmcs.specs.Names.VmcsControl32 as VmcsControl32
use Rattle.vmcs.specs.Names.VmcsControlNW as VmcsControlNW
use Rattle.vmcs.specs.Names.VmcsGuest32 as VmcsGuest32
use Rattle.vmcs.specs.Names.VmcsGuestNW as VmcsGuestNW
use Rattle.vmcs.specs.Names.VmcsHostNW as VmcsHostNW
use Rattle.vmcs.specs.Names.VmcsReadOnly32 as VmcsReadOnly32
use Rattle.vmcs.specs.Fields.{Written as FieldsWritten}
use Rattle.vmcs.proofs.TableTest.{table}
use Rattle.vmcs.proofs.WidthLaws.{greatest_by_bits}
use Rattle.regs.specs.Registers.{with_reg_of_index}
use Rattle.regs.specs.Registers.{RegWritten}
use Rattle.vcpu_session.specs.Session.{LAST_ENTRY, Lawful, with_vmcs, with_queue}
use Rattle.vcpu_session.specs.declared.Xcr0.{Xcr0}
use Rattle.vcpu_session.specs.declared.Session.{Session}
use Rattle.vcpu_session.proofs.LawfulLaws.{of_lawful}
use Rattle.vcpu_events.specs.Queue as Queue
use Rattle.vcpu_events.specs.Queue.{answered, pushed, popped, front_of}
use Rattle.vcpu_events.specs.Entry as Entry
use Rattle.vcpu_events.specs.Entry.{injection_of, code_in, after_entry, progress_after, queue_after, vmcs_after, window_set, with_stack}
use Rattle.vcpu_events.specs.Queue.{Answered}
use Rattle.vcpu_events.specs.Entry.{Entered}
use Rattle.vcpu_events.specs.declared.Injection.{Injection}
use Rattle.vcpu_events.specs.declared.Injection.TheVariants.{Empty, Held, Written}
use Rattle.vcpu_events.specs.Access as Access
use Rattle.vcpu_events.specs.Access.{fields_written, registers_written}
use Rattle.vcpu_setup.specs.Setup.{setup_refusal, setup_of}
use Rattle.vcpu_setup.specs.Writes.{setup_writes}
use Rattle.vcpu_setup.specs.declared.Arguments.{Arguments}
use Rattle.vmcs.specs.Writes.{same_field, Sized}
use Rattle.vcpu_setup.specs.Capability.{used, capabilities_of}
use Rattle.vcpu_setup.specs.Laws.{Typed, SetUp}
use Rattle.vcpu_setup.specs.Words.{setup_words}
use Rattle.vcpu_setup.proofs.SetupLaws.{set_up_lem, setup_number, refused_keeps}
use Rattle.vcpu_exit.specs.Refusal.{report_refusal}
use Rattle.vcpu_report.specs.ExitReport.{Reported}
use Rattle.vcpu_exit.specs.declared.Report.{Report}
use Rattle.vcpu_exit.proofs.Passes.{passes}
use Rattle.vcpu_report.specs.ExitReport as Exit
use Rattle.vcpu_report.specs.Handlers as Handlers
use Rattle.blocks.specs.ReportLayout as ReportLayout
use Rattle.blocks.specs.SetupLayout as Layout
use Rattle.blocks.specs.ReportBlock.{report_of}
use Rattle.vcpu_report.specs.Laws.{one_of}
use Rattle.vcpu_report.proofs.ReportLaws.{exit_is, report_laws}
use Rattle.blocks.specs.SetupBlock.{arguments_of, msrs_of, features_of}
use Rattle.call_specs.specs.Records.{queue_step}
use Rattle.bits.specs.Refuses.{by, Refuses}
use Rattle.bits.proofs.Tells.{Tells, tells_eq, tells_leb, tells_on, tells_clear, tells_and, tells_or, tells_not, tells_as, cond_all}
use Rattle.calls.specs.Moves.{Move, queues, exits, fails, rests, moved, answer_of, Tally, tallied}
use Rattle.calls.specs.Reference.{choose, Call, setup, queue_event, inject_interrupt, entry, exit_report, apic_value, field_write, register_write, WellTyped, Event, entry_move, move_by, Limits, msr_at, limits_of, control_value, IsHeld, is_held, answer_on, move_on, Reference, types, codes, code_goes_in, is_soft, event_fields, event_by, controls_by, in_phase, at_setup, at_entry, at_exit, at_field_write, words_by, reference_step, reference_answer, Buffers, setup_rules, report_rules, own_rules}
use Rattle.calls.specs.Calls.{Outcome, Logged, is_refused, event_of, events_of, waiting_of, limits_in, words_of, move_of}
use Rattle.calls.proofs.Choices.{impossible, choose_no, choose_ap}
use Rattle.calls.proofs.Events.{events_set, events_long, events_shifted, events_front}
use Rattle.calls.proofs.RawWrites.{Names, raw_read, placed_listed, listed_placed}
use Rattle.calls.proofs.WordBits.{tabled}
use Rattle.calls.proofs.Fields.{put_own, same_stack, same_window, same_injected, entry_fields, same_entered, injected_code, injected_long, entered_word}
use Rattle.calls.proofs.Sessions.{has_buffers, left, entering, session_step, Sound, sound_sized, sound_alike, view_of}
use Rattle.calls.proofs.SetupNumbers.{buffers_of, of_buffers, setup_refuses, same_limits, secondary_set_lem}
use Rattle.calls.proofs.SetupFits.{typed}
use Rattle.calls.proofs.Handled.{exit_primary, exit_entry, exit_cr0, exit_cr0_mask, exit_cr4, exit_cr4_mask}
use Rattle.calls.proofs.ReportNumbers.{picks, phase_agrees, xcr0_agrees, report_refuses}

-- what is logged of a call on s that comes to o
abbrev logged_as : Session → Call → Outcome Session → Logged
logged_as s c o = record { call = c; refusal = o.refusal; answer = o.answer; waiting = waiting_of s }

-- one call, once the calls before it came to the tally t
pub record Stepped (t : Tally Event) (s : Session) (c : Call) (o : Outcome Session) : Type 0 where
  pub move : move_of (logged_as s c o) ≡ cond (is_refused o.refusal) rests (move_on (view_of t s) c)
  pub state : view_of (tallied t (move_of (logged_as s c o))) o.state ≡ reference_step (view_of t s) c (is_refused o.refusal)
  pub answer : o.answer ≡ reference_answer (view_of t s) c (is_refused o.refusal)
  pub numbers : Refuses (own_rules (view_of t s) c) o.refusal
  pub unchanged : is_refused o.refusal ≡ true → o.state ≡ s

-- ---- a call that is refused, one that leaves the queue alone, and one that queues

-- a move of this kind does nothing to the queue and is no entry
record Quiet (m : Move Event) : Type 0 where
  tally : (t : Tally Event) → tallied t m ≡ t
  pending : (w : List Event) → moved w m ≡ w
  answer : answer_of m ≡ Empty

rests_quiet : Quiet rests
rests_quiet = record { tally = λ t. refl; pending = λ w. refl; answer = refl }

module _ (t : Tally Event) (s : Session) (c : Call) where
  refuses : (n : ℕ) → eqb n 0 ≡ false → Refuses (own_rules (view_of t s) c) n
      → Stepped t s c (record { refusal = n; answer = Empty; resumed = false; state = s })
  refuses n e w = record { move = rw e; state = rw e; answer = rw e; numbers = w; unchanged = λ _. refl }

  -- accepted, with the words that the reference has after it: the queue and the counts stay
  quiet : (r : Session) (m : Move Event) → Quiet m → ((a : Injection) (w : List Event) → move_by c a w ≡ m) → r.queue ≡ s.queue
      → r.progress.entries ≡ s.progress.entries → r.progress.held ≡ s.progress.held → words_of r ≡ words_by (view_of t s) c
      → Refuses (own_rules (view_of t s) c) 0 → Stepped t s c (left (answered 0 r))
  quiet r m q is qs es hs ws n =
      let w = waiting_of s in
      let a = answer_on w (words_of s).interrupt_flag (words_of s).interruptibility in
      record {
        move = is Empty w ∙ sym (is a w);
        state = λ i. record {
          tally = ((λ i. record {
            queued = ((ap (tallied t) (is Empty w) ∙ q.tally t) i).queued;
            injected = ((ap (tallied t) (is Empty w) ∙ q.tally t) i).injected;
            entries = es i;
            held = hs i;
          }) ∙ sym (ap (tallied (view_of t s).tally) (is a w) ∙ q.tally (view_of t s).tally)) i;
          pending = ((λ i. take (qs i).waiting (events_of (qs i).vectors (qs i).coded (qs i).codes)) ∙ sym (ap (moved w) (is a w) ∙ q.pending w)) i;
          words = ws i;
        };
        answer = sym (ap answer_of (is a w) ∙ q.answer);
        numbers = n;
        unchanged = impossible;
      }

  -- accepted, with the event e queued last
  queues_last : (e : Queue.Event) → Sound s → ((a : Injection) (w : List Event) → move_by c a w ≡ queues (event_of e.vector e.coded e.code))
      → words_by (view_of t s) c ≡ words_of s → s.queue.waiting < 64 → Refuses (own_rules (view_of t s) c) 0
      → Stepped t s c (left (answered 0 (with_queue s (pushed s.queue e))))
  unfolding pushed
  queues_last e h is ws lt n =
      let k = s.queue.waiting in
      let w = waiting_of s in
      let l = events_of s.queue.vectors s.queue.coded s.queue.codes in
      let ev : Event = event_of e.vector e.coded e.code in
      let stored : Event = event_of e.vector e.coded (cond e.coded e.code 0) in
      let long : k < length l = omega (
        arith,
        events_long s.queue.vectors s.queue.coded s.queue.codes
            (sound_alike s h),
        h.fits.queue.vectors.sized,
      ) in
      let last : take (k + 1) (events_of (set s.queue.vectors k e.vector) (with_bit k e.coded s.queue.coded)
      (set s.queue.codes k (cond e.coded e.code 0)))
      ≡ w ++ (ev ∷ [])
      = ap (take (k + 1)) (events_set s.queue.vectors s.queue.coded s.queue.codes k e.vector e.coded (cond e.coded e.code 0))
      ∙ ap (λ (m : ℕ). take m (set l k stored)) (add-one k) ∙ take-suc-set l k stored long
      ∙ ap (λ (y : Event). w ++ (y ∷ [])) (code_kept e.vector e.coded e.code) in
      let a = answer_on w (words_of s).interrupt_flag (words_of s).interruptibility in
      let on : move_of (logged_as s c (left (answered 0 s))) ≡ queues ev = is Empty w in
      record {
        move = is Empty w ∙ sym (is a w);
        state = (λ i. view_of (tallied t (on i)) (with_queue s (pushed s.queue e)))
            ∙ (λ i. record {
              tally = tallied (view_of t s).tally (sym (is a w) i);
              pending = (last ∙ ap (moved w) (sym (is a w))) i;
              words = sym ws i;
            });
        answer = sym (ap answer_of (is a w));
        numbers = n;
        unchanged = impossible;
      }
    where
      code_kept : (v : ℕ) (b : Bool) (x : ℕ) → event_of v b (cond b x 0) ≡ event_of v b x
      code_kept v true x = refl
      code_kept v false x = refl

-- ---- setup

pub block_msrs : (block : List ℕ) → (arguments_of block).msrs ≡ msrs_of block
unfolding arguments_of
block_msrs block = refl

block_features : (block : List ℕ) → (arguments_of block).features ≡ features_of block
unfolding arguments_of
block_features block = refl

-- the numbers of setup after 2, by the block alone
pub setup_ruled : (s : Session) (block : List ℕ) → Lawful s
    → Refuses (by 1 (s.progress.phase ≢ 0) ∷ setup_rules (limits_of block) (features_of block)) (setup_of s (arguments_of block)).refusal
setup_ruled s block h =
    rw (setup_number s (arguments_of block), block_msrs block, block_features block)
    (subst (λ (l : Limits). Refuses (by 1 (s.progress.phase ≢ 0) ∷ setup_rules l (features_of block)) (setup_refusal s (capabilities_of (msrs_of block)) (features_of block)))
    (same_limits block) (setup_refuses s (capabilities_of (msrs_of block)) (features_of block) h))

setup_words_lem : (s r : Session) (block : List ℕ) → SetUp s (arguments_of block) r → words_of r ≡ at_setup (words_of s) block
unfolding setup_writes setup_words control_word arguments_of msrs_of used
setup_words_lem s r block u =
    λ i. record {
      phase = u.phase i;
      launched = u.launched i;
      host_rsp = u.fields VmcsHostNW.RSP (lit< tt) i;
      interrupt_flag = bit 9 (u.rflags i);
      interruptibility = u.interruptibility i;
      event = record {
        info = u.fields VmcsControl32.VMENTRY_INTERRUPTION_INFO_FIELD (lit< tt) i;
        code = u.fields VmcsControl32.VMENTRY_EXCEPTION_ERR_CODE (lit< tt) i;
        length = u.fields VmcsControl32.VMENTRY_INSTRUCTION_LEN (lit< tt) i;
      };
      controls = record {
        pin = u.fields VmcsControl32.PINBASED_EXEC_CONTROLS (lit< tt) i;
        primary = u.fields VmcsControl32.PRIMARY_PROCBASED_EXEC_CONTROLS (lit< tt) i;
        secondary = (u.fields VmcsControl32.SECONDARY_PROCBASED_EXEC_CONTROLS (lit< tt)
            ∙ ap (λ (x : ℕ). control_value (limits_of block).secondary (low32 (msr_at Layout.PROCBASED_CTLS2 block)) x 0) (secondary_set_lem (features_of block))) i;
        exit = u.fields VmcsControl32.VMEXIT_CONTROLS (lit< tt) i;
        entry = u.fields VmcsControl32.VMENTRY_CONTROLS (lit< tt) i;
      };
      error_code = u.fields VmcsReadOnly32.VMEXIT_INTERRUPTION_ERR_CODE (lit< tt) i;
      instruction_length = u.fields VmcsReadOnly32.VMEXIT_INSTRUCTION_LEN (lit< tt) i;
      cr0 = u.fields VmcsGuestNW.CR0 (lit< tt) i;
      cr0mask = u.fields VmcsControlNW.CR0_GUEST_HOST_MASK (lit< tt) i;
      cr4 = u.fields VmcsGuestNW.CR4 (lit< tt) i;
      cr4mask = u.fields VmcsControlNW.CR4_GUEST_HOST_MASK (lit< tt) i;
      limits = limits_in (u.capabilities i);
      xcr0 = u.xcr0 i;
      supported = u.supported i;
    }

module _ (t : Tally Event) (s : Session) (block a b msr : List ℕ) (fixed : Typed (msrs_of block)) (h : Sound s) where
  abbrev call : Call
  call = setup block a b msr

  abbrev given : Arguments
  given = arguments_of block

  setup_numbers : Buffers block a b msr → Refuses (own_rules (view_of t s) call) (setup_of s given).refusal
  setup_numbers l = inr (λ n. n l, setup_ruled s block h.lawful)

  setup_accepted : (setup_of s given).refusal ≡ 0 → Refuses (own_rules (view_of t s) call) 0 → Stepped t s call (left (answered 0 (setup_of s given).session))
  setup_accepted e w =
      let k = set_up_lem s given (sound_sized s h) (rw (block_msrs block) fixed) e in
      quiet t s call (setup_of s given).session rests rests_quiet (λ _ _. refl) k.queue k.entries k.held
      (setup_words_lem s (setup_of s given).session block k) w

  setup_decided : Buffers block a b msr → (y : Bool) → eqb (setup_of s given).refusal 0 ≡ y → Stepped t s call (left (setup_of s given))
  setup_decided l true e =
      let z = eqb-true _ _ e in
      subst (λ (n : ℕ). Stepped t s call (left (answered n (setup_of s given).session))) (sym z)
      (setup_accepted z (subst (Refuses (own_rules (view_of t s) call)) z (setup_numbers l)))
  setup_decided l false e =
      subst (λ (r : Session). Stepped t s call (left (answered (setup_of s given).refusal r))) (sym (refused_keeps s given (eqb-false _ _ e)))
      (refuses t s call (setup_of s given).refusal e (setup_numbers l))

  setup_step : Stepped t s call (session_step s call)
  setup_step =
      cond_all (λ (r : Answered). Stepped t s call (left r)) (has_buffers block a b msr) _ _
      (λ y. setup_decided (buffers_of block a b msr y) (eqb (setup_of s given).refusal 0) refl)
      (λ y. refuses t s call 2 refl (inl (λ l. true≢false (sym (of_buffers block a b msr l) ∙ y), refl)))

-- ---- queueing

-- as many wait as the reference has
pending_long : (s : Session) → Sound s → length (waiting_of s) ≡ s.queue.waiting
pending_long s h =
    length-take-le s.queue.waiting _
    (omega (arith, events_long s.queue.vectors s.queue.coded s.queue.codes (sound_alike s h), h.fits.queue.vectors.sized, h.lawful.waiting))

module _ (t : Tally Event) (s : Session) (h : Sound s) where
  -- the last number, and acceptance
  queue_tail : (c : Call) (e : Queue.Event) → ((a : Injection) (w : List Event) → move_by c a w ≡ queues (event_of e.vector e.coded e.code))
      → words_by (view_of t s) c ≡ words_of s
      → ((n : ℕ) → Refuses (by 13 (64 ≤ length (waiting_of s)) ∷ []) n → Refuses (own_rules (view_of t s) c) n)
      → Stepped t s c (left (cond (leb 64 s.queue.waiting) (answered 13 s) (answered 0 (with_queue s (pushed s.queue e)))))
  queue_tail c e is ws w =
      cond_all (λ (a : Answered). Stepped t s c (left a)) (leb 64 s.queue.waiting) _ _
      (λ u. refuses t s c 13 refl (w 13 (inl (omega (arith, leb-true 64 s.queue.waiting u, pending_long s h), refl))))
      (λ u. queues_last t s c e h is ws (leb-false 64 s.queue.waiting u) (w 0
      (inr (λ l. omega (arith, leb-false 64 s.queue.waiting u, pending_long s h), refl))))

  queue_step_lem : (vector coded code : ℕ) → Stepped t s (queue_event vector coded code) (session_step s (queue_event vector coded code))
  unfolding queue_step Queue.queue_event
  queue_step_lem vector coded code =
      let c = queue_event vector coded code in
      cond_all P (ltb 1 coded) _ _ (λ y. refuses t s c 2 refl (inl (ltb-true 1 coded y, refl)))
      (λ y. rw (of_lawful s h.lawful)
      (cond_all P (eqb s.progress.phase 4) _ _
      (λ u. refuses t s c 1 refl (inr (λ l. omega (arith, ltb-false 1 coded y, l), inl (eqb-true _ _ u, refl))))
      (λ u. queue_tail c (record { vector = vector; coded = eqb coded 1; code = code }) (λ _ _. refl) refl
      (λ n w. inr (λ l. omega (arith, ltb-false 1 coded y, l), inr (eqb-false _ _ u, w))))))
    where
      P : Answered → Type 0
      P a = Stepped t s (queue_event vector coded code) (left a)

  interrupt_step : (vector : ℕ) → Stepped t s (inject_interrupt vector) (session_step s (inject_interrupt vector))
  unfolding Queue.inject_interrupt Queue.queue_event
  interrupt_step vector =
      let c = inject_interrupt vector in
      rw (of_lawful s h.lawful)
      (cond_all P (eqb s.progress.phase 4) _ _ (λ y. refuses t s c 1 refl (inl (eqb-true _ _ y, refl)))
      (λ y. cond_all P (eqb vector 0) _ _ (λ z. refuses t s c 12 refl (inr (eqb-false _ _ y, inl (inl (eqb-true _ _ z), refl))))
      (λ z. cond_all P (ltb 255 vector) _ _ (λ b. refuses t s c 12 refl (inr (eqb-false _ _ y, inl (inr (ltb-true 255 vector b), refl))))
      (λ b.
      let small : vector ≤ 255 = ltb-false 255 vector b in
      let ok : (vector ≡ 0) ⊎ (256 ≤ vector) → ⊥ = λ o. elim o [ inl x ↦ eqb-false vector 0 z x | inr x ↦ omega arith ] in
      rw y (queue_tail c (record { vector = vector; coded = false; code = 0 }) (λ _ _. refl) refl (λ n w. inr (eqb-false _ _ y, inr (ok, w))))))))
    where
      P : Answered → Type 0
      P a = Stepped t s (inject_interrupt vector) (left a)

-- ---- entry

-- the core's hold rule and the reference's
held_tells : (v f i : ℕ) → Tells (Entry.is_held v f i) (IsHeld v (bit 9 f) i)
unfolding Entry.is_held
held_tells v f i =
    tells_and (tells_leb 32 v) (tells_or (tells_clear (f / 2 ^ 9)) (tells_as (tells_not (tells_eq i 0)) (λ n. omega arith) (λ l e. omega arith)))

-- the answer, from the arrays and from the events that wait
front : (n : ℕ) (vs : List ℕ) (w : ℕ) (cs : List ℕ) (f i : ℕ) → length cs ≡ length vs → 0 < length vs
    → cond (eqb n 0) Empty (cond (Entry.is_held (get_or vs 0 0) f i) Held Written) ≡ answer_on (take n (events_of vs w cs)) (bit 9 f) i
front zero vs w cs f i a h = refl
front (suc n) vs w cs f i a h =
    rw (eqb-suc-zero n)
    (picks (held_tells (get_or vs 0 0) f i) (is_held (get_or vs 0 0) (bit 9 f) i) Held Written
    ∙ sym (ap (λ (l : List Event). answer_on l (bit 9 f) i) (events_front (suc n) vs w cs a (omega arith) h)))

answers_so : (s : Session) → Sound s → injection_of s.queue s.vmcs ≡ answer_on (waiting_of s) (words_of s).interrupt_flag (words_of s).interruptibility
unfolding injection_of
answers_so s h =
    front s.queue.waiting s.queue.vectors s.queue.coded s.queue.codes _ _ (sound_alike s h) (omega (arith, h.fits.queue.vectors.sized))

-- an answer of the hold rule is that of the entry's move
pub answer_moves : (w : List Event) (f : Bool) (i : ℕ) → answer_of (entry_move (answer_on w f i) w) ≡ answer_on w f i
answer_moves [] f i = refl
answer_moves (e ∷ w) f i = go (is_held e.vector f i)
  where
    go : {P : Type 0} (d : Dec P) → answer_of (entry_move (choose d Held Written) (e ∷ w)) ≡ choose d Held Written
    go (yes p) = refl
    go (no p) = refl

other : Empty ≡ Written → ⊥
other e = let z : ◌≡◌ {A = ℕ} 0 1 = cc in omega arith

pub written_waits : (s : Session) → injection_of s.queue s.vmcs ≡ Written → 0 < s.queue.waiting
unfolding injection_of
written_waits s =
    cond_all (λ (a : Injection). a ≡ Written → 0 < s.queue.waiting) (eqb s.queue.waiting 0) _ _ (λ _ e. absurd (other e))
    (λ t _. let n = eqb-false s.queue.waiting 0 t in omega arith)

-- where one waits, it is the front of the queue's arrays
pub front_waits : (s : Session) → Sound s → 0 < s.queue.waiting
    → waiting_of s ≡ event_of (front_of s.queue).vector (front_of s.queue).coded (front_of s.queue).code ∷ drop 1 (waiting_of s)
front_waits s h some-wait =
    let q = s.queue in
    events_front q.waiting q.vectors q.coded q.codes (sound_alike s h) some-wait (omega (arith, h.fits.queue.vectors.sized))

-- host RSP is what the stack left: an injection and the window write other fields
stack_kept : (v : Vmcs) (e : Queue.Event) (a : Injection) → Sized v → value_of (vmcs_after v e a) VmcsHostNW.RSP ≡ value_of v VmcsHostNW.RSP
unfolding vmcs_after
stack_kept v e Empty z = refl
stack_kept v e Held z = (same_window VmcsHostNW.RSP (lit< tt) v z refl).value
stack_kept v e Written z = (same_injected VmcsHostNW.RSP (lit< tt) v e z refl refl refl).value

module _ (t : Tally Event) (s : Session) (stack : ℕ) (h : Sound s) where
  abbrev begun : Vmcs
  begun = with_stack s.vmcs s.progress.launched stack

  stacked : Sized begun
  stacked = (same_stack VmcsGuestNW.RFLAGS (lit< tt) s.vmcs s.progress.launched stack (sound_sized s h) refl).sized

  -- a field that no entry writes
  kept : (f : Field) → place_of f < size_of f → one_of entry_fields f ≡ false → (a : Injection) → value_of (after_entry s stack a).vmcs f ≡ value_of s.vmcs f
  unfolding after_entry
  kept f k e a = (same_entered f k s.vmcs s.progress.launched stack (front_of s.queue) a (sound_sized s h) e).value

  phase_so : (a : Injection) → (after_entry s stack a).progress.phase ≡ 2
  unfolding after_entry progress_after
  phase_so Empty = refl
  phase_so Held = refl
  phase_so Written = refl

  launched_so : (a : Injection) → (after_entry s stack a).progress.launched ≡ true
  unfolding after_entry progress_after
  launched_so Empty = refl
  launched_so Held = refl
  launched_so Written = refl

  -- a field of the event, unless one is written
  stays : (f : Field) → place_of f < size_of f → same_field VmcsHostNW.RSP f ≡ false → same_field VmcsControl32.PRIMARY_PROCBASED_EXEC_CONTROLS f ≡ false
      → (value_of (after_entry s stack Empty).vmcs f ≡ value_of s.vmcs f) × (value_of (after_entry s stack Held).vmcs f ≡ value_of s.vmcs f)
  unfolding after_entry vmcs_after
  stays f k e g =
      let same = (same_stack f k s.vmcs s.progress.launched stack (sound_sized s h) e).value in
      (same, (same_window f k begun stacked g).value ∙ same)

  -- the front in its fields
  pub event_written : 0 < s.queue.waiting
      → (words_of (after_entry s stack Written)).event
      ≡ event_fields (event_of (front_of s.queue).vector (front_of s.queue).coded (front_of s.queue).code) (bit 0 (words_of s).cr0) (words_of s).error_code
      (words_of s).instruction_length (words_of s).event
  unfolding after_entry vmcs_after code_in
  event_written some-wait =
      let e = front_of s.queue in
      let pe = bit 0 (words_of s).cr0 in
      let y = tabled e.vector pe (h.fits.queue.vectors.below 0) in
      let k : (f : Field) → place_of f < size_of f → same_field VmcsHostNW.RSP f ≡ false → value_of begun f ≡ value_of s.vmcs f
      = λ f l n. (same_stack f l s.vmcs s.progress.launched stack (sound_sized s h) n).value in
      λ i. record {
        info = (entered_word s.vmcs s.progress.launched stack e (sound_sized s h) ∙ y.word) i;
        code = (injected_code begun e stacked
            ∙ (λ i. cond (y.coded i && bit 0 (k VmcsGuestNW.CR0 (lit< tt) refl i)) (cond e.coded e.code (k VmcsReadOnly32.VMEXIT_INTERRUPTION_ERR_CODE (lit< tt) refl i))
            (k VmcsControl32.VMENTRY_EXCEPTION_ERR_CODE (lit< tt) refl i))
            ∙ picks (tells_and (tells_eq (get_or codes e.vector 0) 1) (tells_on pe)) (code_goes_in e.vector pe) _ _
            ∙ ap (λ (x : ℕ). choose (code_goes_in e.vector pe) x (words_of s).event.code) (given_code e.coded e.code (words_of s).error_code)) i;
        length = (injected_long begun e stacked
            ∙ (λ i. cond (y.soft i) (k VmcsReadOnly32.VMEXIT_INSTRUCTION_LEN (lit< tt) refl i) (k VmcsControl32.VMENTRY_INSTRUCTION_LEN (lit< tt) refl i))
            ∙ picks (tells_and (tells_leb 4 (get_or types e.vector 0)) (tells_leb (get_or types e.vector 0) 6)) (is_soft e.vector) _ _) i;
      }
    where
      -- the code that goes in
      given_code : (b : Bool) (x y : ℕ) → cond b x y ≡ Option.get_or (cond b (some x) none) y
      given_code true x y = refl
      given_code false x y = refl

  pub event_so : (a : Injection) → injection_of s.queue s.vmcs ≡ a → (words_of (after_entry s stack a)).event ≡ event_by a (waiting_of s) (words_of s)
  event_so Empty e =
      λ i. record {
        info = (stays VmcsControl32.VMENTRY_INTERRUPTION_INFO_FIELD (lit< tt) refl refl).0 i;
        code = (stays VmcsControl32.VMENTRY_EXCEPTION_ERR_CODE (lit< tt) refl refl).0 i;
        length = (stays VmcsControl32.VMENTRY_INSTRUCTION_LEN (lit< tt) refl refl).0 i;
      }
  event_so Held e =
      λ i. record {
        info = (stays VmcsControl32.VMENTRY_INTERRUPTION_INFO_FIELD (lit< tt) refl refl).1 i;
        code = (stays VmcsControl32.VMENTRY_EXCEPTION_ERR_CODE (lit< tt) refl refl).1 i;
        length = (stays VmcsControl32.VMENTRY_INSTRUCTION_LEN (lit< tt) refl refl).1 i;
      }
  event_so Written e =
      let some-wait = written_waits s e in
      event_written some-wait ∙ ap (λ (w : List Event). event_by Written w (words_of s)) (sym (front_waits s h some-wait))

  primary_so : (a : Injection) → value_of (after_entry s stack a).vmcs VmcsControl32.PRIMARY_PROCBASED_EXEC_CONTROLS ≡ (controls_by a (words_of s).controls).primary
  unfolding after_entry vmcs_after window_set
  primary_so a = go a
    where
      f : Field
      f = VmcsControl32.PRIMARY_PROCBASED_EXEC_CONTROLS

      same : value_of begun f ≡ value_of s.vmcs f
      same = (same_stack f (lit< tt) s.vmcs s.progress.launched stack (sound_sized s h) refl).value

      go : (a : Injection) → value_of (vmcs_after begun (front_of s.queue) a) f ≡ (controls_by a (words_of s).controls).primary
      go Empty = same
      go Held = put_own begun f _ stacked (lit< tt) ∙ ap (λ (x : ℕ). bit_or x 0x4) same
      go Written = (same_injected f (lit< tt) begun (front_of s.queue) stacked refl refl refl).value ∙ same

  controls_so : (a : Injection) → (words_of (after_entry s stack a)).controls ≡ controls_by a (words_of s).controls
  controls_so a = (λ i. record {
    pin = kept VmcsControl32.PINBASED_EXEC_CONTROLS (lit< tt) refl a i;
    primary = primary_so a i;
    secondary = kept VmcsControl32.SECONDARY_PROCBASED_EXEC_CONTROLS (lit< tt) refl a i;
    exit = kept VmcsControl32.VMEXIT_CONTROLS (lit< tt) refl a i;
    entry = kept VmcsControl32.VMENTRY_CONTROLS (lit< tt) refl a i;
  }) ∙ go a
    where
      go : (a : Injection) → record {
        pin = (words_of s).controls.pin;
        primary = (controls_by a (words_of s).controls).primary;
        secondary = (words_of s).controls.secondary;
        exit = (words_of s).controls.exit;
        entry = (words_of s).controls.entry;
      } ≡ controls_by a (words_of s).controls
      go Empty = refl
      go Held = refl
      go Written = refl

  pub rsp_after : (a : Injection) → value_of (after_entry s stack a).vmcs VmcsHostNW.RSP ≡ cond s.progress.launched (value_of s.vmcs VmcsHostNW.RSP) stack
  unfolding after_entry with_stack
  rsp_after a = stack_kept begun (front_of s.queue) a stacked ∙ go s.progress.launched
    where
      go : (b : Bool) → value_of (with_stack s.vmcs b stack) VmcsHostNW.RSP ≡ cond b (value_of s.vmcs VmcsHostNW.RSP) stack
      go true = refl
      go false = put_own s.vmcs VmcsHostNW.RSP stack (sound_sized s h) (lit< tt)

  entry_words : (a : Injection) → injection_of s.queue s.vmcs ≡ a → words_of (after_entry s stack a) ≡ at_entry (words_of s) stack a (waiting_of s)
  unfolding after_entry
  entry_words a e =
      λ i. record {
        phase = phase_so a i;
        launched = launched_so a i;
        host_rsp = rsp_after a i;
        interrupt_flag = bit 9 (kept VmcsGuestNW.RFLAGS (lit< tt) refl a i);
        interruptibility = kept VmcsGuest32.INTERRUPTIBILITY_STATE (lit< tt) refl a i;
        event = event_so a e i;
        controls = controls_so a i;
        error_code = kept VmcsReadOnly32.VMEXIT_INTERRUPTION_ERR_CODE (lit< tt) refl a i;
        instruction_length = kept VmcsReadOnly32.VMEXIT_INSTRUCTION_LEN (lit< tt) refl a i;
        cr0 = kept VmcsGuestNW.CR0 (lit< tt) refl a i;
        cr0mask = kept VmcsControlNW.CR0_GUEST_HOST_MASK (lit< tt) refl a i;
        cr4 = kept VmcsGuestNW.CR4 (lit< tt) refl a i;
        cr4mask = kept VmcsControlNW.CR4_GUEST_HOST_MASK (lit< tt) refl a i;
        limits = limits_in s.capabilities;
        xcr0 = s.xcr0.value;
        supported = s.xcr0.supported;
      }

  -- the reference after an entry that gives this answer
  abbrev entered_as : Injection → Reference
  entered_as a =
      record {
        tally = tallied (view_of t s).tally (entry_move a (waiting_of s));
        pending = moved (waiting_of s) (entry_move a (waiting_of s));
        words = at_entry (words_of s) stack a (waiting_of s);
      }

  enters : (a : Injection) → injection_of s.queue s.vmcs ≡ a → view_of (tallied t (entry_move a (waiting_of s))) (after_entry s stack a) ≡ entered_as a
  unfolding after_entry progress_after queue_after popped
  enters Empty e = λ i. record { tally = (entered_as Empty).tally; pending = waiting_of s; words = entry_words Empty e i }
  enters Held e = λ i. record { tally = (entered_as Held).tally; pending = waiting_of s; words = entry_words Held e i }
  enters Written e =
      let q = s.queue in
      let line = front_waits s h (written_waits s e) in
      let rest : waiting_of (with_queue s (popped q)) ≡ drop 1 (waiting_of s)
      = events_shifted q.waiting q.vectors q.coded q.codes (sound_alike s h) (omega (arith, h.fits.queue.vectors.sized, h.lawful.waiting)) in
      (λ i. record {
        tally = record {
          queued = (tallied t (entry_move Written (line i))).queued;
          injected = (tallied t (entry_move Written (line i))).injected;
          entries = s.progress.entries + 1;
          held = s.progress.held;
        };
        pending = rest i;
        words = entry_words Written e i;
      })
      ∙ (λ i. record {
        tally = tallied (view_of t s).tally (entry_move Written (sym line i));
        pending = moved (waiting_of s) (entry_move Written (sym line i));
        words = at_entry (words_of s) stack Written (waiting_of s);
      })

  enter_step : Stepped t s (entry stack) (session_step s (entry stack))
  unfolding Entry.entry
  enter_step =
      rw (of_lawful s h.lawful)
      (cond_all P (not (eqb s.progress.phase 1)) _ _
      (λ y. refuses t s (entry stack) 1 refl (inl (eqb-false _ _ (not-true _ y), refl)))
      (λ y. cond_all P (eqb s.progress.entries LAST_ENTRY) _ _
      (λ u. refuses t s (entry stack) 22 refl (inr (λ n. n (eqb-true _ _ (not-false _ y)), inl (eqb-true _ _ u, refl))))
      (λ u.
      let w = waiting_of s in
      let a = answers_so s h in
      record {
        move = ap (λ (x : Injection). entry_move x w) a;
        state = enters (injection_of s.queue s.vmcs) refl ∙ ap entered_as a;
        answer = a ∙ sym (answer_moves w (words_of s).interrupt_flag (words_of s).interruptibility);
        numbers = inr (λ n. n (eqb-true _ _ (not-false _ y)), inr (eqb-false _ _ u, refl));
        unchanged = impossible;
      })))
    where
      P : Entered → Type 0
      P a = Stepped t s (entry stack) (entering a)

-- ---- APIC value

apic_step : (t : Tally Event) (s : Session) (value : ℕ) → Sound s → Stepped t s (apic_value value) (session_step s (apic_value value))
unfolding Access.apic_value
apic_step t s value h =
    rw (of_lawful s h.lawful)
    (cond_all (λ (a : Answered). Stepped t s (apic_value value) (left a)) (not (eqb s.progress.phase 3)) _ _
    (λ y. refuses t s (apic_value value) 1 refl (inl (eqb-false _ _ (not-true _ y), refl)))
    (λ y. quiet t s (apic_value value) _ rests rests_quiet (λ _ _. refl) refl refl refl refl (inr (λ n. n (eqb-true _ _ (not-false _ y)), refl))))

-- ---- raw field write

-- the encodings of the fields that the reference keeps
record Named : Type 0 where
  rflags : Names 0x6820 VmcsGuestNW.RFLAGS
  interruptibility : Names 0x4824 VmcsGuest32.INTERRUPTIBILITY_STATE
  info : Names 0x4016 VmcsControl32.VMENTRY_INTERRUPTION_INFO_FIELD
  code : Names 0x4018 VmcsControl32.VMENTRY_EXCEPTION_ERR_CODE
  length : Names 0x401A VmcsControl32.VMENTRY_INSTRUCTION_LEN
  pin : Names 0x4000 VmcsControl32.PINBASED_EXEC_CONTROLS
  primary : Names 0x4002 VmcsControl32.PRIMARY_PROCBASED_EXEC_CONTROLS
  secondary : Names 0x401E VmcsControl32.SECONDARY_PROCBASED_EXEC_CONTROLS
  exit : Names 0x400C VmcsControl32.VMEXIT_CONTROLS
  entry : Names 0x4012 VmcsControl32.VMENTRY_CONTROLS
  error_code : Names 0x4406 VmcsReadOnly32.VMEXIT_INTERRUPTION_ERR_CODE
  instruction_length : Names 0x440C VmcsReadOnly32.VMEXIT_INSTRUCTION_LEN
  cr0 : Names 0x6800 VmcsGuestNW.CR0
  cr0mask : Names 0x6000 VmcsControlNW.CR0_GUEST_HOST_MASK
  cr4 : Names 0x6804 VmcsGuestNW.CR4
  cr4mask : Names 0x6002 VmcsControlNW.CR4_GUEST_HOST_MASK
  host_rsp : Names 0x6C14 VmcsHostNW.RSP

names : Named
unfolding encodings named field_at
names =
    record {
      rflags = record { listed = lit< tt; field = refl; within = lit< tt };
      interruptibility = record { listed = lit< tt; field = refl; within = lit< tt };
      info = record { listed = lit< tt; field = refl; within = lit< tt };
      code = record { listed = lit< tt; field = refl; within = lit< tt };
      length = record { listed = lit< tt; field = refl; within = lit< tt };
      pin = record { listed = lit< tt; field = refl; within = lit< tt };
      primary = record { listed = lit< tt; field = refl; within = lit< tt };
      secondary = record { listed = lit< tt; field = refl; within = lit< tt };
      exit = record { listed = lit< tt; field = refl; within = lit< tt };
      entry = record { listed = lit< tt; field = refl; within = lit< tt };
      error_code = record { listed = lit< tt; field = refl; within = lit< tt };
      instruction_length = record { listed = lit< tt; field = refl; within = lit< tt };
      cr0 = record { listed = lit< tt; field = refl; within = lit< tt };
      cr0mask = record { listed = lit< tt; field = refl; within = lit< tt };
      cr4 = record { listed = lit< tt; field = refl; within = lit< tt };
      cr4mask = record { listed = lit< tt; field = refl; within = lit< tt };
      host_rsp = record { listed = lit< tt; field = refl; within = lit< tt };
    }

module _ (s : Session) (e v : ℕ) (found : position_of encodings e < 154) (h : Sound s) where
  read : (x : ℕ) (f : Field) → Names x f → value_of (put s.vmcs (field_of e) v) f ≡ choose (ℕ_discrete e x) v (value_of s.vmcs f)
  read x f n = raw_read e x f found n s.vmcs v (sound_sized s h) (ℕ_discrete e x)

  read_bit : (i x : ℕ) (f : Field) → Names x f
      → bit i (value_of (put s.vmcs (field_of e) v) f) ≡ choose (ℕ_discrete e x) (bit i v) (bit i (value_of s.vmcs f))
  read_bit i x f n = ap (bit i) (read x f n) ∙ choose_ap (bit i) (ℕ_discrete e x) v _

  -- a read_only field is not written
  read_only : (x : ℕ) (f : Field) → Names x f → x / 2 ^ 10 % 4 ≡ 1 → (e / 2 ^ 10 % 4 ≡ 1 → ⊥) → value_of (put s.vmcs (field_of e) v) f ≡ value_of s.vmcs f
  read_only x f n k other = read x f n ∙ choose_no (ℕ_discrete e x) _ _ (λ q. other (ap (λ (y : ℕ). y / 2 ^ 10 % 4) q ∙ k))

  written_words : (e / 2 ^ 10 % 4 ≡ 1 → ⊥) → words_of (with_vmcs s (put s.vmcs (field_of e) v)) ≡ at_field_write (words_of s) e v
  written_words other =
      λ i. record {
        phase = s.progress.phase;
        launched = s.progress.launched;
        host_rsp = read 0x6C14 _ names.host_rsp i;
        interrupt_flag = read_bit 9 0x6820 _ names.rflags i;
        interruptibility = read 0x4824 _ names.interruptibility i;
        event = record {
          info = read 0x4016 _ names.info i;
          code = read 0x4018 _ names.code i;
          length = read 0x401A _ names.length i;
        };
        controls = record {
          pin = read 0x4000 _ names.pin i;
          primary = read 0x4002 _ names.primary i;
          secondary = read 0x401E _ names.secondary i;
          exit = read 0x400C _ names.exit i;
          entry = read 0x4012 _ names.entry i;
        };
        error_code = read_only 0x4406 _ names.error_code refl other i;
        instruction_length = read_only 0x440C _ names.instruction_length refl other i;
        cr0 = read 0x6800 _ names.cr0 i;
        cr0mask = read 0x6000 _ names.cr0mask i;
        cr4 = read 0x6804 _ names.cr4 i;
        cr4mask = read 0x6002 _ names.cr4mask i;
        limits = limits_in s.capabilities;
        xcr0 = s.xcr0.value;
        supported = s.xcr0.supported;
      }

abbrev Wide : ℕ → ℕ → Type 0
Wide e v = ((e / 2 ^ 13 % 4 ≡ 0) × (2 ^ 16 ≤ v)) ⊎ ((e / 2 ^ 13 % 4 ≡ 2) × (2 ^ 32 ≤ v))

wide_of : (e v : ℕ) → v < 2 ^ 64 → ltb (2 ^ width_by_bits e - 1) v ≡ true → Wide e v
unfolding width_by_bits
wide_of e v small =
    cond_all P (eqb (e / 2 ^ 13 % 4) 0) _ _ (λ t b. inl (eqb-true _ _ t, ltb-true _ v b))
    (λ t. cond_all P (eqb (e / 2 ^ 13 % 4) 2) _ _ (λ u b. inr (eqb-true _ _ u, ltb-true _ v b))
    (λ u b. absurd (let z = ltb-true 18446744073709551615 v b in omega arith)))
  where
    P : ℕ → Type 0
    P w = ltb (2 ^ w - 1) v ≡ true → Wide e v

narrow_of : (e v : ℕ) → ltb (2 ^ width_by_bits e - 1) v ≡ false → Wide e v → ⊥
unfolding width_by_bits
narrow_of e v =
    cond_all P (eqb (e / 2 ^ 13 % 4) 0) 16 (cond (eqb (e / 2 ^ 13 % 4) 2) 32 64)
    (λ t b o. elim o [
      | inl x ↦ (let z = ltb-false 65535 v b in let y = x.1 in omega arith)
      | inr y ↦
          (let z = eqb-true (e / 2 ^ 13 % 4) 0 t in let x = y.0 in omega arith)
    ])
    (λ t. cond_all P (eqb (e / 2 ^ 13 % 4) 2) 32 64
    (λ u b o. elim o [ inl x ↦ eqb-false _ _ t x.0 | inr y ↦ (let z = ltb-false 4294967295 v b in let x = y.1 in omega arith) ])
    (λ u b o. elim o [ inl x ↦ eqb-false _ _ t x.0 | inr y ↦ eqb-false _ _ u y.0 ]))
  where
    P : ℕ → Type 0
    P w = ltb (2 ^ w - 1) v ≡ false → Wide e v → ⊥

write_step : (t : Tally Event) (s : Session) (e v : ℕ) → v < 2 ^ 64 → Sound s → Stepped t s (field_write e v) (session_step s (field_write e v))
unfolding Access.write_field vmcs_write
write_step t s e v small h =
    let c = field_write e v in
    let all : length encodings ≡ 154 = table.0 in
    rw (of_lawful s h.lawful)
    (cond_all P (leb 154 (position_of encodings e)) _ _
    (λ y. refuses t s c 3 refl (inl (λ m. omega (arith, listed_placed encodings e m, leb-true 154 (position_of encodings e) y), refl)))
    (λ y.
    let found : position_of encodings e < 154 = leb-false 154 (position_of encodings e) y in
    let listed : (Memᴰ e encodings → ⊥) → ⊥ = λ n. n (placed_listed encodings e (omega arith)) in
    cond_all P (eqb (e / 2 ^ 10 % 4) 1) _ _ (λ u. refuses t s c 4 refl (inr (listed, inl (eqb-true _ _ u, refl))))
    (λ u. rw (greatest_by_bits e found) (cond_all P (ltb (2 ^ width_by_bits e - 1) v) _ _
    (λ w. refuses t s c 5 refl (inr (listed, inr (eqb-false _ _ u, inl (wide_of e v small w, refl)))))
    (λ w. quiet t s c (with_vmcs s (put s.vmcs (field_of e) v)) rests rests_quiet (λ _ _. refl) refl refl refl
    (written_words s e v found h (eqb-false _ _ u)) (inr (listed, inr (eqb-false _ _ u, inr (narrow_of e v w, refl)))))))))
  where
    P : FieldsWritten → Type 0
    P a = Stepped t s (field_write e v) (left (fields_written s a))

-- ---- register write

register_step : (t : Tally Event) (s : Session) (i v : ℕ) → Sound s → Stepped t s (register_write i v) (session_step s (register_write i v))
unfolding Access.set_register with_reg_of_index
register_step t s i v h =
    let c = register_write i v in
    rw (of_lawful s h.lawful)
    (cond_all P (ltb 15 i) _ _ (λ y. refuses t s c 23 refl (inl (inr (ltb-true 15 i y), refl)))
    (λ y. cond_all P (eqb i 4) _ _ (λ u. refuses t s c 23 refl (inl (inl (eqb-true _ _ u), refl)))
    (λ u. quiet t s c _ rests rests_quiet (λ _ _. refl) refl refl refl refl
    (inr (λ o. elim o [ inl x ↦ eqb-false _ _ u x | inr x ↦ (let z = ltb-false 15 i y in omega arith) ], refl)))))
  where
    P : RegWritten → Type 0
    P a = Stepped t s (register_write i v) (left (registers_written s a))

-- ---- exit report

module _ (t : Tally Event) (s : Session) (block : List ℕ) (h : Sound s) where
  abbrev report : Call
  report = exit_report block

  abbrev r : Report
  r = report_of block

  abbrev left_session : Session
  left_session = (Exit.exit_report s r).session

  report_numbers : length block ≡ ReportLayout.LENGTH → Refuses (own_rules (view_of t s) report) (Exit.exit_report s r).refusal
  report_numbers l =
      inr (λ n. n l, subst (Refuses (report_rules (words_of s) r)) (sym (report_laws s r).number) (report_refuses s r h.lawful))

  failed_words : report_refusal s r ≡ 0 → bit 31 r.reason ≡ true → words_of left_session ≡ in_phase (words_of s) 4
  failed_words e f =
      let k = (report_laws s r).rest in
      let a = (report_laws s r).failure (sound_sized s h) e f in
      λ i. record {
        phase = a.phase i;
        launched = k.launched i;
        host_rsp = a.fields VmcsHostNW.RSP (lit< tt) refl i;
        interrupt_flag = bit 9 (a.fields VmcsGuestNW.RFLAGS (lit< tt) refl i);
        interruptibility = a.fields VmcsGuest32.INTERRUPTIBILITY_STATE (lit< tt) refl i;
        event = record {
          info = a.fields VmcsControl32.VMENTRY_INTERRUPTION_INFO_FIELD (lit< tt) refl i;
          code = a.fields VmcsControl32.VMENTRY_EXCEPTION_ERR_CODE (lit< tt) refl i;
          length = a.fields VmcsControl32.VMENTRY_INSTRUCTION_LEN (lit< tt) refl i;
        };
        controls = record {
          pin = a.fields VmcsControl32.PINBASED_EXEC_CONTROLS (lit< tt) refl i;
          primary = a.fields VmcsControl32.PRIMARY_PROCBASED_EXEC_CONTROLS (lit< tt) refl i;
          secondary = a.fields VmcsControl32.SECONDARY_PROCBASED_EXEC_CONTROLS (lit< tt) refl i;
          exit = a.fields VmcsControl32.VMEXIT_CONTROLS (lit< tt) refl i;
          entry = a.fields VmcsControl32.VMENTRY_CONTROLS (lit< tt) refl i;
        };
        error_code = a.fields VmcsReadOnly32.VMEXIT_INTERRUPTION_ERR_CODE (lit< tt) refl i;
        instruction_length = a.fields VmcsReadOnly32.VMEXIT_INSTRUCTION_LEN (lit< tt) refl i;
        cr0 = a.fields VmcsGuestNW.CR0 (lit< tt) refl i;
        cr0mask = a.fields VmcsControlNW.CR0_GUEST_HOST_MASK (lit< tt) refl i;
        cr4 = a.fields VmcsGuestNW.CR4 (lit< tt) refl i;
        cr4mask = a.fields VmcsControlNW.CR4_GUEST_HOST_MASK (lit< tt) refl i;
        limits = limits_in (k.capabilities i);
        xcr0 = (a.xcr0 i).value;
        supported = k.supported i;
      }

  -- the fields of an exit are those that its handling leaves
  exit_fields : report_refusal s r ≡ 0 → bit 31 r.reason ≡ false → left_session.vmcs ≡ Handlers.vmcs_after s.vmcs s.capabilities r
  unfolding Exit.after_exit
  exit_fields e f = ap (λ (a : Reported). a.session.vmcs) (exit_is s r e f)

  exit_words : report_refusal s r ≡ 0 → bit 31 r.reason ≡ false → words_of left_session ≡ at_exit (words_of s) r
  exit_words e f =
      let k = (report_laws s r).rest in
      let a = (report_laws s r).exit (sound_sized s h) e f in
      let z = sound_sized s h in
      let p = (passes s r e f).access in
      let g : (x : Field) → value_of left_session.vmcs x ≡ value_of (Handlers.vmcs_after s.vmcs s.capabilities r) x
      = λ x. ap (λ (u : Vmcs). value_of u x) (exit_fields e f) in
      λ i. record {
        phase = (a.phase ∙ phase_agrees r) i;
        launched = k.launched i;
        host_rsp = a.fields VmcsHostNW.RSP (lit< tt) refl i;
        interrupt_flag = bit 9 (a.rflags i);
        interruptibility = a.interruptibility i;
        event = record {
          info = a.fields VmcsControl32.VMENTRY_INTERRUPTION_INFO_FIELD (lit< tt) refl i;
          code = a.fields VmcsControl32.VMENTRY_EXCEPTION_ERR_CODE (lit< tt) refl i;
          length = a.fields VmcsControl32.VMENTRY_INSTRUCTION_LEN (lit< tt) refl i;
        };
        controls = record {
          pin = a.fields VmcsControl32.PINBASED_EXEC_CONTROLS (lit< tt) refl i;
          primary = (g VmcsControl32.PRIMARY_PROCBASED_EXEC_CONTROLS ∙ exit_primary s.vmcs s.capabilities r z) i;
          secondary = a.fields VmcsControl32.SECONDARY_PROCBASED_EXEC_CONTROLS (lit< tt) refl i;
          exit = a.fields VmcsControl32.VMEXIT_CONTROLS (lit< tt) refl i;
          entry = (g VmcsControl32.VMENTRY_CONTROLS ∙ exit_entry s.vmcs s.capabilities r z (value_of s.vmcs VmcsControl32.VMENTRY_CONTROLS) p (passes s r e f).entry) i;
        };
        error_code = a.code i;
        instruction_length = a.length i;
        cr0 = (g VmcsGuestNW.CR0 ∙ exit_cr0 s.vmcs s.capabilities r z p) i;
        cr0mask = (g VmcsControlNW.CR0_GUEST_HOST_MASK ∙ exit_cr0_mask s.vmcs s.capabilities r z p) i;
        cr4 = (g VmcsGuestNW.CR4 ∙ exit_cr4 s.vmcs s.capabilities r z p) i;
        cr4mask = (g VmcsControlNW.CR4_GUEST_HOST_MASK ∙ exit_cr4_mask s.vmcs s.capabilities r z p) i;
        limits = limits_in (k.capabilities i);
        xcr0 = (ap (λ (x : Xcr0). x.value) a.xcr0 ∙ xcr0_agrees s.xcr0 r) i;
        supported = k.supported i;
      }

  report_accepted : (f : Bool) → bit 31 r.reason ≡ f → report_refusal s r ≡ 0 → Refuses (own_rules (view_of t s) report) 0
      → Stepped t s report (left (answered 0 left_session))
  report_accepted true f e w =
      let k = (report_laws s r).rest in
      quiet t s report left_session fails (record { tally = λ _. refl; pending = λ _. refl; answer = refl }) (λ _ _. rw f) k.queue k.entries k.held
      (failed_words e f ∙ rw f) w
  report_accepted false f e w =
      let k = (report_laws s r).rest in
      quiet t s report left_session exits (record { tally = λ _. refl; pending = λ _. refl; answer = refl }) (λ _ _. rw f) k.queue k.entries k.held
      (exit_words e f ∙ rw f) w

  report_decided : length block ≡ ReportLayout.LENGTH → (y : Bool) → eqb (report_refusal s r) 0 ≡ y
      → Stepped t s report (left (answered (Exit.exit_report s r).refusal left_session))
  report_decided l true e =
      let z = eqb-true _ _ e in
      let y = (report_laws s r).number ∙ z in
      subst (λ (n : ℕ). Stepped t s report (left (answered n left_session))) (sym y)
      (report_accepted (bit 31 r.reason) refl z (subst (Refuses (own_rules (view_of t s) report)) y (report_numbers l)))
  report_decided l false e =
      subst (λ (u : Session). Stepped t s report (left (answered (Exit.exit_report s r).refusal u))) (sym ((report_laws s r).refused e))
      (refuses t s report (Exit.exit_report s r).refusal (ap (λ (n : ℕ). eqb n 0) (report_laws s r).number ∙ e) (report_numbers l))

  report_step : Stepped t s report (session_step s report)
  report_step =
      cond_all (λ (a : Answered). Stepped t s report (left a)) (eqb (length block) ReportLayout.LENGTH) _ _
      (λ y. report_decided (eqb-true _ _ y) (eqb (report_refusal s r) 0) refl) (λ y. refuses t s report 2 refl (inl (eqb-false _ _ y, refl)))

-- ---- every call

pub step : (t : Tally Event) (s : Session) (c : Call) → WellTyped c → Sound s → Stepped t s c (session_step s c)
step t s (setup block a b msr) w h = setup_step t s block a b msr (typed block w) h
step t s (queue_event vector coded code) w h = queue_step_lem t s h vector coded code
step t s (inject_interrupt vector) w h = interrupt_step t s h vector
step t s (entry stack) w h = enter_step t s stack h
step t s (exit_report block) w h = report_step t s block h
step t s (apic_value value) w h = apic_step t s value h
step t s (field_write encoding value) w h = write_step t s encoding value w.1 h
step t s (register_write index value) w h = register_step t s index value h
