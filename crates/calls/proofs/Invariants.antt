-- What holds of the reference along every list of calls: bit 31 of the entry interruption field, launches, one setup, and XCR0. Assumes nothing.
use Prim.Native.Nat.{ℕ, ◌+◌}
use mathlib.Core.Path.{◌≡◌, refl, sym, ap, ◌∙◌, subst}
use mathlib.Core.Bool.{Bool, true, false, cond, not, true≢false}
use mathlib.Core.List.Memᴰ
use mathlib.Core.List.{List, [], ◌∷◌}
use mathlib.Core.Logic.{◌⊎◌, ◌≢◌, inl, inr}
use native.Mathlib.Decide.{ℕ_discrete}
use native.Mathlib.Omega.{arith}
use lib.Dec.{eqb}
use borrow.Author.Tests.{eqb-false, ne_eqb}
use Rattle.bits.specs.Refuses.{Refuses}
use Rattle.bits.specs.Words.{bit}
use Rattle.bits.proofs.Tells.{both_false, cond_all}
use Rattle.vcpu_events.specs.declared.Injection.{Injection}
use Rattle.vcpu_events.specs.declared.Injection.TheVariants.{Held, Written}
use Rattle.vcpu_exit.specs.Xcr0.{xcr0_allowed}
use Rattle.vcpu_exit.specs.declared.Report.{Report}
use Rattle.vcpu_report.proofs.Known.{invalid}
use Rattle.blocks.specs.ReportBlock.{report_of}
use Rattle.calls.specs.Moves.{Move, fails, exits, tallied}
use Rattle.calls.specs.Reference.{Call, setup, queue_event, inject_interrupt, entry, exit_report, apic_value, field_write, register_write, Event, entry_move, answer_on, is_held, awaits_value, Words, in_phase, at_exit, words_by, basic_reason, edx_eax, Xcr0Allowed, exit_rules, choose, Reference, move_on, accept, reference_step, reference_after, Fed, own_rules}
use Rattle.calls.specs.Calls.{writes_field, written}
use Rattle.calls.specs.DemandThree.{Loadable, accepted_setup, NoSetup, OneSetup}
use Rattle.calls.proofs.Choices.{choose_no, choose_all}
use Rattle.calls.proofs.ReportNumbers.{allowed_tells}
use Rattle.calls.proofs.Whole.{Follows}

-- ---- what acceptance says of the phase

-- the first rule, of a number that is not 0, does not apply to an accepted call
passed : {P Q : Type 0} (n : ℕ) → (n ≡ 0 → ⊥) → (P × (0 ≡ n)) ⊎ Q → Q
passed n some (inl x) = absurd (some (sym x.1))
passed n some (inr x) = x

module _ (p : Reference) where
  setup_fresh : (block a b msr : List ℕ) → Refuses (own_rules p (setup block a b msr)) 0 → (p.words.phase ≢ 0) → ⊥
  setup_fresh block a b msr w = (passed 1 (λ e. omega arith) (passed 2 (λ e. omega arith) w).1).0

  pub entry_ready : (stack : ℕ) → Refuses (own_rules p (entry stack)) 0 → (p.words.phase ≢ 1) → ⊥
  entry_ready stack w = (passed 1 (λ e. omega arith) w).0

  report_running : (block : List ℕ) → Refuses (own_rules p (exit_report block)) 0 → (p.words.phase ≢ 2) → ⊥
  report_running block w = (passed 1 (λ e. omega arith) (passed 2 (λ e. omega arith) w).1).0

  apic_waits : (value : ℕ) → Refuses (own_rules p (apic_value value)) 0 → (p.words.phase ≢ 3) → ⊥
  apic_waits value w = (passed 1 (λ e. omega arith) w).0

-- ---- bit 31 of the entry interruption field, without a raw write of it: clear unless the session is running or ended

abbrev pub Clear : Words → Type 0
Clear w = w.phase ≢ 2 → w.phase ≢ 4 → bit 31 w.event.info ≡ false

clear_accepted : (p : Reference) (c : Call) → writes_field 0x4016 c ≡ false → Refuses (own_rules p c) 0 → Clear p.words → Clear (words_by p c)
clear_accepted p (setup block a b msr) n w k =
    λ x y. k (λ e. setup_fresh p block a b msr w (λ z. omega arith)) (λ e. setup_fresh p block a b msr w (λ z. omega arith))
clear_accepted p (queue_event vector coded code) n w k = k
clear_accepted p (inject_interrupt vector) n w k = k
clear_accepted p (entry stack) n w k = λ x y. absurd (x refl)
clear_accepted p (exit_report block) n w k = cond_all Clear (bit 31 (report_of block).reason) _ _ (λ _ x y. absurd (y refl)) (λ _ x y. invalid p.words.event.info)
clear_accepted p (apic_value value) n w k = λ x y. k (λ e. apic_waits p value w (λ z. omega arith)) (λ e. apic_waits p value w (λ z. omega arith))
clear_accepted p (field_write encoding value) n w k = λ x y. ap (bit 31) (choose_no (ℕ_discrete encoding 0x4016) _ _ (eqb-false encoding 0x4016 n)) ∙ k x y
clear_accepted p (register_write index value) n w k = k

clear_step : (p : Reference) (c : Call) (r : Bool) → cond r false (writes_field 0x4016 c) ≡ false → (r ≡ false → Refuses (own_rules p c) 0)
    → Clear p.words → Clear (reference_step p c r).words
clear_step p c true n w k = k
clear_step p c false n w k = clear_accepted p c n (w refl) k

pub clear_after : (p : Reference) (ls : List Fed) → Follows p ls → written 0x4016 ls ≡ false → Clear p.words → Clear (reference_after p ls).words
clear_after p [] f n k = k
clear_after p (l ∷ ls) f n k =
    let b = both_false (cond l.refused false (writes_field 0x4016 l.call)) (written 0x4016 ls) n in
    clear_after (reference_step p l.call l.refused) ls f.1 b.1 (clear_step p l.call l.refused b.0 f.0 k)

-- ---- an entry was accepted exactly where one is counted

abbrev pub Launched : Reference → Type 0
Launched p = p.words.launched ≡ not (eqb p.tally.entries 0)

-- an entry is counted, whatever it does with the front
entry_counts : (p : Reference) (stack : ℕ) → (tallied p.tally (move_on p (entry stack))).entries ≡ p.tally.entries + 1
entry_counts p stack = go p.pending
  where
    go : (w : List Event) → (tallied p.tally (entry_move (answer_on w p.words.interrupt_flag p.words.interruptibility) w)).entries ≡ p.tally.entries + 1
    go [] = refl
    go (e ∷ w) = choose_all (λ (a : Injection). (tallied p.tally (entry_move a (e ∷ w))).entries ≡ p.tally.entries + 1)
        (is_held e.vector p.words.interrupt_flag p.words.interruptibility) Held Written refl refl

launched_accepted : (p : Reference) (c : Call) → Launched p → Launched (accept p c)
launched_accepted p (setup block a b msr) k = k
launched_accepted p (queue_event vector coded code) k = k
launched_accepted p (inject_interrupt vector) k = k
launched_accepted p (entry stack) k = rw (entry_counts p stack, ne_eqb (p.tally.entries + 1) 0 (λ e. omega arith))
launched_accepted p (exit_report block) k = go (bit 31 (report_of block).reason)
  where
    go : (b : Bool) → (cond {A = Words} b (in_phase p.words 4) (at_exit p.words (report_of block))).launched
        ≡ not (eqb (tallied p.tally (cond {A = Move Event} b fails exits)).entries 0)
    go true = k
    go false = k
launched_accepted p (apic_value value) k = k
launched_accepted p (field_write encoding value) k = k
launched_accepted p (register_write index value) k = k

launched_step : (p : Reference) (c : Call) (r : Bool) → Launched p → Launched (reference_step p c r)
launched_step p c true k = k
launched_step p c false k = launched_accepted p c k

pub launched_after : (p : Reference) (ls : List Fed) → Launched p → Launched (reference_after p ls)
launched_after p [] k = k
launched_after p (l ∷ ls) k = launched_after (reference_step p l.call l.refused) ls (launched_step p l.call l.refused k)

-- ---- one setup: the phase never goes back to fresh, and nothing but setup leads on from it

phase_accepted : (p : Reference) (c : Call) → p.words.phase ≢ 0 → (words_by p c).phase ≢ 0
phase_accepted p (setup block a b msr) n = λ e. omega arith
phase_accepted p (queue_event vector coded code) n = n
phase_accepted p (inject_interrupt vector) n = n
phase_accepted p (entry stack) n = λ e. omega arith
phase_accepted p (exit_report block) n =
    cond_all (λ (x : Words). x.phase ≢ 0) (bit 31 (report_of block).reason) _ _ (λ _ e. omega arith)
    (λ _. choose_all (λ (x : ℕ). x ≢ 0) (awaits_value (report_of block)) 3 1 (λ e. omega arith) (λ e. omega arith))
phase_accepted p (apic_value value) n = λ e. omega arith
phase_accepted p (field_write encoding value) n = n
phase_accepted p (register_write index value) n = n

pub phase_step : (p : Reference) (c : Call) (r : Bool) → p.words.phase ≢ 0 → (reference_step p c r).words.phase ≢ 0
phase_step p c true n = n
phase_step p c false n = phase_accepted p c n

none_later_lem : (p : Reference) (ls : List Fed) → Follows p ls → p.words.phase ≢ 0 → NoSetup ls
none_later_lem p [] f n block a c msr m = Memᴰ.not-nil m
none_later_lem p (l ∷ ls) f n block a c msr m =
    elim (Memᴰ.cases_cons m) [
      | inl e ↦
          setup_fresh p block a c msr
          (subst (λ (d : Call). Refuses (own_rules p d) 0) (sym (ap (λ (x : Fed). x.call) e)) (f.0 (sym (ap (λ (x : Fed). x.refused) e)))) n
      | inr x ↦ none_later_lem (reference_step p l.call l.refused) ls f.1 (phase_step p l.call l.refused n) block a c msr x
    ]

-- fresh, with no setup so far, or after exactly one
abbrev SetUp : ℕ → List Fed → Type 0
SetUp phase ls = ((phase ≡ 0) × NoSetup ls) ⊎ OneSetup ls

-- a call that is no accepted setup comes first
abbrev Other : Fed → Type 0
Other l = (block a c msr : List ℕ) → accepted_setup block a c msr ≡ l → ⊥

none_more : (l : Fed) (ls : List Fed) → Other l → NoSetup ls → NoSetup (l ∷ ls)
none_more l ls o n block a c msr m = elim (Memᴰ.cases_cons m) [ inl e ↦ o block a c msr e | inr x ↦ n block a c msr x ]

before_it : (phase : ℕ) (l : Fed) (ls : List Fed) → Other l → SetUp phase ls → SetUp phase (l ∷ ls)
before_it phase l ls o (inl x) = inl (x.0, none_more l ls o x.1)
before_it phase l ls o (inr x) =
    inr (record {
      block = x.block;
      a = x.a;
      c = x.c;
      msr = x.msr;
      before = l ∷ x.before;
      later = x.later;
      all = ap (λ (k : List Fed). l ∷ k) x.all;
      none_before = none_more l x.before o x.none_before;
      none_later = x.none_later;
    })

refused_other : (c : Call) → Other (record { call = c; refused = true })
refused_other c block a b msr e = true≢false (sym (ap (λ (l : Fed). l.refused) e))

-- setup is none of the other calls
apart : (c : Call) → ((block a b msr : List ℕ) → setup block a b msr ≡ c → ◌≡◌ {A = ℕ} 0 1) → Other (record { call = c; refused = false })
apart c n block a b msr e = let z = n block a b msr (ap (λ (l : Fed). l.call) e) in omega arith

set_up_first : (p : Reference) (c : Call) (r : Bool) (ls : List Fed) → p.words.phase ≡ 0 → (r ≡ false → Refuses (own_rules p c) 0) → Follows (reference_step p c r) ls
    → ((reference_step p c r).words.phase ≡ 0 → SetUp (reference_after (reference_step p c r) ls).words.phase ls)
    → SetUp (reference_after (reference_step p c r) ls).words.phase (record { call = c; refused = r } ∷ ls)
set_up_first p c true ls e w f then = before_it _ _ ls (refused_other c) (then e)
set_up_first p (setup block a b msr) false ls e w f then =
    inr (record {
      block = block;
      a = a;
      c = b;
      msr = msr;
      before = [];
      later = ls;
      all = refl;
      none_before = λ _ _ _ _ m. Memᴰ.not-nil m;
      none_later = none_later_lem (accept p (setup block a b msr)) ls f (λ z. omega arith);
    })
set_up_first p (queue_event vector coded code) false ls e w f then = before_it _ _ ls (apart _ (λ _ _ _ _ q. cc)) (then e)
set_up_first p (inject_interrupt vector) false ls e w f then = before_it _ _ ls (apart _ (λ _ _ _ _ q. cc)) (then e)
set_up_first p (entry stack) false ls e w f then = absurd (entry_ready p stack (w refl) (λ z. omega arith))
set_up_first p (exit_report block) false ls e w f then = absurd (report_running p block (w refl) (λ z. omega arith))
set_up_first p (apic_value value) false ls e w f then = absurd (apic_waits p value (w refl) (λ z. omega arith))
set_up_first p (field_write encoding value) false ls e w f then = before_it _ _ ls (apart _ (λ _ _ _ _ q. cc)) (then e)
set_up_first p (register_write index value) false ls e w f then = before_it _ _ ls (apart _ (λ _ _ _ _ q. cc)) (then e)

set_up_after : (p : Reference) (ls : List Fed) → Follows p ls → p.words.phase ≡ 0 → SetUp (reference_after p ls).words.phase ls
set_up_after p [] f e = inl (e, λ block a c msr m. Memᴰ.not-nil m)
set_up_after p (l ∷ ls) f e =
    set_up_first p l.call l.refused ls e f.0 f.1 (set_up_after (reference_step p l.call l.refused) ls f.1)

-- where the phase is not fresh, exactly one setup was accepted
pub one_setup : (p : Reference) (ls : List Fed) → Follows p ls → p.words.phase ≡ 0 → (reference_after p ls).words.phase ≢ 0 → OneSetup ls
one_setup p ls f e n = elim (set_up_after p ls f e) [ inl x ↦ absurd (n x.0) | inr x ↦ x ]

-- ---- XCR0 from setup on: 1, or a value that passes the rule

abbrev Loads : Words → Type 0
Loads w = (w.phase ≡ 0) ⊎ Loadable w

-- the value of an accepted XSETBV passed it
passes : (w : Words) (r : Report) → Refuses (exit_rules w r) 0 → basic_reason r ≡ 55 → Xcr0Allowed w.supported (edx_eax r)
passes w r f e =
    let before = passed 20 (λ z. omega arith) (passed 18 (λ z. omega arith) (passed 16 (λ z. omega arith) (passed 15 (λ z. omega arith) f).1).1).1 in
    let rule = (passed 19 (λ z. omega arith) before.1).0 in
    go (xcr0_allowed w.supported (edx_eax r)) refl rule
  where
    go : (t : Bool) → xcr0_allowed w.supported (edx_eax r) ≡ t → ((basic_reason r ≡ 55) × (Xcr0Allowed w.supported (edx_eax r) → ⊥) → ⊥) → Xcr0Allowed w.supported (edx_eax r)
    go true t n = (allowed_tells w.supported (edx_eax r)).yes_so t
    go false t n = absurd (n (e, (allowed_tells w.supported (edx_eax r)).not_so t))

-- a session that is not fresh
not_fresh : (w : Words) → (w.phase ≡ 0 → ⊥) → Loads w → Loadable w
not_fresh w n (inl e) = absurd (n e)
not_fresh w n (inr l) = l

exit_loads : (w : Words) (r : Report) → Refuses (exit_rules w r) 0 → Loadable w → Loadable (at_exit w r)
exit_loads w r f k = go (ℕ_discrete (basic_reason r) 55)
  where
    go : (d : Dec (basic_reason r ≡ 55)) → (choose d (edx_eax r) w.xcr0 ≡ 1) ⊎ Xcr0Allowed w.supported (choose d (edx_eax r) w.xcr0)
    go (yes e) = inr (passes w r f e)
    go (no n) = k

loads_accepted : (p : Reference) (c : Call) → Refuses (own_rules p c) 0 → Loads p.words → Loads (words_by p c)
loads_accepted p (setup block a b msr) w k = inr (inl refl)
loads_accepted p (queue_event vector coded code) w k = k
loads_accepted p (inject_interrupt vector) w k = k
loads_accepted p (entry stack) w k = inr (not_fresh p.words (λ e. entry_ready p stack w (λ z. omega arith)) k)
loads_accepted p (exit_report block) w k = inr (go (bit 31 (report_of block).reason) (passed 14 (λ z. omega arith) (passed 1 (λ z. omega arith) (passed 2 (λ z. omega arith) w).1).1).1)
  where
    old : Loadable p.words
    old = not_fresh p.words (λ e. report_running p block w (λ z. omega arith)) k

    go : (f : Bool) → Refuses (cond f [] (exit_rules p.words (report_of block))) 0
        → Loadable (cond {A = Words} f (in_phase p.words 4) (at_exit p.words (report_of block)))
    go true n = old
    go false n = exit_loads p.words (report_of block) n old
loads_accepted p (apic_value value) w k = inr (not_fresh p.words (λ e. apic_waits p value w (λ z. omega arith)) k)
loads_accepted p (field_write encoding value) w k = k
loads_accepted p (register_write index value) w k = k

loads_step : (p : Reference) (c : Call) (r : Bool) → (r ≡ false → Refuses (own_rules p c) 0) → Loads p.words → Loads (reference_step p c r).words
loads_step p c true w k = k
loads_step p c false w k = loads_accepted p c (w refl) k

loads_after : (p : Reference) (ls : List Fed) → Follows p ls → Loads p.words → Loads (reference_after p ls).words
loads_after p [] f k = k
loads_after p (l ∷ ls) f k = loads_after (reference_step p l.call l.refused) ls f.1 (loads_step p l.call l.refused f.0 k)

-- where the phase is not fresh
pub loadable_after : (p : Reference) (ls : List Fed) → Follows p ls → p.words.phase ≡ 0 → ((reference_after p ls).words.phase ≡ 0 → ⊥) → Loadable (reference_after p ls).words
loadable_after p ls f e n = not_fresh (reference_after p ls).words n (loads_after p ls f (inl e))
