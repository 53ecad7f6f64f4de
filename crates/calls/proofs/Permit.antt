-- The five control words, CR0 and CR4 over a list of calls with no accepted raw write of them: what the words of the accepted setup call permit. Assumes nothing.
use Prim.Native.Nat.{ℕ, zero, suc, ◌<◌}
use mathlib.Core.Path.{◌≡◌, refl, sym, ap, ◌∙◌, subst}
use mathlib.Core.Bool.{Bool, true, false, cond, not, true≢false}
use mathlib.Core.List.Memᴰ
use mathlib.Core.List.{List, [], ◌∷◌, map, Memᴰ}
use mathlib.Core.Logic.{◌≢◌, inl, inr}
use native.Mathlib.Omega.{arith}
use lib.Dec.{T, eqb, leb, ltb, ltb→lt, lit<}
use borrow.Author.Tests.{eqb-true, eqb-false, leb-false}
use Rattle.bits.specs.Words.{bit, Within}
use Rattle.bits.proofs.BitLaws.{bit_of_zero}
use Rattle.bits.proofs.Tells.{both_false, cond_all}
use Rattle.bits.proofs.WordLaws.{and_l, and_r}
use Rattle.regs.specs.Registers.{with_reg_of_index}
use Rattle.regs.specs.Registers.{RegWritten}
use Rattle.vmcs.specs.Control.{pair_at}
use Rattle.vmcs.specs.Cr.{first_cr0}
use Rattle.vmcs.specs.Field.{Field, put}
use Rattle.vmcs.specs.Fields.{position_of, field_at, field_of, greatest_of, read_only, vmcs_write}
use Rattle.vmcs.specs.Named.{named, encodings}
use Rattle.vmcs.specs.Names.VmcsControl32 as VmcsControl32
use Rattle.vmcs.specs.Names.VmcsControlNW as VmcsControlNW
use Rattle.vmcs.specs.Names.VmcsGuestNW as VmcsGuestNW
use Rattle.vmcs.specs.Writes.{◌≔◌}
use Rattle.vmcs.specs.declared.Vmcs.{Vmcs}
use Rattle.vmcs.specs.Fields.{Written as FieldsWritten}
use Rattle.vcpu_session.specs.Session.{LAST_ENTRY, is_unlawful}
use Rattle.vcpu_session.specs.declared.Capabilities.{Capabilities}
use Rattle.vcpu_session.specs.declared.Session.{Session}
use Rattle.vcpu_events.specs.Queue as Queue
use Rattle.vcpu_events.specs.Queue.{front_of}
use Rattle.vcpu_events.specs.Entry as Entry
use Rattle.vcpu_events.specs.Entry.{injection_of, after_entry, vmcs_after, with_stack, window_word, window_set}
use Rattle.vcpu_events.specs.Queue.{Answered}
use Rattle.vcpu_events.specs.Entry.{Entered}
use Rattle.vcpu_events.specs.declared.Injection.{Injection}
use Rattle.vcpu_events.specs.declared.Injection.TheVariants.{Empty, Held, Written}
use Rattle.vcpu_events.specs.Access as Access
use Rattle.vcpu_events.specs.Access.{fields_written, registers_written}
use Rattle.vcpu_setup.specs.Capability.{pairs_of, capabilities_of}
use Rattle.vcpu_setup.specs.Setup.{consistent, setup_refusal, setup_of}
use Rattle.vcpu_setup.specs.Writes.{setup_writes}
use Rattle.vcpu_setup.specs.declared.Arguments.{Arguments}
use Rattle.vcpu_setup.specs.declared.CapabilityMsrs.{CapabilityMsrs}
use Rattle.vcpu_setup.specs.Laws.{Typed, SetUp}
use Rattle.vcpu_setup.proofs.SetupLaws.{passed, setup_number, set_up_lem}
use Rattle.blocks.specs.SetupBlock.{arguments_of, msrs_of}
use Rattle.call_specs.specs.Records.{queue_step}
use Rattle.vcpu_exit.specs.declared.Report.{Report}
use Rattle.vcpu_report.specs.ExitReport as Exit
use Rattle.blocks.specs.ReportBlock as Report
use Rattle.blocks.specs.ReportBlock.{report_of}
use Rattle.vcpu_report.proofs.ReportLaws.{report_laws}
use Rattle.calls.specs.Reference as Reference
use Rattle.calls.specs.Reference.{Call, setup, queue_event, inject_interrupt, entry, exit_report, apic_value, field_write, register_write, WellTyped, AllWellTyped, Limits, limits_of, Reference, Fed}
use Rattle.calls.specs.Moves.{begun}
use Rattle.calls.specs.Calls.{limits_in, is_refused, fed, writes_field, written}
use Rattle.calls.specs.DemandThree as Demand
use Rattle.calls.specs.DemandThree.{Unwritten, Permits}
use Rattle.calls.proofs.RawWrites.{other_field}
use Rattle.calls.proofs.Fields.{stack_keeps, injection_keeps}
use Rattle.calls.proofs.Sessions.{has_buffers, next, session_after, session_logged, session_log, Sound, sound_sized, view_of}
use Rattle.calls.proofs.SetupNumbers.{consistent_of, same_limits}
use Rattle.calls.proofs.SetupFits.{typed}
use Rattle.calls.proofs.ReportFits.{FitsReport, block_fits}
use Rattle.calls.proofs.Fits.{sound_step}
use Rattle.calls.proofs.Steps.{step, block_msrs}
use Rattle.calls.proofs.Whole.{accepts}
use Rattle.calls.proofs.Invariants.{phase_step}
use Rattle.vcpu_report.specs.Invariant.{Consistent, AllPermitted, SoundFields}
use Rattle.vcpu_report.specs.Laws.{one_of}
use Rattle.vcpu_report.proofs.Steps.{judged_fields, every, kept_by, kept_other}
use Rattle.vcpu_report.proofs.Kept.{owned_cr0, owned_cr4}
use Rattle.vcpu_report.proofs.Words.{aside_of, aside_set, sound_permitted}

-- ---- what writes none of the judged fields

-- g is none of the fields of a list
abbrev NoneOf : List Field → Field → Type 0
NoneOf fs g = T (every (λ f. not (one_of (g ∷ []) f)) fs)

abbrev listed : ℕ → Bool
listed x = ltb (position_of encodings x) 154

-- the encodings are listed, and lead to the fields that the invariant reads
judged_fields_lem : T (every listed Demand.judged_fields) × (map field_of Demand.judged_fields ≡ judged_fields)
unfolding encodings named field_at
judged_fields_lem = (tt, refl)

raw_other : (e : ℕ) → position_of encodings e < 154 → (xs : List ℕ) → T (every listed xs) → ((x : ℕ) → Memᴰ x xs → e ≢ x)
    → NoneOf (map field_of xs) (field_of e)
raw_other e h [] l n = tt
raw_other e h (x ∷ xs) l n =
    rw (other_field e x h (ltb→lt _ _ (and_l (listed x) (every listed xs) l)) (n x (Memᴰ.head refl)))
    (raw_other e h xs (and_r (listed x) (every listed xs) l) (λ y m. n y (Memᴰ.tail m)))

module _ (c : Capabilities) where
  put_kept_lem : (v : Vmcs) (g : Field) (x : ℕ) → NoneOf judged_fields g → SoundFields c v → SoundFields c (put v g x)
  put_kept_lem v g x o k = kept_other c (g ≔ x ∷ []) v o k

  raw_kept : (v : Vmcs) (e x : ℕ) → position_of encodings e < 154 → ((y : ℕ) → Memᴰ y Demand.judged_fields → e ≢ y) → SoundFields c v
      → SoundFields c (put v (field_of e) x)
  raw_kept v e x h n k =
      put_kept_lem v (field_of e) x (subst (λ fs. NoneOf fs (field_of e)) judged_fields_lem.1 (raw_other e h Demand.judged_fields judged_fields_lem.0 n)) k

  -- the window: only the primary controls
  window_kept : (v : Vmcs) → SoundFields c v → SoundFields c (window_set v true)
  unfolding window_set
  window_kept v k =
      kept_by c (VmcsControl32.PRIMARY_PROCBASED_EXEC_CONTROLS ≔ window_word v true ∷ []) v k.sized (search (aside_set 2 _ _ _ k.words.primary))

  entry_kept : (v : Vmcs) (launched : Bool) (stack : ℕ) (e : Queue.Event) (a : Injection) → SoundFields c v
      → SoundFields c (vmcs_after (with_stack v launched stack) e a)
  unfolding vmcs_after
  entry_kept v launched stack e a k = go a (stack_keeps (SoundFields c) (NoneOf judged_fields) put_kept_lem v launched stack tt k)
    where
      go : (a : Injection) → SoundFields c (with_stack v launched stack) → SoundFields c (vmcs_after (with_stack v launched stack) e a)
      go Empty k = k
      go Held k = window_kept _ k
      go Written k = injection_keeps (SoundFields c) (NoneOf judged_fields) put_kept_lem _ e tt tt tt k

-- ---- what holds from setup on

pub record Kept (c : Capabilities) (s : Session) : Type 0 where
  pub consistent : Consistent c
  pub capabilities : s.capabilities ≡ c
  pub fields : SoundFields c s.vmcs

module _ (c : Capabilities) where
  abbrev Leaves : Answered → Type 0
  Leaves a = Kept c a.session

  -- a session with these capabilities and fields
  with_fields : (s t : Session) → t.capabilities ≡ s.capabilities → SoundFields c t.vmcs → Kept c s → Kept c t
  with_fields s t e f k = record { consistent = k.consistent; capabilities = e ∙ k.capabilities; fields = f }

  pub enter_kept : (s : Session) (stack : ℕ) → Kept c s → Kept c (Entry.entry s stack).session
  unfolding Entry.entry after_entry
  enter_kept s stack k =
      cond_all P (is_unlawful s) _ _ (λ _. k)
      (λ _. cond_all P (not (eqb s.progress.phase 1)) _ _ (λ _. k)
      (λ _. cond_all P (eqb s.progress.entries LAST_ENTRY) _ _ (λ _. k)
      (λ _. with_fields s _ refl (entry_kept c s.vmcs s.progress.launched stack (front_of s.queue) (injection_of s.queue s.vmcs) k.fields) k)))
    where
      P : Entered → Type 0
      P a = Kept c a.session

  queue_kept : (s : Session) (e : Queue.Event) → Kept c s → Kept c (Queue.queue_event s e).session
  unfolding Queue.queue_event
  queue_kept s e k =
      cond_all Leaves (is_unlawful s) _ _ (λ _. k)
      (λ _. cond_all Leaves (eqb s.progress.phase 4) _ _ (λ _. k)
      (λ _. cond_all Leaves (leb 64 s.queue.waiting) _ _ (λ _. k) (λ _. with_fields s _ refl k.fields k)))

  report_kept : (s : Session) (r : Report) → Kept c s → FitsReport r → Kept c (Exit.exit_report s r).session
  report_kept s r k w =
      let laws = report_laws s r in
      let e = laws.rest.capabilities in
      with_fields s _ e
      (rw (e ∙ k.capabilities) at
      (laws.sound (rw k.capabilities k.consistent) (record { cr0 = w.cr0; cr4 = w.cr4 }) (rw k.capabilities k.fields))) k

  -- a call on a session that is set up
  step_kept : (s : Session) (d : Call) → WellTyped d → s.progress.phase ≢ 0
      → ((x : ℕ) → Memᴰ x Demand.judged_fields → cond (is_refused (session_logged s d).refusal) false (writes_field x d) ≡ false) → Kept c s → Kept c (next s d)
  unfolding queue_step Queue.inject_interrupt Access.apic_value Access.write_field Access.set_register vmcs_write with_reg_of_index setup_of
  step_kept s (setup block a b msr) w f n k =
      let x = arguments_of block in
      cond_all Leaves (has_buffers block a b msr) _ _
      (λ _. cond_all Leaves (eqb (setup_refusal s (capabilities_of x.msrs) x.features) 0) _ _
      (λ t. absurd (f (eqb-true _ _ (passed s (capabilities_of x.msrs) x.features (eqb-true _ _ t)).1))) (λ _. k)) (λ _. k)
  step_kept s (queue_event vector coded code) w f n k = cond_all Leaves (ltb 1 coded) _ _ (λ _. k) (λ _. queue_kept s _ k)
  step_kept s (inject_interrupt vector) w f n k =
      cond_all Leaves (is_unlawful s) _ _ (λ _. k)
      (λ _. cond_all Leaves (eqb s.progress.phase 4) _ _ (λ _. k)
      (λ _. cond_all Leaves (eqb vector 0) _ _ (λ _. k) (λ _. cond_all Leaves (ltb 255 vector) _ _ (λ _. k) (λ _. queue_kept s _ k))))
  step_kept s (entry stack) w f n k = enter_kept s stack k
  step_kept s (exit_report block) w f n k =
      cond_all Leaves (Report.block_accepted block) _ _ (λ _. report_kept s (report_of block) k (block_fits block w)) (λ _. k)
  step_kept s (apic_value value) w f n k =
      cond_all Leaves (is_unlawful s) _ _ (λ _. k) (λ _. cond_all Leaves (not (eqb s.progress.phase 3)) _ _ (λ _. k) (λ _. with_fields s _ refl k.fields k))
  step_kept s (field_write e v) w f n k =
      (cond_all P (is_unlawful s) _ _ (λ _ _. k)
      (λ _. cond_all Q (leb 154 (position_of encodings e)) _ _ (λ _ _. k)
      (λ t. cond_all Q (read_only e) _ _ (λ _ _. k)
      (λ _. cond_all Q (ltb (greatest_of e) v) _ _ (λ _ _. k)
      (λ _ n. with_fields s _ refl
      (raw_kept c s.vmcs e v (leb-false 154 (position_of encodings e) t) (λ x m. eqb-false e x (n x m)) k.fields) k))))) n
    where
      P : Answered → Type 0
      P a = ((x : ℕ) → Memᴰ x Demand.judged_fields → cond (is_refused a.refusal) false (eqb e x) ≡ false) → Leaves a

      Q : FieldsWritten → Type 0
      Q a = P (fields_written s a)
  step_kept s (register_write i v) w f n k =
      cond_all Leaves (is_unlawful s) _ _ (λ _. k) (λ _. cond_all Q (ltb 15 i) _ _ (λ _. k)
      (λ _. cond_all Q (eqb i 4) _ _ (λ _. k) (λ _. with_fields s _ refl k.fields k)))
    where
      Q : RegWritten → Type 0
      Q a = Leaves (registers_written s a)

-- ---- a list of calls

-- none of these fields is written
abbrev Free : List Fed → Type 0
Free ls = (x : ℕ) → Memᴰ x Demand.judged_fields → written x ls ≡ false

pub unwritten_at : (xs : List ℕ) (ls : List Fed) → Unwritten xs ls → (x : ℕ) → Memᴰ x xs → written x ls ≡ false
unwritten_at [] ls u x m = absurd (Memᴰ.not-nil m)
unwritten_at (y ∷ ys) ls u x m =
    elim (Memᴰ.cases_cons m) [ inl e ↦ subst (λ (z : ℕ). written z ls ≡ false) (sym e) u.0 | inr t ↦ unwritten_at ys ls u.1 x t ]

split_free : (s : Session) (c : Call) (cs : List Call) → Free (fed (session_log s (c ∷ cs))) → (x : ℕ) → Memᴰ x Demand.judged_fields
    → (cond (is_refused (session_logged s c).refusal) false (writes_field x c) ≡ false) × (written x (fed (session_log (next s c) cs)) ≡ false)
split_free s c cs n x m = both_false (cond (is_refused (session_logged s c).refusal) false (writes_field x c)) (written x (fed (session_log (next s c) cs))) (n x m)

kept_after : (p : Capabilities) (s : Session) (cs : List Call) → AllWellTyped cs → Sound s → s.progress.phase ≢ 0 → Free (fed (session_log s cs)) → Kept p s
    → Kept p (session_after s cs)
kept_after p s [] w h f n k = k
kept_after p s (c ∷ cs) w h f n k =
    kept_after p (next s c) cs w.1 (sound_step s c w.0 h)
    (λ e. phase_step (view_of begun s) c (is_refused (session_logged s c).refusal) f (sym (ap (λ (r : Reference). r.words.phase) (step begun s c w.0 h).state) ∙ e))
    (λ x m. (split_free s c cs n x m).1) (step_kept p s c w.0 f (λ x m. (split_free s c cs n x m).0) k)

-- ---- an accepted setup

-- what acceptance says of the words
consistent_kept : (m : CapabilityMsrs) → Typed m → consistent (capabilities_of m) ≡ true → Consistent (capabilities_of m)
consistent_kept m fixed e =
    let c = consistent_of (capabilities_of m) e in
    record {
      pairs = each c;
      cr0 = c.cr0;
      cr4 = c.cr4;
      primary_fits = omega arith;
      cr0_fits = fixed.cr0fixed1;
      cr4_fits = fixed.cr4fixed1;
    }
  where
    each : Reference.Consistent (limits_in (capabilities_of m)) → (k : ℕ) → k < 5 → Within (pair_at (pairs_of m) k).allowed0 (pair_at (pairs_of m) k).allowed1
    each c zero h = c.pin
    each c (suc zero) h = c.primary
    each c (suc (suc zero)) h = c.secondary
    each c (suc (suc (suc zero))) h = c.exit
    each c (suc (suc (suc (suc zero)))) h = c.entry
    each c (suc (suc (suc (suc (suc k))))) h = absurd (omega arith)

set_up_kept : (s t : Session) (x : Arguments) → Consistent (capabilities_of x.msrs) → SetUp s x t → Kept (capabilities_of x.msrs) t
unfolding setup_writes
set_up_kept s t x ok u =
    let w = u.words.permitted in
    let p = capabilities_of x.msrs in
    record {
      consistent = ok;
      capabilities = u.capabilities;
      fields = record {
        sized = u.sized;
        words = record {
          pin = w 0 (lit< tt);
          primary = aside_of 2 _ _ _ (w 1 (lit< tt));
          secondary = w 2 (lit< tt);
          exit = w 3 (lit< tt);
          entry = w 4 (lit< tt);
          cr0 = rw (u.fields VmcsGuestNW.CR0 (lit< tt), u.fields VmcsControlNW.CR0_GUEST_HOST_MASK (lit< tt)) (owned_cr0 p ok first_cr0);
          cr4 = rw (u.fields VmcsGuestNW.CR4 (lit< tt), u.fields VmcsControlNW.CR4_GUEST_HOST_MASK (lit< tt)) (owned_cr4 p ok 0x2000);
        };
      };
    }

setup_kept : (s : Session) (block a b msr : List ℕ) → WellTyped (setup block a b msr) → Sound s
    → is_refused (session_logged s (setup block a b msr)).refusal ≡ false
    → Kept (capabilities_of (msrs_of block)) (next s (setup block a b msr)) × ((next s (setup block a b msr)).progress.phase ≢ 0)
setup_kept s block a b msr w h =
    cond_all P (has_buffers block a b msr) _ _
    (λ _ r.
    let x = arguments_of block in
    let fixed : Typed x.msrs = rw (block_msrs block) (typed block w) in
    let z = accepts _ r in
    let u = set_up_lem s x (sound_sized s h) fixed z in
    let p = passed s (capabilities_of x.msrs) x.features (sym (setup_number s x) ∙ z) in
    let ok = consistent_kept x.msrs fixed p.2 in (
      subst (λ (m : CapabilityMsrs). Kept (capabilities_of m) (setup_of s x).session) (block_msrs block) (set_up_kept s (setup_of s x).session x ok u),
      λ e. omega
          (arith, u.phase),
    ))
    (λ _ r. absurd (true≢false r))
  where
    P : Answered → Type 0
    P r = is_refused r.refusal ≡ false → Kept (capabilities_of (msrs_of block)) r.session × (r.session.progress.phase ≢ 0)

pub permits_since : (block a b msr : List ℕ) (s : Session) (cs : List Call) → AllWellTyped cs → Sound s → Free (fed (session_log s cs))
    → Memᴰ (record { call = setup block a b msr; refused = false }) (fed (session_log s cs)) → Kept (capabilities_of (msrs_of block)) (session_after s cs)
permits_since block a b msr s [] w h n m = absurd (Memᴰ.not-nil m)
permits_since block a b msr s (c ∷ cs) w h n m =
    let k = sound_step s c w.0 h in
    elim (Memᴰ.cases_cons m) [
      | inl e ↦
          (let p = subst (λ (d : Call). WellTyped d → is_refused (session_logged s d).refusal ≡ false → Kept (capabilities_of (msrs_of block)) (next s d) ×
          ((next s d).progress.phase ≢ 0))
          (ap (λ (l : Fed). l.call) e) (λ u r. setup_kept s block a b msr u h r) w.0 (sym (ap (λ (l : Fed). l.refused) e)) in
          kept_after (capabilities_of (msrs_of block)) (next s c) cs w.1 k p.1 (λ x m. (split_free s c cs n x m).1) p.0)
      | inr t ↦ permits_since block a b msr (next s c) cs w.1 k (λ x m. (split_free s c cs n x m).1) t
    ]

-- ---- what is claimed

no_bit : (i : ℕ) → T (bit i 0) → ⊥
no_bit i t = rw (bit_of_zero i) at t

-- the core's claim over what it keeps is the claim over the limits
permits_of : (c : Capabilities) (v : Vmcs) → AllPermitted c v → Permits (limits_in c) v
permits_of c v a =
    record {
      pin = a.pin;
      primary_must = a.primary.required;
      primary_may = a.primary.allowed;
      window = a.window;
      secondary = a.secondary;
      exit = a.exit;
      entry = a.entry;
      cr0 = a.cr0;
      cr4 = record { required = record { has = λ i t. a.cr4.required i t (no_bit i) }; allowed = a.cr4.allowed };
    }

pub kept_permits : (block : List ℕ) (s : Session) → Kept (capabilities_of (msrs_of block)) s → Permits (limits_of block) s.vmcs
kept_permits block s k =
    let c = capabilities_of (msrs_of block) in
    subst (λ (l : Limits). Permits l s.vmcs) (same_limits block) (permits_of c s.vmcs (sound_permitted c s.vmcs k.consistent k.fields.words))
