-- The control words, CR0 and CR4 stay permitted over an accepted exit. Assumes nothing.
use mathlib.Core.Path.{◌≡◌, refl, sym}
use mathlib.Core.Bool.{Bool, true, false, cond, not, ◌&&◌, ◌||◌, true≢false}
use mathlib.Core.List.{[], ◌∷◌}
use Prim.Native.Nat.{ℕ, ◌+◌, ◌<◌, ◌/◌, ◌%◌, ◌^◌}
use native.Mathlib.Omega.{arith}
use lib.Bits.{bit_and, bit_or, and_le_l}
use lib.Dec.{T, eqb}
use borrow.Author.Tests.{eqb-true, eqb-false, eq-eqb}
use Rattle.bits.specs.Words.{bit, bit_not, Within}
use Rattle.bits.proofs.WordLaws.{words, within_pow}
use Rattle.bits.proofs.Tells.{cond_all}
use Rattle.definitions.specs.VmxExitReason as VmxExitReason
use Rattle.vmcs.specs.Cr.{cr0_free, cr0_off, cr_words, cr0_words, cr4_words, cr0_writes, cr4_writes}
use Rattle.vmcs.specs.Efer.{is_long_mode, lacks_ia32e, long_mode_efer, long_mode_entry, efer_update, update_efer}
use Rattle.vmcs.specs.Field.{value_of}
use Rattle.vmcs.specs.Flags.Cr0Flags as Cr0Flags
use Rattle.vmcs.specs.Names.VmcsControl32 as VmcsControl32
use Rattle.vmcs.specs.Names.VmcsControlNW as VmcsControlNW
use Rattle.vmcs.specs.Names.VmcsGuest32 as VmcsGuest32
use Rattle.vmcs.specs.Names.VmcsGuestNW as VmcsGuestNW
use Rattle.vmcs.specs.Writes.{◌≔◌}
use Rattle.vmcs.specs.declared.Vmcs.{Vmcs}
use Rattle.vmcs.specs.Efer.{EferUpdate}
use Rattle.vmcs.specs.declared.controls.Pair.{Pair}
use Rattle.vmcs.proofs.ControlLaws.{control_permitted}
use Rattle.vcpu_session.specs.declared.Capabilities.{Capabilities}
use Rattle.vcpu_session.specs.Session.{VMX_PREEMPTION_TIMER_SET_VALUE}
use Rattle.vcpu_exit.specs.Reading.{reason_of, moved_value, is_move_to, turns_paging_on, advance_of}
use Rattle.vcpu_exit.specs.Refusal.{owned_bits_differ, other_access, efer_refusal, entry_pair}
use Rattle.vcpu_exit.specs.declared.Report.{Report}
use Rattle.vcpu_events.specs.Entry.{window_word, window_set}
use Rattle.vcpu_report.specs.Handlers.{report_writes, stored, timer_set, cr0_set, cr4_set, efer_writes, efer_updated, handled, rip_advanced, vmcs_after, failure_writes, failure_stored}
use Rattle.vcpu_report.specs.Invariant.{Consistent, PermittedBy, Owned, SoundFields, Fits}
use Rattle.vcpu_report.proofs.Steps.{by_move, by_reason, kept_by, kept_other}
use Rattle.vcpu_report.proofs.Words.{aside_clear, agreed, moved_to}

-- ---- tests

both_same : (a b : Bool) → (not a || not b) ≡ false → (a ≡ true) × (b ≡ true)
both_same true true e = (refl, refl)
both_same true false e = absurd (true≢false e)
both_same false b e = absurd (true≢false e)

-- a move, and not to CR4, is to CR0
move_zero : (a x y : Bool) → a ≡ true → y ≡ false → (a && not (x || y)) ≡ false → x ≡ true
move_zero true true y p n e = refl
move_zero true false true p n e = absurd (true≢false n)
move_zero true false false p n e = absurd (true≢false e)
move_zero false x y p n e = absurd (true≢false (sym p))

-- a digit that is not 0 is 1
one : (a k : ℕ) → eqb (a / 2 ^ k % 2) 0 ≡ false → T (bit k a)
one a k e =
    let n : (a / 2 ^ k % 2 ≡ 0) → ⊥ = eqb-false (a / 2 ^ k % 2) 0 e in
    rw (eq-eqb (a / 2 ^ k % 2) 1 (omega arith)) tt

-- ---- EFER and the entry controls

-- where paging may be turned on, the pair allows entry bit 9 or long mode is on already
may_follow : (pair : Pair) (entry : ℕ) (r : Report) → efer_refusal pair entry r ≡ 0 → turns_paging_on r ≡ true → is_long_mode r.efer ≡ false
    → lacks_ia32e pair.allowed1 ≡ false
unfolding efer_refusal update_efer
may_follow pair entry r e p n = go (lacks_ia32e pair.allowed1) refl (rw (p, n) at e)
  where
    go : (b : Bool) → lacks_ia32e pair.allowed1 ≡ b
        → (cond (lacks_ia32e pair.allowed1) (efer_update 8 r.efer entry) (efer_update 0 (long_mode_efer r.efer) (long_mode_entry pair entry))).refusal ≡ 0
        → lacks_ia32e pair.allowed1 ≡ false
    go true b z = absurd (let y : ◌≡◌ {A = ℕ} 8 0 = rw b at z in omega arith)
    go false b z = b

has_ia32e : (allowed1 : ℕ) → lacks_ia32e allowed1 ≡ false → T (bit 9 allowed1)
unfolding lacks_ia32e
has_ia32e allowed1 l = one allowed1 9 l

-- the entry word stays permitted
efer_entry : (pair : Pair) (efer entry : ℕ) → Within pair.allowed0 pair.allowed1 → (is_long_mode efer ≡ false → lacks_ia32e pair.allowed1 ≡ false)
    → PermittedBy pair entry → PermittedBy pair (update_efer pair efer entry).entry
unfolding update_efer
efer_entry pair efer entry within follow p =
    cond_all P (is_long_mode efer) _ _ (λ _. p)
    (λ n.
    cond_all P (lacks_ia32e pair.allowed1) _ _ (λ _. p)
    (λ l. control_permitted 32 pair.allowed0 pair.allowed1 entry 0x200 0 within (within_pow 9 pair.allowed1 (has_ia32e pair.allowed1 l))))
  where
    P : EferUpdate → Type 0
    P u = PermittedBy pair u.entry

-- ---- step by step

module _ (c : Capabilities) (ok : Consistent c) where
  kept_window : (u : Vmcs) → SoundFields c u → SoundFields c (window_set u false)
  unfolding window_set
  kept_window u k =
      kept_by c (VmcsControl32.PRIMARY_PROCBASED_EXEC_CONTROLS ≔ window_word u false ∷ []) u k.sized
      (search (aside_clear 32 2 _ _ (value_of u VmcsControl32.PRIMARY_PROCBASED_EXEC_CONTROLS) ok.primary_fits (omega arith) k.words.primary))

  kept_timer : (u : Vmcs) → SoundFields c u → SoundFields c (timer_set u)
  unfolding timer_set
  kept_timer u k = kept_other c (VmcsGuest32.VMX_PREEMPTION_TIMER_VALUE ≔ VMX_PREEMPTION_TIMER_SET_VALUE ∷ []) u tt k

  kept_efer : (u : Vmcs) (efer : ℕ) → (is_long_mode efer ≡ false → lacks_ia32e (entry_pair c).allowed1 ≡ false) → SoundFields c u
      → SoundFields c (efer_updated u (entry_pair c) efer)
  unfolding efer_updated
  kept_efer u efer follow k =
      kept_by c (efer_writes (update_efer (entry_pair c) efer (value_of u VmcsControl32.VMENTRY_CONTROLS))) u k.sized
      (search (efer_entry (entry_pair c) efer (value_of u VmcsControl32.VMENTRY_CONTROLS) (ok.pairs 4 (omega arith)) follow k.words.entry))

  -- CR0: what may be 1, what must be 1
  abbrev may0 : ℕ
  may0 = bit_and c.cr0.fixed1 (bit_not 64 cr0_off)

  abbrev must0 : ℕ
  must0 = bit_and c.cr0.fixed0 (bit_not 64 cr0_free)

  fits0 : may0 < 2 ^ 64
  fits0 = omega (arith, and_le_l c.cr0.fixed1 (bit_not 64 cr0_off), ok.cr0_fits)

  within_may0 : Within may0 c.cr0.fixed1
  within_may0 = search words

  within_must0 : Within must0 c.cr0.fixed1
  within_must0 = let w = ok.cr0 in search words

  within_may4 : Within c.cr4.fixed1 c.cr4.fixed1
  within_may4 = search words

  -- what a move leaves in a control register and in its mask
  pub owned_cr0 : (val : ℕ) → Owned may0 must0 c.cr0.fixed1 (cr_words may0 must0 val).value (cr_words may0 must0 val).mask
  owned_cr0 val = moved_to may0 must0 c.cr0.fixed1 fits0 within_may0 within_must0 val

  pub owned_cr4 : (val : ℕ) → Owned c.cr4.fixed1 c.cr4.fixed0 c.cr4.fixed1
      (cr_words c.cr4.fixed1 c.cr4.fixed0 val).value (cr_words c.cr4.fixed1 c.cr4.fixed0 val).mask
  owned_cr4 val = moved_to c.cr4.fixed1 c.cr4.fixed0 c.cr4.fixed1 ok.cr4_fits within_may4 ok.cr4 val

  kept_cr0 : (u : Vmcs) (val : ℕ) → SoundFields c u → SoundFields c (cr0_set u c.cr0 val)
  unfolding cr0_set
  kept_cr0 u val k = kept_by c (cr0_writes (cr0_words c.cr0.fixed0 c.cr0.fixed1 val)) u k.sized (search (owned_cr0 val))

  kept_cr4 : (u : Vmcs) (val : ℕ) → SoundFields c u → SoundFields c (cr4_set u c.cr4 val)
  unfolding cr4_set
  kept_cr4 u val k = kept_by c (cr4_writes (cr4_words c.cr4.fixed0 c.cr4.fixed1 val)) u k.sized (search (owned_cr4 (bit_or val 0x2000)))

  -- 15 has passed: CR0 and CR4 agree with what was there under the masks
  kept_stored : (v : Vmcs) (r : Report) → Fits r → owned_bits_differ v r ≡ false → SoundFields c v → SoundFields c (stored v r)
  unfolding stored owned_bits_differ
  kept_stored v r fits e k =
      let m0 = value_of v VmcsControlNW.CR0_GUEST_HOST_MASK in
      let m4 = value_of v VmcsControlNW.CR4_GUEST_HOST_MASK in
      let same = both_same (eqb (bit_and r.cr0 m0) (bit_and (value_of v VmcsGuestNW.CR0) m0)) (eqb (bit_and r.cr4 m4) (bit_and (value_of v VmcsGuestNW.CR4) m4)) e in
      kept_by c (report_writes v r) v k.sized
      (search (
        agreed may0 must0 c.cr0.fixed1 fits0 within_may0 within_must0 (value_of v VmcsGuestNW.CR0) r.cr0 m0 fits.cr0
            (eqb-true _ _ same.0) k.words.cr0,
        agreed c.cr4.fixed1 c.cr4.fixed0 c.cr4.fixed1 ok.cr4_fits within_may4 ok.cr4 (value_of v VmcsGuestNW.CR4) r.cr4 m4
            fits.cr4 (eqb-true _ _ same.1) k.words.cr4,
      ))

  -- 18 and 8 have passed: a move to CR0 with PG can be followed
  follows : (entry : ℕ) (r : Report) → other_access r ≡ false → efer_refusal (entry_pair c) entry r ≡ 0 → eqb (reason_of r) VmxExitReason.CR_ACCESS ≡ true
      → is_move_to r 4 ≡ false → bit Cr0Flags.PAGING (moved_value r) ≡ true → is_long_mode r.efer ≡ false → lacks_ia32e (entry_pair c).allowed1 ≡ false
  unfolding other_access turns_paging_on
  follows entry r a d p n g l =
      let m = move_zero (eqb (reason_of r) VmxExitReason.CR_ACCESS) (is_move_to r 0) (is_move_to r 4) p n a in
      may_follow (entry_pair c) entry r d (rw (p, m, g)) l

  kept_handled : (entry : ℕ) (r : Report) (u : Vmcs) → other_access r ≡ false → efer_refusal (entry_pair c) entry r ≡ 0 → SoundFields c u
      → SoundFields c (handled u c r)
  kept_handled entry r u a d k =
      by_reason c r (SoundFields c) u (kept_window u k) (kept_timer u k)
      (λ p.
      by_move c r (SoundFields c) u (kept_cr4 u (moved_value r) k)
      (λ n g. kept_efer (cr0_set u c.cr0 (moved_value r)) r.efer (follows entry r a d p n g) (kept_cr0 u (moved_value r) k))
      (kept_cr0 u (moved_value r) k))
      k

  kept_advanced : (r : Report) (u : Vmcs) → SoundFields c u → SoundFields c (rip_advanced u r)
  unfolding rip_advanced
  kept_advanced r u k = kept_other c (VmcsGuestNW.RIP ≔ (r.rip + advance_of r) ∷ []) u tt k

  pub kept_after : (entry : ℕ) (v : Vmcs) (r : Report) → Fits r → owned_bits_differ v r ≡ false → other_access r ≡ false
      → efer_refusal (entry_pair c) entry r ≡ 0 → SoundFields c v → SoundFields c (vmcs_after v c r)
  unfolding vmcs_after
  kept_after entry v r fits o a d k = kept_advanced r _ (kept_handled entry r (stored v r) a d (kept_stored v r fits o k))

pub kept_failure : (c : Capabilities) (v : Vmcs) (r : Report) → SoundFields c v → SoundFields c (failure_stored v r)
unfolding failure_stored
kept_failure c v r k = kept_other c (failure_writes r) v tt k
