-- What an accepted exit leaves in the fields that its handling writes: CR0, CR4, their masks, the primary and the entry controls, as the reference has them. Assumes nothing.
use Prim.Native.Nat.{ℕ, ◌+◌, ◌<◌}
use mathlib.Core.Path.{◌≡◌, refl, sym, ap, ◌∙◌}
use mathlib.Core.Bool.{Bool, true, false, cond, true≢false}
use mathlib.Core.List.{List, [], ◌∷◌}
use mathlib.Core.Logic.{inl, inr}
use native.Mathlib.Decide.{ℕ_discrete}
use native.Mathlib.Omega.{arith}
use lib.Bits.{bit_and}
use lib.Dec.{eqb, lit<}
use borrow.Author.Tests.{eqb-true, eqb-false}
use Rattle.bits.specs.Words.{bit}
use Rattle.bits.proofs.Tells.{cond_all}
use Rattle.vmcs.specs.Cr.{cr0_words, cr4_words, cr0_writes, cr4_writes}
use Rattle.vmcs.specs.Control.{control_word}
use Rattle.vmcs.specs.Efer.{is_long_mode, lacks_ia32e, update_efer}
use Rattle.vmcs.specs.Field.{Field, place_of, size_of, value_of}
use Rattle.vmcs.specs.Flags.Cr0Flags as Cr0Flags
use Rattle.vmcs.specs.Names.VmcsControl32 as VmcsControl32
use Rattle.vmcs.specs.Names.VmcsControlNW as VmcsControlNW
use Rattle.vmcs.specs.Names.VmcsGuest32 as VmcsGuest32
use Rattle.vmcs.specs.Names.VmcsGuest64 as VmcsGuest64
use Rattle.vmcs.specs.Names.VmcsGuestNW as VmcsGuestNW
use Rattle.vmcs.specs.Writes.{Write, ◌≔◌, applied, last_of, Sized}
use Rattle.vmcs.specs.declared.Vmcs.{Vmcs}
use Rattle.vmcs.specs.declared.controls.Pair.{Pair}
use Rattle.vmcs.proofs.WriteLaws.{read_applied, sized_applied}
use Rattle.vcpu_session.specs.Session.{VMX_PREEMPTION_TIMER_SET_VALUE}
use Rattle.vcpu_session.specs.declared.Capabilities.{Capabilities}
use Rattle.vcpu_events.specs.Entry.{window_word, window_set}
use Rattle.vcpu_exit.specs.Reading.{moved_value, is_move_to, advance_of}
use Rattle.vcpu_exit.specs.Refusal.{other_access, efer_refusal, entry_pair}
use Rattle.vcpu_exit.specs.declared.Report.{Report}
use Rattle.vcpu_report.specs.Handlers.{report_writes, stored, timer_set, cr0_set, cr4_set, efer_writes, efer_updated, cr_handled, handled_as, handled, rip_advanced, vmcs_after}
use Rattle.vcpu_report.specs.Laws.{one_of}
use Rattle.vcpu_report.proofs.Steps.{fields_of, untouched}
use Rattle.calls.specs.Reference.{choose, basic_reason, MovToCr, mov_to_cr, mov_source, SetsIa32e, sets_ia32e, control_value, cr_value, cr_mask, cr0_bounds, cr4_asked}
use Rattle.calls.specs.Calls.{limits_in}
use Rattle.calls.proofs.Choices.{choose_yes, choose_no}
use Rattle.calls.proofs.ReportNumbers.{move_tells, access_tells, moved_agrees, clear_tells, long_tells, stuck, stuck_tells, efer_number}

-- ---- one way of handling after another

module _ (c : Capabilities) (r : Report) (P : Vmcs → Type 0) (u : Vmcs) where
  by_handling : (basic_reason r ≡ 7 → P (window_set u false)) → (basic_reason r ≡ 52 → P (timer_set u))
      → (basic_reason r ≡ 28 → MovToCr 4 r → P (cr4_set u c.cr4 (moved_value r)))
      → (basic_reason r ≡ 28 → (MovToCr 4 r → ⊥) → bit 31 (moved_value r) ≡ false → P (cr0_set u c.cr0 (moved_value r)))
      → (basic_reason r ≡ 28 → (MovToCr 4 r → ⊥) → bit 31 (moved_value r) ≡ true → P (efer_updated (cr0_set u c.cr0 (moved_value r)) (entry_pair c) r.efer))
      → ((basic_reason r ≡ 7 → ⊥) → (basic_reason r ≡ 28 → ⊥) → P u) → P (handled u c r)
  unfolding handled_as cr_handled
  by_handling window timer four zero paging none =
      cond_all P (eqb (basic_reason r) 7) _ _ (λ t. window (eqb-true _ _ t))
      (λ w. cond_all P (eqb (basic_reason r) 52) _ _ (λ t. timer (eqb-true _ _ t))
      (λ _. cond_all P (eqb (basic_reason r) 28) _ _
      (λ t. cond_all P (is_move_to r 4) _ _ (λ m. four (eqb-true _ _ t) ((move_tells r 4).yes_so m))
      (λ m.
      let e = eqb-true _ _ t in
      let n = (move_tells r 4).not_so m in
      cond_all P (bit Cr0Flags.PAGING (moved_value r)) _ _ (paging e n) (zero e n)))
      (λ t. none (eqb-false _ _ w) (eqb-false _ _ t))))

-- 18 has passed: a move that is not to CR4 is to CR0
to_zero : (r : Report) → other_access r ≡ false → basic_reason r ≡ 28 → (MovToCr 4 r → ⊥) → MovToCr 0 r
to_zero r access e n = go (is_move_to r 0) refl
  where
    go : (t : Bool) → is_move_to r 0 ≡ t → MovToCr 0 r
    go true t = (move_tells r 0).yes_so t
    go false t = absurd ((access_tells r).not_so access (e, λ m. elim m [ inl a ↦ (move_tells r 0).not_so t a | inr b ↦ n b ]))

-- what is left in a field
record Left (f : Field) (y : ℕ) (t : Vmcs) : Type 0 where
  sized : Sized t
  value : value_of t f ≡ y

left_by : (ws : List Write) (t : Vmcs) (f : Field) (x : ℕ) → place_of f < size_of f → Left f x t → {y : ℕ} → last_of ws f x ≡ y → Left f y (applied ws t)
left_by ws t f x h l e = record { sized = sized_applied ws t l.sized; value = read_applied ws t f l.sized h ∙ ap (last_of ws f) l.value ∙ e }

left_alone : (ws : List Write) (t : Vmcs) (f : Field) (x : ℕ) → place_of f < size_of f → one_of (fields_of ws) f ≡ false → Left f x t → Left f x (applied ws t)
left_alone ws t f x h e l = left_by ws t f x h l (untouched ws f x e)

-- the handling of reasons 7 and 52 leaves the field alone, and so does what follows a move to CR0 with PG
record Free (f : Field) : Type 0 where
  primary : one_of (VmcsControl32.PRIMARY_PROCBASED_EXEC_CONTROLS ∷ []) f ≡ false
  timer : one_of (VmcsGuest32.VMX_PREEMPTION_TIMER_VALUE ∷ []) f ≡ false
  efer : one_of (VmcsGuest64.IA32_EFER ∷ VmcsControl32.VMENTRY_CONTROLS ∷ []) f ≡ false

-- what a move to CR4 or to CR0 writes
abbrev writes4 : Capabilities → Report → List Write
writes4 c r = cr4_writes (cr4_words c.cr4.fixed0 c.cr4.fixed1 (moved_value r))

abbrev writes0 : Capabilities → Report → List Write
writes0 c r = cr0_writes (cr0_words c.cr0.fixed0 c.cr0.fixed1 (moved_value r))

module _ (c : Capabilities) (r : Report) (u : Vmcs) (f : Field) (h : place_of f < size_of f) (x : ℕ) (held : Left f x u) where
  -- of a field that only moves to CR0 or CR4 write
  moved_field : other_access r ≡ false → Free f → Left f (choose (mov_to_cr 4 r) (last_of (writes4 c r) f x) (choose (mov_to_cr 0 r) (last_of (writes0 c r) f x) x)) (handled u c r)
  unfolding window_set timer_set cr4_set cr0_set efer_updated
  moved_field access free =
      by_handling c r (Left f y) u
      (λ e. kept (λ n. omega arith) (left_alone (VmcsControl32.PRIMARY_PROCBASED_EXEC_CONTROLS ≔ window_word u false ∷ []) u f x h free.primary held))
      (λ e. kept (λ n. omega arith) (left_alone (VmcsGuest32.VMX_PREEMPTION_TIMER_VALUE ≔ VMX_PREEMPTION_TIMER_SET_VALUE ∷ []) u f x h free.timer held))
      (λ e m. left_by (writes4 c r) u f x h held (sym (choose_yes (mov_to_cr 4 r) _ _ (e, m))))
      (λ e n _. zero e n)
      (λ e n _. left_alone (efer_writes (update_efer (entry_pair c) r.efer (value_of (applied (writes0 c r) u) VmcsControl32.VMENTRY_CONTROLS))) (applied (writes0 c r) u) f y h
      free.efer (zero e n))
      (λ _ n. kept n held)
    where
      y : ℕ
      y = choose (mov_to_cr 4 r) (last_of (writes4 c r) f x) (choose (mov_to_cr 0 r) (last_of (writes0 c r) f x) x)

      kept : {t : Vmcs} → (basic_reason r ≡ 28 → ⊥) → Left f x t → Left f y t
      kept n l = record { sized = l.sized; value = l.value ∙ sym (choose_no (mov_to_cr 4 r) _ _ (λ m. n m.0) ∙ choose_no (mov_to_cr 0 r) _ _ (λ m. n m.0)) }

      zero : basic_reason r ≡ 28 → (MovToCr 4 r → ⊥) → Left f y (applied (writes0 c r) u)
      zero e n = left_by (writes0 c r) u f x h held (sym (choose_no (mov_to_cr 4 r) _ _ (λ m. n m.1) ∙ choose_yes (mov_to_cr 0 r) _ _ (e, to_zero r access e n)))

-- of the primary controls
primary_field : (c : Capabilities) (r : Report) (u : Vmcs) (x : ℕ) → Left VmcsControl32.PRIMARY_PROCBASED_EXEC_CONTROLS x u
    → Left VmcsControl32.PRIMARY_PROCBASED_EXEC_CONTROLS (choose (ℕ_discrete (basic_reason r) 7) (bit_and x 0xFFFFFFFB) x) (handled u c r)
unfolding window_set timer_set cr4_set cr0_set efer_updated
primary_field c r u x held =
    by_handling c r (Left f y) u
    (λ e. left_by (f ≔ window_word u false ∷ []) u f x (lit< tt) held
    (ap (λ (z : ℕ). bit_and z 0xFFFFFFFB) held.value ∙ sym (choose_yes (ℕ_discrete (basic_reason r) 7) _ _ e)))
    (λ e. kept (λ n. omega arith) (left_alone (VmcsGuest32.VMX_PREEMPTION_TIMER_VALUE ≔ VMX_PREEMPTION_TIMER_SET_VALUE ∷ []) u f x (lit< tt) refl held))
    (λ e m. kept (λ n. omega arith) (left_alone (writes4 c r) u f x (lit< tt) refl held))
    (λ e m _. kept (λ n. omega arith) (left_alone (writes0 c r) u f x (lit< tt) refl held))
    (λ e m _. kept (λ n. omega arith)
    (left_alone (efer_writes (update_efer (entry_pair c) r.efer (value_of (applied (writes0 c r) u) VmcsControl32.VMENTRY_CONTROLS))) (applied (writes0 c r) u) f x (lit< tt) refl
    (left_alone (writes0 c r) u f x (lit< tt) refl held)))
    (λ n _. kept n held)
  where
    f : Field
    f = VmcsControl32.PRIMARY_PROCBASED_EXEC_CONTROLS

    y : ℕ
    y = choose (ℕ_discrete (basic_reason r) 7) (bit_and x 0xFFFFFFFB) x

    kept : {t : Vmcs} → (basic_reason r ≡ 7 → ⊥) → Left f x t → Left f y t
    kept n l = record { sized = l.sized; value = l.value ∙ sym (choose_no (ℕ_discrete (basic_reason r) 7) _ _ n) }

-- 8 has passed: where entry bit 9 is to be set, it may be
may_set : (pair : Pair) (word : ℕ) (r : Report) → efer_refusal pair word r ≡ 0 → SetsIa32e r → lacks_ia32e pair.allowed1 ≡ false
may_set pair word r e sets = go (lacks_ia32e pair.allowed1) refl
  where
    none : (b : Bool) → cond {A = ℕ} b 8 0 ≡ 0 → b ≡ false
    none true z = absurd (omega arith)
    none false z = refl

    go : (t : Bool) → lacks_ia32e pair.allowed1 ≡ t → lacks_ia32e pair.allowed1 ≡ false
    go true t = absurd ((stuck_tells pair r).not_so (none (stuck pair r) (sym (efer_number pair word r) ∙ e)) (sets, (clear_tells pair.allowed1).yes_so t))
    go false t = t

-- the entry word where a move to CR0 turns paging on
paging_entry : (c : Capabilities) (r : Report) (word x : ℕ) → efer_refusal (entry_pair c) word r ≡ 0 → ((basic_reason r ≡ 28) × MovToCr 0 r) → bit 31 (mov_source r) ≡ true
    → (update_efer (entry_pair c) r.efer x).entry ≡ choose (sets_ia32e r) (control_value (limits_in c).entry x 0x200 0) x
unfolding update_efer control_word
paging_entry c r word x ok move on = go (is_long_mode r.efer) refl
  where
    go : (t : Bool) → is_long_mode r.efer ≡ t → (update_efer (entry_pair c) r.efer x).entry ≡ choose (sets_ia32e r) (control_value (limits_in c).entry x 0x200 0) x
    go true t = rw t (sym (choose_no (sets_ia32e r) _ _ (λ m. m.1.1 ((long_tells r).yes_so t))))
    go false t =
        let sets : SetsIa32e r = (move, (on, (long_tells r).not_so t)) in
        rw (t, may_set (entry_pair c) word r ok sets) (sym (choose_yes (sets_ia32e r) _ _ sets))

-- of the entry controls
entry_field : (c : Capabilities) (r : Report) (u : Vmcs) (word x : ℕ) → other_access r ≡ false → efer_refusal (entry_pair c) word r ≡ 0
    → Left VmcsControl32.VMENTRY_CONTROLS x u
    → Left VmcsControl32.VMENTRY_CONTROLS (choose (sets_ia32e r) (control_value (limits_in c).entry x 0x200 0) x) (handled u c r)
unfolding window_set timer_set cr4_set cr0_set efer_updated
entry_field c r u word x access ok held =
    by_handling c r (Left f y) u
    (λ e. kept (λ m. omega (arith, m.0.0)) (left_alone (VmcsControl32.PRIMARY_PROCBASED_EXEC_CONTROLS ≔ window_word u false ∷ []) u f x (lit< tt) refl held))
    (λ e. kept (λ m. omega (arith, m.0.0)) (left_alone (VmcsGuest32.VMX_PREEMPTION_TIMER_VALUE ≔ VMX_PREEMPTION_TIMER_SET_VALUE ∷ []) u f x (lit< tt) refl held))
    (λ e m. kept (λ n. omega (arith, m.1, n.0.1.1)) (left_alone (writes4 c r) u f x (lit< tt) refl held))
    (λ e n z. kept (λ m. true≢false (sym m.1.0 ∙ ap (bit 31) (sym (moved_agrees r)) ∙ z)) zero)
    (λ e n z. left_by (efer_writes (update_efer (entry_pair c) r.efer (value_of (applied (writes0 c r) u) f))) (applied (writes0 c r) u) f x (lit< tt) zero
    (ap (λ (w : ℕ). (update_efer (entry_pair c) r.efer w).entry) zero.value
    ∙ paging_entry c r word x ok (e, to_zero r access e n) (ap (bit 31) (sym (moved_agrees r)) ∙ z)))
    (λ _ n. kept (λ m. n m.0.0) held)
  where
    f : Field
    f = VmcsControl32.VMENTRY_CONTROLS

    y : ℕ
    y = choose (sets_ia32e r) (control_value (limits_in c).entry x 0x200 0) x

    kept : {t : Vmcs} → (SetsIa32e r → ⊥) → Left f x t → Left f y t
    kept n l = record { sized = l.sized; value = l.value ∙ sym (choose_no (sets_ia32e r) _ _ n) }

    zero : Left f x (applied (writes0 c r) u)
    zero = left_alone (writes0 c r) u f x (lit< tt) refl held

-- ---- the whole exit

-- a choice of which one side is what the other leaves
first_keeps : {A B : Type 0} (d : Dec A) (e : Dec B) (z x : ℕ) → (A → B → ⊥) → choose d x (choose e z x) ≡ choose e z x
first_keeps (yes p) (yes q) z x n = absurd (n p q)
first_keeps (yes p) (no q) z x n = refl
first_keeps (no p) e z x n = refl

second_keeps : {A B : Type 0} (d : Dec A) (e : Dec B) (z x : ℕ) → choose d z (choose e x x) ≡ choose d z x
second_keeps d (yes q) z x = refl
second_keeps d (no q) z x = refl

module _ (v : Vmcs) (c : Capabilities) (r : Report) (sized : Sized v) where
  stored_left : (f : Field) → place_of f < size_of f → Left f (last_of (report_writes v r) f (value_of v f)) (stored v r)
  unfolding stored
  stored_left f h = left_by (report_writes v r) v f (value_of v f) h (record { sized = sized; value = refl }) refl

  advanced : (f : Field) → place_of f < size_of f → one_of (VmcsGuestNW.RIP ∷ []) f ≡ false → {y : ℕ} → Left f y (handled (stored v r) c r) → value_of (vmcs_after v c r) f ≡ y
  unfolding vmcs_after rip_advanced
  advanced f h e {y} l = (left_alone (VmcsGuestNW.RIP ≔ (r.rip + advance_of r) ∷ []) (handled (stored v r) c r) f y h e l).value

  pub exit_primary : value_of (vmcs_after v c r) VmcsControl32.PRIMARY_PROCBASED_EXEC_CONTROLS
      ≡ choose (ℕ_discrete (basic_reason r) 7) (bit_and (value_of v VmcsControl32.PRIMARY_PROCBASED_EXEC_CONTROLS) 0xFFFFFFFB)
      (value_of v VmcsControl32.PRIMARY_PROCBASED_EXEC_CONTROLS)
  exit_primary =
      let f = VmcsControl32.PRIMARY_PROCBASED_EXEC_CONTROLS in
      advanced f (lit< tt) refl (primary_field c r (stored v r) (value_of v f) (stored_left f (lit< tt)))

  pub exit_entry : (word : ℕ) → other_access r ≡ false → efer_refusal (entry_pair c) word r ≡ 0 → value_of (vmcs_after v c r) VmcsControl32.VMENTRY_CONTROLS
      ≡ choose (sets_ia32e r) (control_value (limits_in c).entry (value_of v VmcsControl32.VMENTRY_CONTROLS) 0x200 0) (value_of v VmcsControl32.VMENTRY_CONTROLS)
  exit_entry word access ok =
      let f = VmcsControl32.VMENTRY_CONTROLS in
      advanced f (lit< tt) refl (entry_field c r (stored v r) word (value_of v f) access ok (stored_left f (lit< tt)))

  module _ (access : other_access r ≡ false) where
    apart : (basic_reason r ≡ 28) × MovToCr 4 r → (basic_reason r ≡ 28) × MovToCr 0 r → ⊥
    apart a b = omega (arith, a.1.1, b.1.1)

    moved_left : (f : Field) → place_of f < size_of f → one_of (VmcsGuestNW.RIP ∷ []) f ≡ false → Free f → {x : ℕ} → last_of (report_writes v r) f (value_of v f) ≡ x
        → value_of (vmcs_after v c r) f ≡ choose (mov_to_cr 4 r) (last_of (writes4 c r) f x) (choose (mov_to_cr 0 r) (last_of (writes0 c r) f x) x)
    moved_left f h e free {x} is =
        let l = stored_left f h in
        advanced f h e (moved_field c r (stored v r) f h x (record { sized = l.sized; value = l.value ∙ is }) access free)

    freely : {f : Field} → one_of (VmcsControl32.PRIMARY_PROCBASED_EXEC_CONTROLS ∷ []) f ≡ false → one_of (VmcsGuest32.VMX_PREEMPTION_TIMER_VALUE ∷ []) f ≡ false
        → one_of (VmcsGuest64.IA32_EFER ∷ VmcsControl32.VMENTRY_CONTROLS ∷ []) f ≡ false → Free f
    freely a b d = record { primary = a; timer = b; efer = d }

    pub exit_cr0 : value_of (vmcs_after v c r) VmcsGuestNW.CR0 ≡ choose (mov_to_cr 0 r) (cr_value (cr0_bounds (limits_in c)) (mov_source r)) r.cr0
    exit_cr0 =
        moved_left VmcsGuestNW.CR0 (lit< tt) refl (freely refl refl refl) refl ∙ first_keeps (mov_to_cr 4 r) (mov_to_cr 0 r) _ _ apart
        ∙ ap (λ (x : ℕ). choose (mov_to_cr 0 r) (cr_value (cr0_bounds (limits_in c)) x) r.cr0) (moved_agrees r)

    pub exit_cr0_mask : value_of (vmcs_after v c r) VmcsControlNW.CR0_GUEST_HOST_MASK
        ≡ choose (mov_to_cr 0 r) (cr_mask (cr0_bounds (limits_in c))) (value_of v VmcsControlNW.CR0_GUEST_HOST_MASK)
    exit_cr0_mask = moved_left VmcsControlNW.CR0_GUEST_HOST_MASK (lit< tt) refl (freely refl refl refl) refl ∙ first_keeps (mov_to_cr 4 r) (mov_to_cr 0 r) _ _ apart

    pub exit_cr4 : value_of (vmcs_after v c r) VmcsGuestNW.CR4 ≡ choose (mov_to_cr 4 r) (cr_value (limits_in c).cr4 (cr4_asked (mov_source r))) r.cr4
    exit_cr4 =
        moved_left VmcsGuestNW.CR4 (lit< tt) refl (freely refl refl refl) refl ∙ second_keeps (mov_to_cr 4 r) (mov_to_cr 0 r) _ _
        ∙ ap (λ (x : ℕ). choose (mov_to_cr 4 r) (cr_value (limits_in c).cr4 (cr4_asked x)) r.cr4) (moved_agrees r)

    pub exit_cr4_mask : value_of (vmcs_after v c r) VmcsControlNW.CR4_GUEST_HOST_MASK
        ≡ choose (mov_to_cr 4 r) (cr_mask (limits_in c).cr4) (value_of v VmcsControlNW.CR4_GUEST_HOST_MASK)
    exit_cr4_mask = moved_left VmcsControlNW.CR4_GUEST_HOST_MASK (lit< tt) refl (freely refl refl refl) refl ∙ second_keeps (mov_to_cr 4 r) (mov_to_cr 0 r) _ _
