-- The steps of handling an exit: a property of fields that each way of handling gives, and what lists of writes leave. Assumes nothing.
use mathlib.Core.Path.{◌≡◌, refl, ◌∙◌}
use mathlib.Core.Bool.{Bool, true, false, not, ◌&&◌}
use mathlib.Core.List.{List, [], ◌∷◌}
use Prim.Native.Nat.{ℕ, ◌<◌}
use lib.Dec.{T, T_not, eqb, ltb, ltb→lt}
use Rattle.bits.specs.Words.{bit}
use Rattle.bits.proofs.WordLaws.{and_l, and_r, is_false}
use Rattle.bits.proofs.Tells.{cond_all, both_false}
use Rattle.definitions.specs.VmxExitReason as VmxExitReason
use Rattle.vmcs.specs.Field.{Field, place_of, size_of, value_of}
use Rattle.vmcs.specs.Flags.Cr0Flags as Cr0Flags
use Rattle.vmcs.specs.Names.VmcsControl32 as VmcsControl32
use Rattle.vmcs.specs.Names.VmcsControlNW as VmcsControlNW
use Rattle.vmcs.specs.Names.VmcsGuestNW as VmcsGuestNW
use Rattle.vmcs.specs.Writes.{Write, applied, same_field, last_of, Sized}
use Rattle.vmcs.specs.declared.Vmcs.{Vmcs}
use Rattle.vmcs.proofs.WriteLaws.{sized_applied, read_applied}
use Rattle.vcpu_session.specs.declared.Capabilities.{Capabilities}
use Rattle.vcpu_exit.specs.Reading.{reason_of, moved_value, is_move_to}
use Rattle.vcpu_exit.specs.Refusal.{entry_pair}
use Rattle.vcpu_exit.specs.declared.Report.{Report}
use Rattle.vcpu_events.specs.Entry.{window_set}
use Rattle.vcpu_report.specs.Handlers.{timer_set, cr0_set, cr4_set, efer_updated, cr_handled, handled_as, handled}
use Rattle.vcpu_report.specs.Invariant.{SoundWords, SoundFields}
use Rattle.vcpu_report.specs.Laws.{one_of}

-- ---- the ways of handling

module _ (c : Capabilities) (r : Report) (P : Vmcs → Type 0) (u : Vmcs) where
  pub by_move : P (cr4_set u c.cr4 (moved_value r))
      → (is_move_to r 4 ≡ false → bit Cr0Flags.PAGING (moved_value r) ≡ true → P (efer_updated (cr0_set u c.cr0 (moved_value r)) (entry_pair c) r.efer))
      → P (cr0_set u c.cr0 (moved_value r)) → P (cr_handled u c r)
  unfolding cr_handled
  by_move four paging zero =
      cond_all P (is_move_to r 4) _ _ (λ _. four) (λ n. cond_all P (bit Cr0Flags.PAGING (moved_value r)) _ _ (paging n) (λ _. zero))

  pub by_reason : P (window_set u false) → P (timer_set u) → (eqb (reason_of r) VmxExitReason.CR_ACCESS ≡ true → P (cr_handled u c r)) → P u → P (handled u c r)
  unfolding handled_as
  by_reason window timer move other =
      cond_all P (eqb (reason_of r) VmxExitReason.INTERRUPT_WINDOW) _ _ (λ _. window)
      (λ _. cond_all P (eqb (reason_of r) VmxExitReason.PREEMPTION_TIMER) _ _ (λ _. timer) (λ _. cond_all P (eqb (reason_of r) VmxExitReason.CR_ACCESS) _ _ move (λ _. other)))

-- ---- a field that no write of a list names keeps its value

abbrev pub fields_of : List Write → List Field
fields_of [] = []
fields_of (w ∷ ws) = w.field ∷ fields_of ws

pub untouched : (ws : List Write) (f : Field) (x : ℕ) → one_of (fields_of ws) f ≡ false → last_of ws f x ≡ x
untouched [] f x e = refl
untouched (w ∷ ws) f x e =
    let p = both_false (same_field w.field f) (one_of (fields_of ws) f) e in
    rw p.0 (untouched ws f x p.1)

pub kept_field : (ws : List Write) (v : Vmcs) (f : Field) (x : ℕ) → Sized v → place_of f < size_of f → one_of (fields_of ws) f ≡ false
    → value_of v f ≡ x → value_of (applied ws v) f ≡ x
kept_field ws v f x s h e p = read_applied ws v f s h ∙ untouched ws f (value_of v f) e ∙ p

-- ---- the fields that the invariant reads

abbrev pub judged_fields : List Field
judged_fields =
    VmcsControl32.PINBASED_EXEC_CONTROLS
    ∷ VmcsControl32.PRIMARY_PROCBASED_EXEC_CONTROLS
    ∷ VmcsControl32.SECONDARY_PROCBASED_EXEC_CONTROLS
    ∷ VmcsControl32.VMEXIT_CONTROLS
    ∷ VmcsControl32.VMENTRY_CONTROLS
    ∷ VmcsGuestNW.CR0
    ∷ VmcsGuestNW.CR4
    ∷ VmcsControlNW.CR0_GUEST_HOST_MASK
    ∷ VmcsControlNW.CR4_GUEST_HOST_MASK
    ∷ []

-- the test p passes at each of a list
abbrev pub every : {A : Type 0} → (A → Bool) → List A → Bool
every p [] = true
every p (x ∷ xs) = p x && every p xs

-- b gives each field of a list what a gives it
abbrev Agree : (Field → ℕ) → (Field → ℕ) → List Field → Type 0
Agree a b [] = Unit {0}
Agree a b (f ∷ fs) = (b f ≡ a f) × Agree a b fs

agree : (p : Field → Bool) (a b : Field → ℕ) → ((f : Field) → T (p f) → b f ≡ a f) → (fs : List Field) → T (every p fs) → Agree a b fs
agree p a b e [] t = tt
agree p a b e (f ∷ fs) t = (e f (and_l (p f) (every p fs) t), agree p a b e fs (and_r (p f) (every p fs) t))

-- the invariant looks at no other field
same_words : (c : Capabilities) (a b : Field → ℕ) → Agree a b judged_fields → SoundWords c a → SoundWords c b
same_words c a b (pin, (primary, (secondary, (exit, (entry, (cr0, (cr4, (cr0mask, (cr4mask, _))))))))) w =
    record {
      pin = rw pin w.pin;
      primary = rw primary w.primary;
      secondary = rw secondary w.secondary;
      exit = rw exit w.exit;
      entry = rw entry w.entry;
      cr0 = rw (cr0, cr0mask) w.cr0;
      cr4 = rw (cr4, cr4mask) w.cr4;
    }

-- a list of writes keeps the invariant where what it leaves in the fields does
pub kept_by : (c : Capabilities) (ws : List Write) (v : Vmcs) → Sized v → SoundWords c (λ f. last_of ws f (value_of v f)) → SoundFields c (applied ws v)
kept_by c ws v s w =
    record {
      sized = sized_applied ws v s;
      words = same_words c _ _ (agree (λ f. ltb (place_of f) (size_of f)) _ _ (λ f t. read_applied ws v f s (ltb→lt _ _ t)) judged_fields tt) w;
    }

-- and where it writes none of these fields
pub kept_other : (c : Capabilities) (ws : List Write) (v : Vmcs) → T (every (λ f. not (one_of (fields_of ws) f)) judged_fields) → SoundFields c v
    → SoundFields c (applied ws v)
kept_other c ws v other k =
    kept_by c ws v k.sized
    (same_words c (value_of v) _
    (agree (λ f. not (one_of (fields_of ws) f)) _ _
    (λ f t. untouched ws f (value_of v f) (is_false (one_of (fields_of ws) f) (T_not (one_of (fields_of ws) f) t))) judged_fields other) k.words)
