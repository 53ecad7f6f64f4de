-- What the fields hold after an accepted exit, one by one. Assumes nothing.
use mathlib.Core.Path.{◌≡◌, refl}
use mathlib.Core.Bool.{Bool, true, false, ◌||◌}
use mathlib.Core.List.{List, [], ◌∷◌}
use Prim.Native.Nat.{ℕ, ◌+◌, ◌<◌, ◌^◌}
use native.Mathlib.Omega.{arith}
use lib.Bits.{bit_and}
use lib.Dec.{T, eqb, eqb→eq}
use Rattle.bits.specs.Words.{bit, bit_not}
use Rattle.bits.proofs.WordLaws as W
use Rattle.bits.proofs.WordLaws.{and_l, and_r}
use Rattle.bits.proofs.Tells.{both_false}
use Rattle.vmcs.specs.Cr.{cr0_words, cr4_words, cr0_writes, cr4_writes}
use Rattle.vmcs.specs.Efer.{update_efer}
use Rattle.vmcs.specs.Field.{Field, place_of, size_of, value_of}
use Rattle.vmcs.specs.Names.VmcsControl32 as VmcsControl32
use Rattle.vmcs.specs.Names.VmcsGuest32 as VmcsGuest32
use Rattle.vmcs.specs.Names.VmcsGuestNW as VmcsGuestNW
use Rattle.vmcs.specs.Writes.{Write, ◌≔◌, applied, same_field, last_of, Sized}
use Rattle.vmcs.specs.declared.Vmcs.{Vmcs}
use Rattle.vmcs.proofs.WriteLaws.{sized_applied, read_applied}
use Rattle.vcpu_session.specs.declared.Capabilities.{Capabilities}
use Rattle.vcpu_session.specs.Session.{VMX_PREEMPTION_TIMER_SET_VALUE}
use Rattle.vcpu_exit.specs.Reading.{moved_value, advance_of}
use Rattle.vcpu_exit.specs.Refusal.{entry_pair}
use Rattle.vcpu_exit.specs.declared.Report.{Report}
use Rattle.vcpu_events.specs.Entry.{window_word, window_set}
use Rattle.vcpu_report.specs.Handlers.{report_writes, stored, timer_set, cr0_set, cr4_set, efer_writes, efer_updated, handled, rip_advanced, vmcs_after}
use Rattle.vcpu_report.specs.Laws.{one_of, handler_fields}
use Rattle.vcpu_report.proofs.Steps.{by_move, by_reason, fields_of, kept_field, every}

-- ---- a field that handling does not write

-- one that is not in a list is none of its fields
apart : (hs : List Field) (g f : Field) → one_of hs f ≡ false → T (one_of hs g) → same_field g f ≡ false
apart [] g f e t = absurd t
apart (h ∷ hs) g f e t = go (same_field h g) refl t (apart hs g f (both_false (same_field h f) (one_of hs f) e).1)
  where
    go : (b : Bool) → same_field h g ≡ b → T (b || one_of hs g) → (T (one_of hs g) → same_field g f ≡ false) → same_field g f ≡ false
    go true q t rest =
        let s : T (same_field h g) = rw q tt in
        let size : size_of h ≡ size_of g = eqb→eq _ _ (and_l (eqb (size_of h) (size_of g)) (eqb (place_of h) (place_of g)) s) in
        let place : place_of h ≡ place_of g = eqb→eq _ _ (and_r (eqb (size_of h) (size_of g)) (eqb (place_of h) (place_of g)) s) in
        rw (size, place) at (both_false (same_field h f) (one_of hs f) e).0
    go false q t rest = rest t

all_apart : (hs gs : List Field) (f : Field) → one_of hs f ≡ false → T (every (one_of hs) gs) → one_of gs f ≡ false
all_apart hs [] f e t = refl
all_apart hs (g ∷ gs) f e t =
    rw (apart hs g f e (and_l (one_of hs g) (every (one_of hs) gs) t)) (all_apart hs gs f e (and_r (one_of hs g) (every (one_of hs) gs) t))

-- ---- what is known: the sizes, and each field that handling does not write

pub record Known (v : Vmcs) (r : Report) (u : Vmcs) : Type 0 where
  pub sized : Sized u
  pub fields : (f : Field) → place_of f < size_of f → one_of handler_fields f ≡ false → value_of u f ≡ last_of (report_writes v r) f (value_of v f)

module _ (v : Vmcs) (r : Report) where
  -- a list of writes to fields of handling
  known_by : (ws : List Write) (u : Vmcs) → T (every (one_of handler_fields) (fields_of ws)) → Known v r u → Known v r (applied ws u)
  known_by ws u t k =
      record {
        sized = sized_applied ws u k.sized;
        fields = λ f h e. kept_field ws u f _ k.sized h (all_apart handler_fields (fields_of ws) f e t) (k.fields f h e);
      }

  known_stored : Sized v → Known v r (stored v r)
  unfolding stored
  known_stored s = record { sized = sized_applied (report_writes v r) v s; fields = λ f h e. read_applied (report_writes v r) v f s h }

  known_window : (u : Vmcs) → Known v r u → Known v r (window_set u false)
  unfolding window_set
  known_window u k = known_by (VmcsControl32.PRIMARY_PROCBASED_EXEC_CONTROLS ≔ window_word u false ∷ []) u tt k

  known_timer : (u : Vmcs) → Known v r u → Known v r (timer_set u)
  unfolding timer_set
  known_timer u k = known_by (VmcsGuest32.VMX_PREEMPTION_TIMER_VALUE ≔ VMX_PREEMPTION_TIMER_SET_VALUE ∷ []) u tt k

  known_cr0 : (c : Capabilities) (val : ℕ) (u : Vmcs) → Known v r u → Known v r (cr0_set u c.cr0 val)
  unfolding cr0_set
  known_cr0 c val u k =
      known_by (cr0_writes (cr0_words c.cr0.fixed0 c.cr0.fixed1 val)) u tt k

  known_cr4 : (c : Capabilities) (val : ℕ) (u : Vmcs) → Known v r u → Known v r (cr4_set u c.cr4 val)
  unfolding cr4_set
  known_cr4 c val u k =
      known_by (cr4_writes (cr4_words c.cr4.fixed0 c.cr4.fixed1 val)) u tt k

  known_efer : (c : Capabilities) (u : Vmcs) → Known v r u → Known v r (efer_updated u (entry_pair c) r.efer)
  unfolding efer_updated
  known_efer c u k =
      known_by (efer_writes (update_efer (entry_pair c) r.efer (value_of u VmcsControl32.VMENTRY_CONTROLS))) u tt k

  known_handled : (c : Capabilities) (u : Vmcs) → Known v r u → Known v r (handled u c r)
  known_handled c u k =
      by_reason c r (Known v r) u (known_window u k) (known_timer u k)
      (λ _.
      by_move c r (Known v r) u (known_cr4 c (moved_value r) u k)
      (λ _ _. known_efer c (cr0_set u c.cr0 (moved_value r)) (known_cr0 c (moved_value r) u k)) (known_cr0 c (moved_value r) u k))
      k

  known_advanced : (u : Vmcs) → Known v r u → Known v r (rip_advanced u r)
  unfolding rip_advanced
  known_advanced u k = known_by (VmcsGuestNW.RIP ≔ (r.rip + advance_of r) ∷ []) u tt k

  rip_advanced_lem : (u : Vmcs) → Known v r u → value_of (rip_advanced u r) VmcsGuestNW.RIP ≡ r.rip + advance_of r
  unfolding rip_advanced
  rip_advanced_lem u k = read_applied (VmcsGuestNW.RIP ≔ (r.rip + advance_of r) ∷ []) u VmcsGuestNW.RIP k.sized (omega arith)

  pub known_after : (c : Capabilities) → Sized v → Known v r (vmcs_after v c r)
  unfolding vmcs_after
  known_after c s = known_advanced _ (known_handled c (stored v r) (known_stored s))

  pub rip_after : (c : Capabilities) → Sized v → value_of (vmcs_after v c r) VmcsGuestNW.RIP ≡ r.rip + advance_of r
  unfolding vmcs_after
  rip_after c s = rip_advanced_lem _ (known_handled c (stored v r) (known_stored s))

-- the valid bit is cleared
pub invalid : (x : ℕ) → bit 31 (bit_and x (bit_not 32 (2 ^ 31))) ≡ false
invalid x = W.is_false (bit 31 (bit_and x (bit_not 32 (2 ^ 31)))) (λ t. W.and_has_r 31 x (bit_not 32 (2 ^ 31)) t)
