-- A write seen at its field and at another, the fields that an entry leaves alone, and values within their fields. Assumes nothing.
use Prim.Native.Nat.{ℕ, ◌<◌, ◌^◌}
use mathlib.Core.Path.{◌≡◌, refl, ap, ◌∙◌}
use mathlib.Core.Bool.{Bool, true, false, cond, ◌&&◌}
use mathlib.Core.List.{List, [], ◌∷◌}
use lib.Dec.{T, ltb, ltb→lt, lit<}
use lib.ListN.{drop}
use borrow.Author.Tests.{eq-eqb}
use Rattle.bits.proofs.Tells.{both_false, cond_all}
use Rattle.bits.proofs.WordLaws.{and_l, and_r}
use Rattle.definitions.specs.Interruption.{is_soft, from_vector, event_word}
use Rattle.vmcs.specs.Field.{Field, Word16, Word64, Word32, Natural, place_of, size_of, width_bits, value_of, put}
use Rattle.vmcs.specs.Writes.{Write, ◌≔◌, applied, same_field, Sized}
use Rattle.vmcs.specs.declared.Vmcs.{Vmcs}
use Rattle.vmcs.specs.Names.VmcsControl32 as VmcsControl32
use Rattle.vmcs.specs.Names.VmcsGuestNW as VmcsGuestNW
use Rattle.vmcs.specs.Names.VmcsHostNW as VmcsHostNW
use Rattle.vmcs.specs.Names.VmcsReadOnly32 as VmcsReadOnly32
use Rattle.vmcs.proofs.WriteLaws.{read_applied, sized_applied}
use Rattle.vcpu_events.specs.Entry.{code_in, code_goes_in, word_of, code_of, with_code, with_length, injected, with_stack, window_set, vmcs_after}
use Rattle.vcpu_events.specs.Queue.{Event}
use Rattle.vcpu_events.specs.declared.Injection.{Injection}
use Rattle.vcpu_events.specs.declared.Injection.TheVariants.{Empty, Held, Written}
use Rattle.vcpu_report.specs.Laws.{one_of}
use Rattle.record.specs.Fitting.{VmcsFits}
use Rattle.record_edits.proofs.Fits.{put_fits}

-- ---- one write

put_sized : (v : Vmcs) (g : Field) (x : ℕ) → Sized v → Sized (put v g x)
put_sized v g x s = sized_applied (g ≔ x ∷ []) v s

pub put_own : (v : Vmcs) (g : Field) (x : ℕ) → Sized v → place_of g < size_of g → value_of (put v g x) g ≡ x
put_own v g x s h = read_applied (g ≔ x ∷ []) v g s h ∙ rw (eq-eqb (size_of g) (size_of g) refl, eq-eqb (place_of g) (place_of g) refl)

pub put_same : (v : Vmcs) (g f : Field) (x : ℕ) → Sized v → place_of f < size_of f → same_field g f ≡ false → value_of (put v g x) f ≡ value_of v f
put_same v g f x s h e = read_applied (g ≔ x ∷ []) v f s h ∙ rw e

-- ---- what an entry does to the fields

-- what a write of any Other field keeps, an entry keeps, if the fields that it writes are Other
module _ (P : Vmcs → Type 0) (Other : Field → Type 0) (kept : (v : Vmcs) (g : Field) (x : ℕ) → Other g → P v → P (put v g x)) where
  pub stack_keeps : (v : Vmcs) (launched : Bool) (stack : ℕ) → Other VmcsHostNW.RSP → P v → P (with_stack v launched stack)
  unfolding with_stack
  stack_keeps v launched stack o p = cond_all P launched _ _ (λ _. p) (λ _. kept v VmcsHostNW.RSP stack o p)

  code_keeps : (v : Vmcs) (e : Event) → Other VmcsControl32.VMENTRY_EXCEPTION_ERR_CODE → P v → P (with_code v e)
  unfolding with_code
  code_keeps v e o p = cond_all P (code_goes_in v e) _ _ (λ _. kept v VmcsControl32.VMENTRY_EXCEPTION_ERR_CODE _ o p) (λ _. p)

  length_keeps : (v : Vmcs) (e : Event) → Other VmcsControl32.VMENTRY_INSTRUCTION_LEN → P v → P (with_length v e)
  unfolding with_length
  length_keeps v e o p = cond_all P (is_soft (from_vector e.vector)) _ _ (λ _. kept v VmcsControl32.VMENTRY_INSTRUCTION_LEN _ o p) (λ _. p)

  pub injection_keeps : (v : Vmcs) (e : Event) → Other VmcsControl32.VMENTRY_EXCEPTION_ERR_CODE → Other VmcsControl32.VMENTRY_INSTRUCTION_LEN
      → Other VmcsControl32.VMENTRY_INTERRUPTION_INFO_FIELD → P v → P (injected v e)
  unfolding injected
  injection_keeps v e a b c p = kept _ VmcsControl32.VMENTRY_INTERRUPTION_INFO_FIELD _ c (length_keeps (with_code v e) e b (code_keeps v e a p))

-- g is v but for the fields that are not f
pub record Same (f : Field) (v g : Vmcs) : Type 0 where
  pub sized : Sized g
  pub value : value_of g f ≡ value_of v f

module _ (f : Field) (h : place_of f < size_of f) where
  same_put : (v w : Vmcs) (g : Field) (x : ℕ) → same_field g f ≡ false → Same f v w → Same f v (put w g x)
  same_put v w g x e s = record { sized = put_sized w g x s.sized; value = put_same w g f x s.sized h e ∙ s.value }

  pub same_stack : (v : Vmcs) (launched : Bool) (stack : ℕ) → Sized v → same_field VmcsHostNW.RSP f ≡ false → Same f v (with_stack v launched stack)
  same_stack v launched stack s e = stack_keeps (Same f v) (λ g. same_field g f ≡ false) (same_put v) v launched stack e (record { sized = s; value = refl })

  pub same_window : (v : Vmcs) → Sized v → same_field VmcsControl32.PRIMARY_PROCBASED_EXEC_CONTROLS f ≡ false → Same f v (window_set v true)
  unfolding window_set
  same_window v s e = same_put v v VmcsControl32.PRIMARY_PROCBASED_EXEC_CONTROLS _ e (record { sized = s; value = refl })

  pub same_code : (v : Vmcs) (e : Event) → Sized v → same_field VmcsControl32.VMENTRY_EXCEPTION_ERR_CODE f ≡ false → Same f v (with_code v e)
  same_code v e s a = code_keeps (Same f v) (λ g. same_field g f ≡ false) (same_put v) v e a (record { sized = s; value = refl })

  pub same_length_lem : (v w : Vmcs) (e : Event) → same_field VmcsControl32.VMENTRY_INSTRUCTION_LEN f ≡ false → Same f v w → Same f v (with_length w e)
  same_length_lem v w e a z = length_keeps (Same f v) (λ g. same_field g f ≡ false) (same_put v) w e a z

  pub same_injected : (v : Vmcs) (e : Event) → Sized v → same_field VmcsControl32.VMENTRY_EXCEPTION_ERR_CODE f ≡ false
      → same_field VmcsControl32.VMENTRY_INSTRUCTION_LEN f ≡ false
      → same_field VmcsControl32.VMENTRY_INTERRUPTION_INFO_FIELD f ≡ false → Same f v (injected v e)
  same_injected v e s a b c = injection_keeps (Same f v) (λ g. same_field g f ≡ false) (same_put v) v e a b c (record { sized = s; value = refl })

-- the fields that an entry may write
abbrev pub entry_fields : List Field
entry_fields =
    VmcsHostNW.RSP
    ∷ VmcsControl32.PRIMARY_PROCBASED_EXEC_CONTROLS
    ∷ VmcsControl32.VMENTRY_EXCEPTION_ERR_CODE
    ∷ VmcsControl32.VMENTRY_INSTRUCTION_LEN
    ∷ VmcsControl32.VMENTRY_INTERRUPTION_INFO_FIELD
    ∷ []

-- every other field is as it was
pub same_entered : (f : Field) → place_of f < size_of f → (v : Vmcs) (launched : Bool) (stack : ℕ) (e : Event) (a : Injection) → Sized v
    → one_of entry_fields f ≡ false → Same f v (vmcs_after (with_stack v launched stack) e a)
unfolding vmcs_after window_set
same_entered f h v launched stack e a s other =
    let n1 = both_false (same_field VmcsHostNW.RSP f) (one_of (drop 1 entry_fields) f) other in
    let n2 = both_false (same_field VmcsControl32.PRIMARY_PROCBASED_EXEC_CONTROLS f) (one_of (drop 2 entry_fields) f) n1.1 in
    let n3 = both_false (same_field VmcsControl32.VMENTRY_EXCEPTION_ERR_CODE f) (one_of (drop 3 entry_fields) f) n2.1 in
    let n4 = both_false (same_field VmcsControl32.VMENTRY_INSTRUCTION_LEN f) (one_of (drop 4 entry_fields) f) n3.1 in
    let n5 = both_false (same_field VmcsControl32.VMENTRY_INTERRUPTION_INFO_FIELD f) false n4.1 in
    go a (same_stack f h v launched stack s n1.0) n2.0 n3.0 n4.0 n5.0
  where
    go : (a : Injection) → Same f v (with_stack v launched stack) → same_field VmcsControl32.PRIMARY_PROCBASED_EXEC_CONTROLS f ≡ false
        → same_field VmcsControl32.VMENTRY_EXCEPTION_ERR_CODE f ≡ false → same_field VmcsControl32.VMENTRY_INSTRUCTION_LEN f ≡ false
        → same_field VmcsControl32.VMENTRY_INTERRUPTION_INFO_FIELD f ≡ false → Same f v (vmcs_after (with_stack v launched stack) e a)
    go Empty k primary code long info = k
    go Held k primary code long info = same_put f h v (with_stack v launched stack) VmcsControl32.PRIMARY_PROCBASED_EXEC_CONTROLS _ primary k
    go Written k primary code long info =
        injection_keeps (Same f v) (λ g. same_field g f ≡ false) (same_put f h v) (with_stack v launched stack) e code long info k

-- ---- what an injection leaves

abbrev info : Field
info = VmcsControl32.VMENTRY_INTERRUPTION_INFO_FIELD

module _ (v : Vmcs) (e : Event) (s : Sized v) where
  coded_sized : Sized (with_code v e)
  coded_sized = (same_code VmcsReadOnly32.VMEXIT_INSTRUCTION_LEN (lit< tt) v e s refl).sized

  parts_sized : Sized (with_length (with_code v e) e)
  parts_sized = (same_length_lem VmcsReadOnly32.VMEXIT_INSTRUCTION_LEN (lit< tt) v (with_code v e) e refl
      (same_code VmcsReadOnly32.VMEXIT_INSTRUCTION_LEN (lit< tt) v e s refl)).sized

  pub injected_word : value_of (injected v e) info ≡ word_of v e
  unfolding injected
  injected_word = put_own (with_length (with_code v e) e) info (word_of v e) parts_sized (lit< tt)

  pub injected_code : value_of (injected v e) VmcsControl32.VMENTRY_EXCEPTION_ERR_CODE
      ≡ cond (code_goes_in v e) (cond e.coded e.code (value_of v VmcsReadOnly32.VMEXIT_INTERRUPTION_ERR_CODE))
      (value_of v VmcsControl32.VMENTRY_EXCEPTION_ERR_CODE)
  unfolding injected with_code code_of
  injected_code =
      put_same (with_length (with_code v e) e) info code (word_of v e) parts_sized (lit< tt) refl
      ∙ (same_length_lem code (lit< tt) (with_code v e) (with_code v e) e refl (record { sized = coded_sized; value = refl })).value
      ∙ go (code_goes_in v e)
    where
      code : Field
      code = VmcsControl32.VMENTRY_EXCEPTION_ERR_CODE

      x : ℕ
      x = cond e.coded e.code (value_of v VmcsReadOnly32.VMEXIT_INTERRUPTION_ERR_CODE)

      go : (b : Bool) → value_of (cond b (put v code x) v) code ≡ cond b x (value_of v code)
      go true = put_own v code x s (lit< tt)
      go false = refl

  pub injected_long : value_of (injected v e) VmcsControl32.VMENTRY_INSTRUCTION_LEN
      ≡ cond (is_soft (from_vector e.vector)) (value_of v VmcsReadOnly32.VMEXIT_INSTRUCTION_LEN) (value_of v VmcsControl32.VMENTRY_INSTRUCTION_LEN)
  unfolding injected with_length
  injected_long =
      put_same (with_length (with_code v e) e) info long (word_of v e) parts_sized (lit< tt) refl
      ∙ go (is_soft (from_vector e.vector))
      ∙ (λ i. cond (is_soft (from_vector e.vector)) ((same_code VmcsReadOnly32.VMEXIT_INSTRUCTION_LEN (lit< tt) v e s refl).value i)
      ((same_code long (lit< tt) v e s refl).value i))
    where
      long : Field
      long = VmcsControl32.VMENTRY_INSTRUCTION_LEN

      x : ℕ
      x = value_of (with_code v e) VmcsReadOnly32.VMEXIT_INSTRUCTION_LEN

      go : (b : Bool) → value_of (cond b (put (with_code v e) long x) (with_code v e)) long ≡ cond b x (value_of (with_code v e) long)
      go true = put_own (with_code v e) long x coded_sized (lit< tt)
      go false = refl

-- the word that an entry leaves where it writes the front is that of the fields before it: it does not write CR0
pub entered_word : (v : Vmcs) (launched : Bool) (stack : ℕ) (e : Event) → Sized v → value_of (vmcs_after (with_stack v launched stack) e Written) info ≡ word_of v e
unfolding vmcs_after
entered_word v launched stack e s =
    let z = same_stack VmcsGuestNW.CR0 (lit< tt) v launched stack s refl in
    injected_word (with_stack v launched stack) e z.sized ∙ ap (λ (cr0 : ℕ). event_word e.vector (code_in e.vector cr0)) z.value

-- ---- values within their fields

pub value_fits : (v : Vmcs) (g : Field) → VmcsFits v → value_of v g < 2 ^ width_bits g
value_fits v (Word16 k) m = m.w16.below k
value_fits v (Word64 k) m = m.w64.below k
value_fits v (Word32 k) m = m.w32.below k
value_fits v (Natural k) m = m.natural.below k

-- each value fits its field
abbrev pub AllFit : List Write → Type 0
AllFit [] = Unit {0}
AllFit (w ∷ ws) = (w.value < 2 ^ width_bits w.field) × AllFit ws

-- a test of it, for writes of known numbers
abbrev all_fit : List Write → Bool
all_fit [] = true
all_fit (w ∷ ws) = ltb w.value (2 ^ width_bits w.field) && all_fit ws

pub all_fit_lem : (ws : List Write) → T (all_fit ws) → AllFit ws
all_fit_lem [] t = tt
all_fit_lem (w ∷ ws) t = (ltb→lt _ _ (and_l (ltb w.value (2 ^ width_bits w.field)) (all_fit ws) t), all_fit_lem ws (and_r (ltb w.value (2 ^ width_bits w.field)) (all_fit ws) t))

pub applied_fits : (ws : List Write) (v : Vmcs) → VmcsFits v → AllFit ws → VmcsFits (applied ws v)
applied_fits [] v m a = m
applied_fits (w ∷ ws) v m a = applied_fits ws (put v w.field w.value) (put_fits m w.field w.value a.0) a.1

pub fits_sized : (v : Vmcs) → VmcsFits v → Sized v
fits_sized v m = record { w16 = m.w16.sized; w32 = m.w32.sized; w64 = m.w64.sized; natural = m.natural.sized }
