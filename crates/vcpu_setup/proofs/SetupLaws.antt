-- The laws of an accepted setup, a refused one changes nothing, and both keep a lawful session lawful. Assumes nothing.
use Prim.Native.Nat.{ℕ, zero, suc, ◌<◌}
use native.Mathlib.Omega.{arith}
use mathlib.Core.Path.{◌≡◌, refl, sym, ◌∙◌}
use mathlib.Core.Bool.{Bool, true, false, not, cond, ◌&&◌}
use lib.Dec.{T, eqb, eqb→eq, eqb-suc-zero, lit<}
use lib.ListN.{length}
use Rattle.bits.specs.Words.{Within}
use Rattle.bits.proofs.WordLaws as W
use Rattle.vmcs.specs.Control.{pair_at}
use Rattle.vmcs.specs.Cr.{first_cr0}
use Rattle.vmcs.specs.Field.{Field, place_of, size_of, value_of}
use Rattle.vmcs.specs.Writes.{Sized, last_of}
use Rattle.vmcs.specs.declared.Vmcs.{Vmcs}
use Rattle.vmcs.specs.Names.VmcsControl32 as VmcsControl32
use Rattle.vmcs.specs.Names.VmcsControlNW as VmcsControlNW
use Rattle.vmcs.specs.Names.VmcsGuest32 as VmcsGuest32
use Rattle.vmcs.specs.Names.VmcsGuestNW as VmcsGuestNW
use Rattle.vmcs.proofs.CrLaws.{cr0_permitted, cr4_permitted}
use Rattle.vmcs.proofs.WriteLaws.{read_applied, sized_applied}
use Rattle.vcpu_session.specs.Phase as Phase
use Rattle.vcpu_session.specs.Session.{is_unlawful, Lawful}
use Rattle.vcpu_session.specs.declared.Capabilities.{Capabilities}
use Rattle.vcpu_session.specs.declared.Session.{Session}
use Rattle.vcpu_session.proofs.LawfulLaws.{lawful_alike, lawful_phase}
use Rattle.vcpu_events.specs.Queue.{answered}
use Rattle.vcpu_setup.specs.Capability.{pairs_of, olds_of, capabilities_of}
use Rattle.vcpu_setup.specs.Words.{words_refusal, setup_words}
use Rattle.vcpu_setup.specs.Writes.{setup_writes, words_of, cr0_of, cr4_of, vmcs_set}
use Rattle.vcpu_setup.specs.Setup.{pair_consistent, fixed_consistent, consistent, setup_refusal, readied, setup_of}
use Rattle.vcpu_setup.specs.declared.Features.{Features}
use Rattle.vcpu_setup.specs.declared.Arguments.{Arguments}
use Rattle.vcpu_setup.specs.Laws.{control_words_of, Typed, SetUp}
use Rattle.vcpu_setup.proofs.WordsLaws.{setup_permitted, cr0_owned, cr4_owned}

-- ---- what acceptance says

split : (u p c : Bool) (n : ℕ) → cond {A = ℕ} u 2 (cond (not p) 1 (cond c n 6)) ≡ 0 → (u ≡ false) × (p ≡ true) × (c ≡ true) × (n ≡ 0)
split true p c n e = absurd (omega arith)
split false false c n e = absurd (omega arith)
split false true false n e = absurd (omega arith)
split false true true n e = (refl, refl, refl, e)

-- a session that a record holds, fresh, the words consistent, and each of them to be had
pub passed : (s : Session) (c : Capabilities) (f : Features) → setup_refusal s c f ≡ 0
    → (is_unlawful s ≡ false) × (eqb s.progress.phase Phase.FRESH ≡ true) × (consistent c ≡ true) × (words_refusal c.pairs f ≡ 0)
unfolding setup_refusal
passed s c f e = split (is_unlawful s) (eqb s.progress.phase Phase.FRESH) (consistent c) _ e

abbrev five_pairs : Capabilities → Bool
five_pairs c =
    pair_consistent (pair_at c.pairs 0) && pair_consistent (pair_at c.pairs 1) && pair_consistent (pair_at c.pairs 2)
    && pair_consistent (pair_at c.pairs 3) && pair_consistent (pair_at c.pairs 4)

module _ (c : Capabilities) (t : T (consistent c)) where
  abbrev in0 : Bool
  in0 = fixed_consistent c.cr0

  abbrev in4 : Bool
  in4 = fixed_consistent c.cr4

  pub pairs_consistent : T (five_pairs c)
  unfolding consistent
  pairs_consistent = W.and_l (five_pairs c) in0 (W.and_l (five_pairs c && in0) in4 t)

  pub cr0_consistent : Within c.cr0.fixed0 c.cr0.fixed1
  unfolding consistent
  cr0_consistent = W.within_of _ _ (eqb→eq _ _ (W.and_r (five_pairs c) in0 (W.and_l (five_pairs c && in0) in4 t)))

  pub cr4_consistent : Within c.cr4.fixed0 c.cr4.fixed1
  unfolding consistent
  cr4_consistent = W.within_of _ _ (eqb→eq _ _ (W.and_r (five_pairs c && in0) in4 t))

-- ---- what is left in the fields

module _ (s : Session) (a : Arguments) (sized : Sized s.vmcs) where
  abbrev after : Vmcs
  after = vmcs_set s.vmcs a

  -- each field after setup
  reads : (f : Field) → place_of f < size_of f → value_of after f ≡ last_of (setup_writes a) f (value_of s.vmcs f)
  reads f h = read_applied (setup_writes a) s.vmcs f sized h

  words_are : control_words_of after ≡ words_of a
  unfolding setup_writes setup_words
  words_are =
      rw (
        reads VmcsControl32.PINBASED_EXEC_CONTROLS (lit< tt),
        reads VmcsControl32.PRIMARY_PROCBASED_EXEC_CONTROLS (lit< tt),
        reads VmcsControl32.SECONDARY_PROCBASED_EXEC_CONTROLS (lit< tt),
        reads VmcsControl32.VMEXIT_CONTROLS (lit< tt),
        reads VmcsControl32.VMENTRY_CONTROLS (lit< tt),
      )

  cr0_is : value_of after VmcsGuestNW.CR0 ≡ (cr0_of a.msrs).value
  unfolding setup_writes
  cr0_is = reads VmcsGuestNW.CR0 (lit< tt)

  cr4_is : value_of after VmcsGuestNW.CR4 ≡ (cr4_of a.msrs).value
  unfolding setup_writes
  cr4_is = reads VmcsGuestNW.CR4 (lit< tt)

  cr0_mask_is : value_of after VmcsControlNW.CR0_GUEST_HOST_MASK ≡ (cr0_of a.msrs).mask
  unfolding setup_writes
  cr0_mask_is = reads VmcsControlNW.CR0_GUEST_HOST_MASK (lit< tt)

  cr4_mask_is : value_of after VmcsControlNW.CR4_GUEST_HOST_MASK ≡ (cr4_of a.msrs).mask
  unfolding setup_writes
  cr4_mask_is = reads VmcsControlNW.CR4_GUEST_HOST_MASK (lit< tt)

  rflags_is : value_of after VmcsGuestNW.RFLAGS ≡ 2
  unfolding setup_writes
  rflags_is = reads VmcsGuestNW.RFLAGS (lit< tt)

  interruptibility_is : value_of after VmcsGuest32.INTERRUPTIBILITY_STATE ≡ 0
  unfolding setup_writes
  interruptibility_is = reads VmcsGuest32.INTERRUPTIBILITY_STATE (lit< tt)

-- ---- the laws

-- the session that setup readies, by what acceptance says
readied_is : (s : Session) (a : Arguments) → Sized s.vmcs → Typed a.msrs → T (consistent (capabilities_of a.msrs))
    → words_refusal (pairs_of a.msrs) a.features ≡ 0 → SetUp s a (readied s a (capabilities_of a.msrs))
unfolding readied
readied_is s a sized typed t z =
    let m = a.msrs in
    let c : Capabilities = capabilities_of m in
    record {
      phase = refl;
      words = rw (words_are s a sized) (setup_permitted (pairs_of m) (olds_of m) a.features (pairs_consistent c t) z);
      cr0 = rw (cr0_is s a sized) (cr0_permitted _ _ first_cr0 typed.cr0fixed0 (cr0_consistent c t));
      cr4 = rw (cr4_is s a sized) (cr4_permitted _ _ 0 (cr4_consistent c t));
      cr0_mask = rw (cr0_mask_is s a sized) (cr0_owned _ _ first_cr0 typed.cr0fixed0 typed.cr0fixed1);
      cr4_mask = rw (cr4_mask_is s a sized) (cr4_owned _ _ 0 typed.cr4fixed1);
      rflags = rflags_is s a sized;
      interruptibility = interruptibility_is s a sized;
      fields = reads s a sized;
      sized = sized_applied (setup_writes a) s.vmcs sized;
      capabilities = refl;
      xcr0 = refl;
      supported = refl;
      regs = refl;
      queue = refl;
      launched = refl;
      entries = refl;
      held = refl;
    }

-- the refusal is the number that is answered, and the session the one that is readied where it is 0
decided : (n : ℕ) (s t : Session) → ((cond (eqb n 0) (answered 0 t) (answered n s)).refusal ≡ n) × (n ≡ 0 → (cond (eqb n 0) (answered 0 t) (answered n s)).session ≡ t)
decided zero s t = (refl, λ _. refl)
decided (suc n) s t = (rw (eqb-suc-zero n), λ e. absurd (omega arith))

module _ (s : Session) (a : Arguments) where
  abbrev c : Capabilities
  c = capabilities_of a.msrs

  pub setup_number : (setup_of s a).refusal ≡ setup_refusal s c a.features
  unfolding setup_of
  setup_number = (decided (setup_refusal s c a.features) s (readied s a c)).0

  -- an accepted setup
  pub set_up_lem : Sized s.vmcs → Typed a.msrs → (setup_of s a).refusal ≡ 0 → SetUp s a (setup_of s a).session
  unfolding setup_of
  set_up_lem sized typed e =
      let z : setup_refusal s c a.features ≡ 0 = sym setup_number ∙ e in
      let p = passed s c a.features z in
      rw ((decided (setup_refusal s c a.features) s (readied s a c)).1 z) (readied_is s a sized typed (rw p.2 tt) p.3)

  -- a refused setup changes nothing
  pub refused_keeps : ((setup_of s a).refusal ≡ 0 → ⊥) → (setup_of s a).session ≡ s
  unfolding setup_of
  refused_keeps n = keeps (setup_refusal s c a.features) n
    where
      keeps : (m : ℕ) → ((cond (eqb m 0) (answered 0 (readied s a c)) (answered m s)).refusal ≡ 0 → ⊥) → (cond (eqb m 0) (answered 0 (readied s a c)) (answered m s)).session ≡ s
      keeps zero n = absurd (n refl)
      keeps (suc m) n = rw (eqb-suc-zero m)

  -- a lawful session stays lawful
  pub keeps_setup : Lawful s → Lawful (setup_of s a).session
  unfolding setup_of readied
  keeps_setup l = go (eqb (setup_refusal s c a.features) 0)
    where
      go : (t : Bool) → Lawful (cond t (answered 0 (readied s a c)) (answered (setup_refusal s c a.features) s)).session
      go true = lawful_alike (lawful_phase l Phase.READY (omega arith)) refl
      go false = l

-- setup writes 93 fields
pub ninety_three : (a : Arguments) → length (setup_writes a) ≡ 93
unfolding setup_writes
ninety_three a = refl
