-- Setup does not look at the capability words that are not used: its number and its session are the same whatever they hold. Assumes nothing.
use Prim.Native.Nat.{ℕ, ◌^◌}
use mathlib.Core.Path.{◌≡◌, refl}
use mathlib.Core.Bool.{Bool, true, false, cond}
use mathlib.Core.List.{[], ◌∷◌, ◌++◌}
use lib.Dec.{eqb}
use Rattle.bits.specs.Words.{bit, low32}
use Rattle.vmcs.specs.Cr.{cr0_words, cr4_words, first_cr0}
use Rattle.vmcs.specs.Flags.XCr0Flags as XCr0Flags
use Rattle.vmcs.specs.Writes.{applied}
use Rattle.structs.specs.EPTPointer.{ept_pointer}
use Rattle.vcpu_session.specs.Phase as Phase
use Rattle.vcpu_session.specs.Session.{with_progress, with_vmcs, with_capabilities, with_xcr0, in_phase}
use Rattle.vcpu_session.specs.declared.Session.{Session}
use Rattle.vcpu_events.specs.Queue.{answered}
use Rattle.vcpu_setup.specs.Capability.{used, halves, olds_of, fixed_words, capabilities_of}
use Rattle.vcpu_setup.specs.Words.{setup_words}
use Rattle.vcpu_setup.specs.Writes.{host_writes, cr_writes, segments_writes, guest_writes, control_writes, setup_writes}
use Rattle.vcpu_setup.specs.Setup.{setup_refusal, readied, setup_of}
use Rattle.vcpu_setup.specs.Used.{SameUsed, SameArguments, SameSetup}
use Rattle.vcpu_setup.specs.declared.CapabilityMsrs.{CapabilityMsrs}
use Rattle.vcpu_setup.specs.declared.Arguments.{Arguments}

-- the words used of two processors, by the bit that chooses
used_same : (x y p q f g : ℕ) → bit 55 x ≡ bit 55 y → (bit 55 x ≡ false → p ≡ q) → (bit 55 x ≡ true → f ≡ g) → used x p f ≡ used y q g
unfolding used
used_same x y p q f g e plain full = rw (← e) (go (bit 55 x) plain full)
  where
    go : (t : Bool) → (t ≡ false → p ≡ q) → (t ≡ true → f ≡ g) → cond t f p ≡ cond t g q
    go true plain full = full refl
    go false plain full = plain refl

module _ (m n : CapabilityMsrs) (u : SameUsed m n) where
  abbrev word : (p q f g : ℕ) → (bit 55 m.basic ≡ false → p ≡ q) → (bit 55 m.basic ≡ true → f ≡ g) → used m.basic p f ≡ used n.basic q g
  word p q f g plain full = used_same m.basic n.basic p q f g u.chooses plain full

  capabilities_same : capabilities_of m ≡ capabilities_of n
  capabilities_same =
      λ i. record {
        pairs = halves (word _ _ _ _ (λ e. (u.plain e).0) (λ e. (u.superseding e).0) i)
            ∷ halves (word _ _ _ _ (λ e. (u.plain e).1) (λ e. (u.superseding e).1) i)
            ∷ halves (u.procbased2 i)
            ∷ halves (word _ _ _ _ (λ e. (u.plain e).2) (λ e. (u.superseding e).2) i)
            ∷ halves (word _ _ _ _ (λ e. (u.plain e).3) (λ e. (u.superseding e).3) i)
            ∷ [];
        cr0 = fixed_words (u.cr0.0 i) (u.cr0.1 i);
        cr4 = fixed_words (u.cr4.0 i) (u.cr4.1 i);
      }

  olds_same : olds_of m ≡ olds_of n
  olds_same = λ i. u.olds.0 i ∷ u.olds.1 i ∷ low32 (u.procbased2 i) ∷ u.olds.2 i ∷ u.olds.3 i ∷ []

module _ (s : Session) (a b : Arguments) (e : SameArguments a b) where
  abbrev kept : capabilities_of a.msrs ≡ capabilities_of b.msrs
  kept = capabilities_same a.msrs b.msrs e.msrs

  writes_same : setup_writes a ≡ setup_writes b
  unfolding setup_writes
  writes_same =
      λ i. host_writes (e.host i)
      ++ cr_writes (cr0_words (kept i).cr0.fixed0 (kept i).cr0.fixed1 first_cr0) (cr4_words (kept i).cr4.fixed0 (kept i).cr4.fixed1 0)
      ++ segments_writes
      ++ guest_writes (e.entry i) (e.pat i)
      ++ control_writes (setup_words (kept i).pairs (olds_same a.msrs b.msrs e.msrs i) (e.features i)) (ept_pointer (e.addresses i).eptroot) (e.addresses i)

  readied_same : readied s a (capabilities_of a.msrs) ≡ readied s b (capabilities_of b.msrs)
  unfolding readied
  readied_same =
      λ i. with_progress
      (with_xcr0 (with_capabilities (with_vmcs s (applied (writes_same i) s.vmcs)) (kept i)) (record { value = 2 ^ XCr0Flags.X87; supported = e.xcr0supported i }))
      (in_phase s.progress Phase.READY)

-- the same number and the same session
pub setup_same : (s : Session) (a b : Arguments) → SameSetup s a b
unfolding setup_of
setup_same s a b e =
    λ i. cond (eqb (setup_refusal s (kept s a b e i) (e.features i)) 0) (answered 0 (readied_same s a b e i))
    (answered (setup_refusal s (kept s a b e i) (e.features i)) s)
