-- What an accepted setup leaves (document 01, "Setup"). Assumes nothing.
use Rattle.std.specs.Prelude.{ℕ, ◌<◌, ◌^◌, ◌≡◌, List, [], ◌∷◌, T}
use Rattle.bits.specs.Words.{bit, PermittedBut}
use Rattle.vmcs.specs.Control.{EachPermitted}
use Rattle.vmcs.specs.Cr.{cr0_free}
use Rattle.vmcs.specs.Field.{Field, place_of, size_of, value_of}
use Rattle.vmcs.specs.Writes.{Sized, last_of}
use Rattle.vmcs.specs.declared.Vmcs.{Vmcs}
use Rattle.vmcs.specs.Names.VmcsControl32 as VmcsControl32
use Rattle.vmcs.specs.Names.VmcsControlNW as VmcsControlNW
use Rattle.vmcs.specs.Names.VmcsGuest32 as VmcsGuest32
use Rattle.vmcs.specs.Names.VmcsGuestNW as VmcsGuestNW
use Rattle.vcpu_session.specs.Phase as Phase
use Rattle.vcpu_session.specs.declared.Session.{Session}
use Rattle.vcpu_setup.specs.Capability.{pairs_of, capabilities_of}
use Rattle.vcpu_setup.specs.Writes.{setup_writes}
use Rattle.vcpu_setup.specs.declared.CapabilityMsrs.{CapabilityMsrs}
use Rattle.vcpu_setup.specs.declared.Arguments.{Arguments}

-- pin, primary, secondary, exit, entry
abbrev pub control_words_of : Vmcs → List ℕ
control_words_of v =
    value_of v VmcsControl32.PINBASED_EXEC_CONTROLS
    ∷ value_of v VmcsControl32.PRIMARY_PROCBASED_EXEC_CONTROLS
    ∷ value_of v VmcsControl32.SECONDARY_PROCBASED_EXEC_CONTROLS
    ∷ value_of v VmcsControl32.VMEXIT_CONTROLS
    ∷ value_of v VmcsControl32.VMENTRY_CONTROLS
    ∷ []

-- a guest/host mask of 64 bits owns what the processor fixes: each bit that must be 1, but for those of free, and each that must be 0
pub record Owns (free fixed0 fixed1 mask : ℕ) : Type 0 where
  pub ones : (i : ℕ) → T (bit i fixed0) → (T (bit i free) → ⊥) → T (bit i mask)
  pub zeros : (i : ℕ) → i < 64 → (T (bit i fixed1) → ⊥) → T (bit i mask)

-- the fixed bits are words of 64 bits, as every capability MSR is
pub record Typed (m : CapabilityMsrs) : Type 0 where
  pub cr0fixed0 : m.cr0fixed0 < 2 ^ 64
  pub cr0fixed1 : m.cr0fixed1 < 2 ^ 64
  pub cr4fixed1 : m.cr4fixed1 < 2 ^ 64

-- r is what setup leaves of s. The words are judged by the pairs used, of the capability MSRs given; PE and PG of CR0 are free
pub record SetUp (s : Session) (a : Arguments) (r : Session) : Type 0 where
  pub phase : r.progress.phase ≡ Phase.READY
  pub words : EachPermitted (pairs_of a.msrs) (control_words_of r.vmcs)
  pub cr0 : PermittedBut cr0_free a.msrs.cr0fixed0 a.msrs.cr0fixed1 (value_of r.vmcs VmcsGuestNW.CR0)
  pub cr4 : PermittedBut 0 a.msrs.cr4fixed0 a.msrs.cr4fixed1 (value_of r.vmcs VmcsGuestNW.CR4)
  pub cr0_mask : Owns cr0_free a.msrs.cr0fixed0 a.msrs.cr0fixed1 (value_of r.vmcs VmcsControlNW.CR0_GUEST_HOST_MASK)
  pub cr4_mask : Owns 0 a.msrs.cr4fixed0 a.msrs.cr4fixed1 (value_of r.vmcs VmcsControlNW.CR4_GUEST_HOST_MASK)
  pub rflags : value_of r.vmcs VmcsGuestNW.RFLAGS ≡ 2
  pub interruptibility : value_of r.vmcs VmcsGuest32.INTERRUPTIBILITY_STATE ≡ 0
  -- each field: what setup writes to it, or what it held
  pub fields : (f : Field) → place_of f < size_of f → value_of r.vmcs f ≡ last_of (setup_writes a) f (value_of s.vmcs f)
  pub sized : Sized r.vmcs
  pub capabilities : r.capabilities ≡ capabilities_of a.msrs
  pub xcr0 : r.xcr0.value ≡ 1
  pub supported : r.xcr0.supported ≡ a.xcr0supported
  -- the rest is as it was
  pub regs : r.regs ≡ s.regs
  pub queue : r.queue ≡ s.queue
  pub launched : r.progress.launched ≡ s.progress.launched
  pub entries : r.progress.entries ≡ s.progress.entries
  pub held : r.progress.held ≡ s.progress.held
