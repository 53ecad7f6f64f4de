-- What holds of a session from setup on: its five control words, CR0 and CR4 are permitted by what setup was given. Assumes nothing.
use Rattle.std.specs.Prelude.{ℕ, ◌<◌, ◌^◌, ◌≡◌, T}
use Rattle.std.specs.Int.Bits.{bit_and, bit_or}
use Rattle.bits.specs.Words.{bit, bit_not, Within, Permitted, PermittedBut}
use Rattle.vmcs.specs.Control.{pair_at}
use Rattle.vmcs.specs.Cr.{cr0_free, cr0_off}
use Rattle.vmcs.specs.Field.{Field, value_of}
use Rattle.vmcs.specs.Flags.PrimaryControls as PrimaryControls
use Rattle.vmcs.specs.Names.VmcsControl32 as VmcsControl32
use Rattle.vmcs.specs.Names.VmcsControlNW as VmcsControlNW
use Rattle.vmcs.specs.Names.VmcsGuestNW as VmcsGuestNW
use Rattle.vmcs.specs.Writes.{Sized}
use Rattle.vmcs.specs.declared.Vmcs.{Vmcs}
use Rattle.vmcs.specs.declared.controls.Pair.{Pair}
use Rattle.vcpu_session.specs.declared.Capabilities.{Capabilities}
use Rattle.vcpu_session.specs.declared.Session.{Session}
use Rattle.vcpu_exit.specs.declared.Report.{Report}

-- ---- what setup accepts: what must be 1 may be 1, and the words have their widths

pub record Consistent (c : Capabilities) : Type 0 where
  pub pairs : (k : ℕ) → k < 5 → Within (pair_at c.pairs k).allowed0 (pair_at c.pairs k).allowed1
  pub cr0 : Within c.cr0.fixed0 c.cr0.fixed1
  pub cr4 : Within c.cr4.fixed0 c.cr4.fixed1
  pub primary_fits : (pair_at c.pairs 1).allowed0 < 2 ^ 32
  pub cr0_fits : c.cr0.fixed1 < 2 ^ 64
  pub cr4_fits : c.cr4.fixed1 < 2 ^ 64

-- ---- what is judged in the session that an entry returns

abbrev pub PermittedBy : Pair → ℕ → Type 0
PermittedBy p word = Permitted p.allowed0 p.allowed1 word

-- every bit of low, and none outside high, bit k aside
pub record PermittedAside (k low high word : ℕ) : Type 0 where
  pub required : (i : ℕ) → (i ≡ k → ⊥) → T (bit i low) → T (bit i word)
  pub allowed : (i : ℕ) → (i ≡ k → ⊥) → T (bit i word) → T (bit i high)

-- each word by its pair, and CR0 (PE and PG may be clear) and CR4 by their fixed bits. Interrupt-window exiting, primary bit 2, is judged
-- where only allowed-1 has it
pub record AllPermitted (c : Capabilities) (v : Vmcs) : Type 0 where
  pub pin : PermittedBy (pair_at c.pairs 0) (value_of v VmcsControl32.PINBASED_EXEC_CONTROLS)
  pub primary : PermittedAside PrimaryControls.INTERRUPT_WINDOW_EXITING (pair_at c.pairs 1).allowed0 (pair_at c.pairs 1).allowed1
      (value_of v VmcsControl32.PRIMARY_PROCBASED_EXEC_CONTROLS)
  pub window : T (bit PrimaryControls.INTERRUPT_WINDOW_EXITING (pair_at c.pairs 1).allowed1)
      → (T (bit PrimaryControls.INTERRUPT_WINDOW_EXITING (pair_at c.pairs 1).allowed0) → ⊥)
      → PermittedBy (pair_at c.pairs 1) (value_of v VmcsControl32.PRIMARY_PROCBASED_EXEC_CONTROLS)
  pub secondary : PermittedBy (pair_at c.pairs 2) (value_of v VmcsControl32.SECONDARY_PROCBASED_EXEC_CONTROLS)
  pub exit : PermittedBy (pair_at c.pairs 3) (value_of v VmcsControl32.VMEXIT_CONTROLS)
  pub entry : PermittedBy (pair_at c.pairs 4) (value_of v VmcsControl32.VMENTRY_CONTROLS)
  pub cr0 : PermittedBut cr0_free c.cr0.fixed0 c.cr0.fixed1 (value_of v VmcsGuestNW.CR0)
  pub cr4 : PermittedBut 0 c.cr4.fixed0 c.cr4.fixed1 (value_of v VmcsGuestNW.CR4)

-- ---- the invariant

-- a control register that has every bit of must1, lies within fixed1, and whose guest/host mask is must1 and what must0 lacks
pub record Owned (must0 must1 fixed1 value mask : ℕ) : Type 0 where
  pub has : Within must1 value
  pub within : Within value fixed1
  pub owns : mask ≡ bit_or must1 (bit_not 64 must0)

-- the five words are permitted, primary bit 2 aside, and CR0 and CR4 and their masks are as `cr0_words` and `cr4_words` make them
pub record SoundWords (c : Capabilities) (value : Field → ℕ) : Type 0 where
  pub pin : PermittedBy (pair_at c.pairs 0) (value VmcsControl32.PINBASED_EXEC_CONTROLS)
  pub primary : PermittedAside PrimaryControls.INTERRUPT_WINDOW_EXITING (pair_at c.pairs 1).allowed0 (pair_at c.pairs 1).allowed1
      (value VmcsControl32.PRIMARY_PROCBASED_EXEC_CONTROLS)
  pub secondary : PermittedBy (pair_at c.pairs 2) (value VmcsControl32.SECONDARY_PROCBASED_EXEC_CONTROLS)
  pub exit : PermittedBy (pair_at c.pairs 3) (value VmcsControl32.VMEXIT_CONTROLS)
  pub entry : PermittedBy (pair_at c.pairs 4) (value VmcsControl32.VMENTRY_CONTROLS)
  pub cr0 : Owned (bit_and c.cr0.fixed1 (bit_not 64 cr0_off)) (bit_and c.cr0.fixed0 (bit_not 64 cr0_free)) c.cr0.fixed1
      (value VmcsGuestNW.CR0) (value VmcsControlNW.CR0_GUEST_HOST_MASK)
  pub cr4 : Owned c.cr4.fixed1 c.cr4.fixed0 c.cr4.fixed1 (value VmcsGuestNW.CR4) (value VmcsControlNW.CR4_GUEST_HOST_MASK)

pub record SoundFields (c : Capabilities) (v : Vmcs) : Type 0 where
  pub sized : Sized v
  pub words : SoundWords c (value_of v)

abbrev pub Sound : Session → Type 0
Sound s = SoundFields s.capabilities s.vmcs

-- CR0 and CR4 of a report are words of 64 bits
pub record Fits (r : Report) : Type 0 where
  pub cr0 : r.cr0 < 2 ^ 64
  pub cr4 : r.cr4 < 2 ^ 64
