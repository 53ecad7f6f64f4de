-- The capability words that setup is given, and the pairs and old words that it uses (document 01, "Setup"; SDM 3D, appendix A). Assumes nothing.
use Rattle.std.specs.Prelude.{ℕ, cond, List, [], ◌∷◌}
use Rattle.bits.specs.Words.{bit, low32, high32}
use Rattle.vmcs.specs.Flags.VmxBasic as VmxBasic
use Rattle.vmcs.specs.declared.controls.Pair.{Pair}
use Rattle.vcpu_session.specs.declared.Fixed.{Fixed}
use Rattle.vcpu_session.specs.declared.Capabilities.{Capabilities}
use Rattle.vcpu_setup.specs.declared.CapabilityMsrs.{CapabilityMsrs}

-- allowed-0 in the low half, allowed-1 in the high half
abbrev pub halves : ℕ → Pair
halves msr = record { allowed0 = low32 msr; allowed1 = high32 msr }

-- the word used, by IA32_VMX_BASIC, of a plain one and the TRUE one that supersedes it (document 02, N4; SDM 3D, A.1 and A.2)
unfoldable pub used : (basic plain superseding : ℕ) → ℕ
used basic plain superseding = cond (bit VmxBasic.VMX_FLEX_CONTROLS basic) superseding plain

-- pin, primary, secondary, exit, entry: the words used; the secondary word has no TRUE one
abbrev pub pairs_of : CapabilityMsrs → List Pair
pairs_of m =
    halves (used m.basic m.pinbased m.truepinbased)
    ∷ halves (used m.basic m.procbased m.trueprocbased)
    ∷ halves m.procbased2
    ∷ halves (used m.basic m.exit m.trueexit)
    ∷ halves (used m.basic m.entry m.trueentry)
    ∷ []

-- the low halves of the plain words
abbrev pub olds_of : CapabilityMsrs → List ℕ
olds_of m = low32 m.pinbased ∷ low32 m.procbased ∷ low32 m.procbased2 ∷ low32 m.exit ∷ low32 m.entry ∷ []

abbrev pub fixed_words : ℕ → ℕ → Fixed
fixed_words x y = record { fixed0 = x; fixed1 = y }

-- what the session keeps
abbrev pub capabilities_of : CapabilityMsrs → Capabilities
capabilities_of m =
    record { pairs = pairs_of m; cr0 = fixed_words m.cr0fixed0 m.cr0fixed1; cr4 = fixed_words m.cr4fixed0 m.cr4fixed1 }
