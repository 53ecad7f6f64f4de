-- What setup looks at of the capability MSRs (document 02, N4; SDM 3D, A.1 and A.2). Assumes nothing.
use Rattle.std.specs.Prelude.{◌≡◌, true, false}
use Rattle.bits.specs.Words.{bit, low32}
use Rattle.vcpu_session.specs.declared.Session.{Session}
use Rattle.vcpu_setup.specs.Setup.{setup_of}
use Rattle.vcpu_setup.specs.declared.CapabilityMsrs.{CapabilityMsrs}
use Rattle.vcpu_setup.specs.declared.Arguments.{Arguments}

-- two processors whose MSRs are the same but for what is not looked at: the bits of IA32_VMX_BASIC other than 55; where that is clear the TRUE words; where it is set the
-- high halves of the plain words
pub record SameUsed (m n : CapabilityMsrs) : Type 0 where
  pub chooses : bit 55 m.basic ≡ bit 55 n.basic
  pub olds : (low32 m.pinbased ≡ low32 n.pinbased) × (low32 m.procbased ≡ low32 n.procbased) × (low32 m.exit ≡ low32 n.exit)
      × (low32 m.entry ≡ low32 n.entry)
  pub plain : bit 55 m.basic ≡ false → (m.pinbased ≡ n.pinbased) × (m.procbased ≡ n.procbased) × (m.exit ≡ n.exit) × (m.entry ≡ n.entry)
  pub superseding : bit 55 m.basic ≡ true
      → (m.truepinbased ≡ n.truepinbased) × (m.trueprocbased ≡ n.trueprocbased) × (m.trueexit ≡ n.trueexit) × (m.trueentry ≡ n.trueentry)
  pub procbased2 : m.procbased2 ≡ n.procbased2
  pub cr0 : (m.cr0fixed0 ≡ n.cr0fixed0) × (m.cr0fixed1 ≡ n.cr0fixed1)
  pub cr4 : (m.cr4fixed0 ≡ n.cr4fixed0) × (m.cr4fixed1 ≡ n.cr4fixed1)

-- and the other arguments are the same
pub record SameArguments (a b : Arguments) : Type 0 where
  pub msrs : SameUsed a.msrs b.msrs
  pub host : a.host ≡ b.host
  pub entry : a.entry ≡ b.entry
  pub pat : a.pat ≡ b.pat
  pub addresses : a.addresses ≡ b.addresses
  pub xcr0supported : a.xcr0supported ≡ b.xcr0supported
  pub features : a.features ≡ b.features

-- setup gives both the same number and the same session
abbrev pub SameSetup : Session → Arguments → Arguments → Type 0
SameSetup s a b = SameArguments a b → setup_of s a ≡ setup_of s b
