-- The bit of IA32_VMX_BASIC that setup looks at, by its place (SDM 3D, A.1). Assumes nothing.
use Rattle.std.specs.Prelude.{ℕ}

-- controls that default to 1 may be cleared to 0: IA32_VMX_TRUE_PINBASED_CTLS, .. _PROCBASED_CTLS, .. _EXIT_CTLS and .. _ENTRY_CTLS are there
abbrev pub VMX_FLEX_CONTROLS : ℕ
VMX_FLEX_CONTROLS = 55
