-- The guest's CR0 and CR4 under the fixed bits of the processor (`set_cr`; SDM 3D, A.7 and A.8). Assumes nothing.
use Rattle.std.specs.Prelude.{ℕ, ◌^◌, List, [], ◌∷◌}
use Rattle.std.specs.Int.Bits.{bit_and, bit_or}
use Rattle.bits.specs.Words.{bit_not, mask_of}
use Rattle.vmcs.specs.Flags.Cr0Flags as Cr0Flags
use Rattle.vmcs.specs.Flags.Cr4Flags as Cr4Flags
use Rattle.vmcs.specs.Names.VmcsControlNW as VmcsControlNW
use Rattle.vmcs.specs.Names.VmcsGuestNW as VmcsGuestNW
use Rattle.vmcs.specs.Writes.{Write, ◌≔◌}
use Rattle.vmcs.specs.declared.controls.CrWords.{CrWords}

-- the value under the bits that may be 1 (must0) and those that must be 1 (must1), the read shadow, and the guest/host mask, at 64 bits
abbrev pub cr_words : ℕ → ℕ → ℕ → CrWords
cr_words must0 must1 val =
    record { value = bit_or (bit_and val must0) must1; shadow = val; mask = bit_or must1 (bit_not 64 must0) }

-- what the guest chooses freely in CR0, since unrestricted guest is on
abbrev pub cr0_free : ℕ
cr0_free = mask_of (Cr0Flags.PAGING ∷ Cr0Flags.PROTECTED_MODE_ENABLE ∷ [])

-- what is kept off in CR0: an exit leaves NW and CD as the guest had them, and the host would run with its caches off
abbrev pub cr0_off : ℕ
cr0_off = mask_of (Cr0Flags.NOT_WRITE_THROUGH ∷ Cr0Flags.CACHE_DISABLE ∷ [])

abbrev pub cr0_words : ℕ → ℕ → ℕ → CrWords
cr0_words fixed0 fixed1 val = cr_words (bit_and fixed1 (bit_not 64 cr0_off)) (bit_and fixed0 (bit_not 64 cr0_free)) val

-- VMXE is added to what is asked for, so that the read shadow has it too
abbrev pub cr4_words : ℕ → ℕ → ℕ → CrWords
cr4_words fixed0 fixed1 val = cr_words fixed1 fixed0 (bit_or val (2 ^ Cr4Flags.VIRTUAL_MACHINE_EXTENSIONS))

-- the first CR0 of a guest: NW, CD and ET
abbrev pub first_cr0 : ℕ
first_cr0 = mask_of (Cr0Flags.NOT_WRITE_THROUGH ∷ Cr0Flags.CACHE_DISABLE ∷ Cr0Flags.EXTENSION_TYPE ∷ [])

-- ---- what a move to CR0 or CR4 leaves (`set_cr`): value, read shadow and guest/host mask

abbrev pub cr0_writes : CrWords → List Write
cr0_writes w =
    VmcsGuestNW.CR0 ≔ w.value ∷ VmcsControlNW.CR0_READ_SHADOW ≔ w.shadow ∷ VmcsControlNW.CR0_GUEST_HOST_MASK ≔ w.mask ∷ []

abbrev pub cr4_writes : CrWords → List Write
cr4_writes w =
    VmcsGuestNW.CR4 ≔ w.value ∷ VmcsControlNW.CR4_READ_SHADOW ≔ w.shadow ∷ VmcsControlNW.CR4_GUEST_HOST_MASK ≔ w.mask ∷ []
