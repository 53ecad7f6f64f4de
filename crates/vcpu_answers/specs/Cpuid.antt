-- CPUID as the guest sees it (document 01, "Where the Rust is followed against the manual"; `handle_cpuid`; SDM 2A, CPUID). Assumes nothing.
use Rattle.std.specs.Prelude.{ℕ, cond, List, [], ◌∷◌, eqb, drop}
use Rattle.std.specs.Int.Bits.{bit_and, bit_or}
use Rattle.bits.specs.LittleEndian.{little_endian}
use Rattle.bits.specs.Words.{bit_not, low32, mask_of}
use Rattle.regs.specs.Registers.{with_reg}
use Rattle.regs.specs.declared.GeneralRegisters.{GeneralRegisters}
use Rattle.vcpu_exit.specs.declared.CpuidWords.{CpuidWords}

abbrev pub cpuid_words : ℕ → ℕ → ℕ → ℕ → CpuidWords
cpuid_words a b c d = record { eax = a; ebx = b; ecx = c; edx = d }

-- ---- leaf 0x40000000

-- the vendor text, RVMRVMRVMRVM
abbrev pub vendor_text : List ℕ
vendor_text = 0x52 ∷ 0x56 ∷ 0x4D ∷ 0x52 ∷ 0x56 ∷ 0x4D ∷ 0x52 ∷ 0x56 ∷ 0x4D ∷ 0x52 ∷ 0x56 ∷ 0x4D ∷ []

-- the highest hypervisor leaf, and the text as three little-endian words
unfoldable pub vendor_info : CpuidWords
vendor_info = cpuid_words 0x40000001 (little_endian 4 vendor_text) (little_endian 4 (drop 4 vendor_text)) (little_endian 4 (drop 8 vendor_text))

-- ---- the other leaves

-- leaf 1: ECX bit 5, VMX, is cleared and bit 31, a hypervisor, set; bit 7 is cleared in EAX
abbrev pub feature_info : CpuidWords → CpuidWords
feature_info h =
    cpuid_words (bit_and h.eax (bit_not 32 (mask_of (7 ∷ [])))) h.ebx (bit_or (bit_and h.ecx (bit_not 32 (mask_of (5 ∷ [])))) (mask_of (31 ∷ []))) h.edx

-- leaf 7 where all of RCX is 0: ECX bits 5, WAITPKG, and 16, LA57, are cleared
unfoldable pub extended_features : ℕ → CpuidWords → CpuidWords
extended_features rcx h = cond (eqb rcx 0) (cpuid_words h.eax h.ebx (bit_and h.ecx (bit_not 32 (mask_of (5 ∷ 16 ∷ [])))) h.edx) h

-- leaf 0x16: 3,000 MHz where the host gives no frequency
unfoldable pub frequency_info : CpuidWords → CpuidWords
frequency_info h = cond (eqb h.eax 0) (cpuid_words 3000 h.ebx h.ecx h.edx) h

-- leaf 0x40000001 has no features; all other leaves are the host's
unfoldable pub leaf_words : ℕ → ℕ → CpuidWords → CpuidWords
leaf_words leaf rcx h =
    cond (eqb leaf 1) (feature_info h)
    (cond (eqb leaf 7) (extended_features rcx h)
    (cond (eqb leaf 0x16) (frequency_info h)
    (cond (eqb leaf 0x40000000) vendor_info
    (cond (eqb leaf 0x40000001) (cpuid_words 0 0 0 0) h))))

-- ---- the registers: RAX, RBX, RCX and RDX get the words, their high halves are zero

unfoldable pub with_words : GeneralRegisters → CpuidWords → GeneralRegisters
with_words g w = with_reg (with_reg (with_reg (with_reg g 0 w.eax) 3 w.ebx) 1 w.ecx) 2 w.edx

-- the leaf is EAX
unfoldable pub handle_cpuid : GeneralRegisters → CpuidWords → GeneralRegisters
handle_cpuid g host = with_words g (leaf_words (low32 g.rax) g.rcx host)
