-- The five control words at setup: what is set and cleared, the words, and their refusals (document 01, "Setup"). Assumes nothing.
use Rattle.std.specs.Prelude.{ℕ, cond, not, List, [], ◌∷◌, eqb, get_or}
use Rattle.std.specs.Int.Bits.{bit_and, bit_or}
use Rattle.bits.specs.Words.{shl, flag, mask_of}
use Rattle.bits.specs.Refuses.{or_else}
use Rattle.vmcs.specs.Control.{control_word, pair_at}
use Rattle.vmcs.specs.Flags.PinbasedControls as PinbasedControls
use Rattle.vmcs.specs.Flags.PrimaryControls as PrimaryControls
use Rattle.vmcs.specs.Flags.SecondaryControls as SecondaryControls
use Rattle.vmcs.specs.Flags.ExitControls as ExitControls
use Rattle.vmcs.specs.Flags.EntryControls as EntryControls
use Rattle.vmcs.specs.declared.controls.Pair.{Pair}
use Rattle.vcpu_setup.specs.declared.Demand.{Demand}
use Rattle.vcpu_setup.specs.declared.Features.{Features}

abbrev pub pin_set : ℕ
pin_set = mask_of (PinbasedControls.NMI_EXITING ∷ PinbasedControls.EXTERNAL_INTERRUPT_EXITING ∷ [])

abbrev pub primary_set : ℕ
primary_set = mask_of (PrimaryControls.USE_IO_BITMAPS ∷ PrimaryControls.USE_MSR_BITMAPS ∷ PrimaryControls.SECONDARY_CONTROLS ∷ [])

abbrev pub primary_clear : ℕ
primary_clear =
    mask_of
    (PrimaryControls.CR3_LOAD_EXITING ∷ PrimaryControls.CR3_STORE_EXITING ∷ PrimaryControls.CR8_LOAD_EXITING ∷ PrimaryControls.CR8_STORE_EXITING ∷ [])

-- EPT and unrestricted guest, plus RDTSCP, INVPCID and XSAVES where CPUID offers them
abbrev pub secondary_set : Features → ℕ
secondary_set f =
    bit_or
    (bit_or (bit_or (shl 32 (flag f.rdtscp) SecondaryControls.ENABLE_RDTSCP) (shl 32 (flag f.invpcid) SecondaryControls.ENABLE_INVPCID))
    (shl 32 (flag f.xsaves) SecondaryControls.ENABLE_XSAVES_XRSTORS))
    (mask_of (SecondaryControls.ENABLE_EPT ∷ SecondaryControls.UNRESTRICTED_GUEST ∷ []))

abbrev pub exit_set : ℕ
exit_set =
    mask_of
    (ExitControls.HOST_ADDRESS_SPACE_SIZE ∷ ExitControls.ACK_INTERRUPT_ON_EXIT ∷ ExitControls.SAVE_IA32_PAT ∷ ExitControls.LOAD_IA32_PAT
    ∷ ExitControls.SAVE_IA32_EFER ∷ ExitControls.LOAD_IA32_EFER ∷ [])

abbrev pub entry_set : ℕ
entry_set = mask_of (EntryControls.LOAD_IA32_PAT ∷ EntryControls.LOAD_IA32_EFER ∷ [])

-- what is set and cleared of each word: pin, primary, secondary, exit, entry
abbrev pub to_set : ℕ → Demand
to_set set = record { set = set; clear = 0 }

abbrev pub demands : Features → List Demand
demands f = to_set pin_set ∷ record { set = primary_set; clear = primary_clear } ∷ to_set (secondary_set f) ∷ to_set exit_set ∷ to_set entry_set ∷ []

-- ---- refusals

-- 8: a set bit is not in allowed-1. 9: a cleared bit is in allowed-0
unfoldable pub bits_refusal : Pair → ℕ → ℕ → ℕ
bits_refusal pair set clear =
    cond (not (eqb (bit_and set pair.allowed1) set)) 8
    (cond (not (eqb (bit_and pair.allowed0 clear) 0)) 9 0)

-- word by word
unfoldable pub words_refusal : List Pair → Features → ℕ
words_refusal pairs f =
    or_else (bits_refusal (pair_at pairs 0) pin_set 0)
    (or_else (bits_refusal (pair_at pairs 1) primary_set primary_clear)
    (or_else (bits_refusal (pair_at pairs 2) (secondary_set f) 0)
    (or_else (bits_refusal (pair_at pairs 3) exit_set 0) (bits_refusal (pair_at pairs 4) entry_set 0))))

-- ---- the words

abbrev pub setup_word : List Pair → List ℕ → ℕ → ℕ → ℕ → ℕ
setup_word pairs olds k set clear = control_word 32 (pair_at pairs k).allowed0 (pair_at pairs k).allowed1 (get_or olds k 0) set clear

unfoldable pub setup_words : List Pair → List ℕ → Features → List ℕ
setup_words pairs olds f =
    setup_word pairs olds 0 pin_set 0
    ∷ setup_word pairs olds 1 primary_set primary_clear
    ∷ setup_word pairs olds 2 (secondary_set f) 0
    ∷ setup_word pairs olds 3 exit_set 0
    ∷ setup_word pairs olds 4 entry_set 0
    ∷ []
