-- EFER and the entry controls where the guest turns paging on (`update_efer`; document 01, "Where the Rust is followed against the manual"). Assumes nothing.
use Rattle.std.specs.Prelude.{ℕ, ◌/◌, ◌%◌, ◌^◌, Bool, cond, ◌&&◌, [], ◌∷◌, Result, Ok, Err, eqb}
use Rattle.std.specs.Int.Bits.{bit_and, bit_or}
use Rattle.bits.specs.Words.{bit, mask_of}
use Rattle.definitions.specs.Refusals.{number}
use Rattle.definitions.specs.declared.refusal.Refusal.{Refusal}
use Rattle.vmcs.specs.Flags.EferFlags as EferFlags
use Rattle.vmcs.specs.Flags.EntryControls as EntryControls
use Rattle.vmcs.specs.Control.{control_word}
use Rattle.vmcs.specs.declared.controls.Pair.{Pair}
use Rattle.vmcs.specs.declared.controls.EferWords.{EferWords}

unfoldable pub is_long_mode : ℕ → Bool
is_long_mode efer = bit EferFlags.LONG_MODE_ENABLE efer && bit EferFlags.LONG_MODE_ACTIVE efer

-- the entry pair does not allow IA-32e mode guest
unfoldable pub lacks_ia32e : ℕ → Bool
lacks_ia32e allowed1 = eqb (allowed1 / 2 ^ EntryControls.IA32E_MODE_GUEST % 2) 0

-- the bits of EFER that have a name (document 01: 0xFD01)
abbrev pub efer_named : ℕ
efer_named =
    mask_of
    (EferFlags.SYSTEM_CALL_EXTENSIONS ∷ EferFlags.LONG_MODE_ENABLE ∷ EferFlags.LONG_MODE_ACTIVE ∷ EferFlags.NO_EXECUTE_ENABLE
    ∷ EferFlags.SECURE_VIRTUAL_MACHINE_ENABLE ∷ EferFlags.LONG_MODE_SEGMENT_LIMIT_ENABLE ∷ EferFlags.FAST_FXSAVE_FXRSTOR
    ∷ EferFlags.TRANSLATION_CACHE_EXTENSION ∷ [])

-- LMA is set, and the bits without a name go
abbrev pub long_mode_efer : ℕ → ℕ
long_mode_efer efer = bit_or (bit_and efer efer_named) (2 ^ EferFlags.LONG_MODE_ACTIVE)

-- the entry word with IA-32e mode guest, by the control-word rule with the present word as old
abbrev pub long_mode_entry : Pair → ℕ → ℕ
long_mode_entry pair entry = control_word 32 pair.allowed0 pair.allowed1 entry (2 ^ EntryControls.IA32E_MODE_GUEST) 0

-- the number of the update, and EFER and the entry word after it: as they were where it is refused
pub record EferUpdate : Type 0 where
  pub refusal : ℕ
  pub efer : ℕ
  pub entry : ℕ

abbrev pub efer_update : ℕ → ℕ → ℕ → EferUpdate
efer_update n efer entry = record { refusal = n; efer = efer; entry = entry }

-- 8: the entry pair does not allow IA-32e mode guest
unfoldable pub update_efer : Pair → ℕ → ℕ → EferUpdate
update_efer pair efer entry =
    cond (is_long_mode efer) (efer_update 0 efer entry)
    (cond (lacks_ia32e pair.allowed1) (efer_update 8 efer entry)
    (efer_update 0 (long_mode_efer efer) (long_mode_entry pair entry)))

-- the update's answer in the code, beside EFER and the entry word that came in
abbrev pub updated_from : ℕ → ℕ → Result EferWords Refusal → EferUpdate
updated_from efer entry (Ok words) = efer_update 0 words.efer words.entry
updated_from efer entry (Err e) = efer_update (number e) efer entry
