-- VM-exit controls (SDM 3C, 25.7.1), by their places. Assumes nothing.
use Rattle.std.specs.Prelude.{ℕ}

abbrev pub HOST_ADDRESS_SPACE_SIZE : ℕ
HOST_ADDRESS_SPACE_SIZE = 9

abbrev pub ACK_INTERRUPT_ON_EXIT : ℕ
ACK_INTERRUPT_ON_EXIT = 15

abbrev pub SAVE_IA32_PAT : ℕ
SAVE_IA32_PAT = 18

abbrev pub LOAD_IA32_PAT : ℕ
LOAD_IA32_PAT = 19

abbrev pub SAVE_IA32_EFER : ℕ
SAVE_IA32_EFER = 20

abbrev pub LOAD_IA32_EFER : ℕ
LOAD_IA32_EFER = 21
