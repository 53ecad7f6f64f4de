-- VM-entry controls (SDM 3C, 25.8.1), by their places. Assumes nothing.
use Rattle.std.specs.Prelude.{ℕ}

abbrev pub IA32E_MODE_GUEST : ℕ
IA32E_MODE_GUEST = 9

abbrev pub LOAD_IA32_PAT : ℕ
LOAD_IA32_PAT = 14

abbrev pub LOAD_IA32_EFER : ℕ
LOAD_IA32_EFER = 15
