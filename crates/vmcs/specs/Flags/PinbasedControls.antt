-- Pin-based VM-execution controls (SDM 3C, 25.6.1), by their places. Assumes nothing.
use Rattle.std.specs.Prelude.{ℕ}

abbrev pub EXTERNAL_INTERRUPT_EXITING : ℕ
EXTERNAL_INTERRUPT_EXITING = 0

abbrev pub NMI_EXITING : ℕ
NMI_EXITING = 3
