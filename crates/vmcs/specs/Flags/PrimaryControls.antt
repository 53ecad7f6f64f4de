-- Primary processor-based VM-execution controls (SDM 3C, 25.6.2), by their places. Assumes nothing.
use Rattle.std.specs.Prelude.{ℕ}

abbrev pub INTERRUPT_WINDOW_EXITING : ℕ
INTERRUPT_WINDOW_EXITING = 2

abbrev pub CR3_LOAD_EXITING : ℕ
CR3_LOAD_EXITING = 15

abbrev pub CR3_STORE_EXITING : ℕ
CR3_STORE_EXITING = 16

abbrev pub CR8_LOAD_EXITING : ℕ
CR8_LOAD_EXITING = 19

abbrev pub CR8_STORE_EXITING : ℕ
CR8_STORE_EXITING = 20

abbrev pub USE_IO_BITMAPS : ℕ
USE_IO_BITMAPS = 25

abbrev pub USE_MSR_BITMAPS : ℕ
USE_MSR_BITMAPS = 28

abbrev pub SECONDARY_CONTROLS : ℕ
SECONDARY_CONTROLS = 31
