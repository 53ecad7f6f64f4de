-- The bits of RFLAGS (SDM 1, 3.4.3), by their places. Assumes nothing.
use Rattle.std.specs.Prelude.{ℕ}

abbrev pub INTERRUPT_FLAG : ℕ
INTERRUPT_FLAG = 9
