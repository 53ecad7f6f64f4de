-- The bits of an entry that have a name (SDM 3A, tables 4-4 to 4-20), by their places. Assumes nothing.
use Rattle.std.specs.Prelude.{ℕ}

abbrev pub P : ℕ
P = 0

abbrev pub RW : ℕ
RW = 1

abbrev pub US : ℕ
US = 2

abbrev pub PS : ℕ
PS = 7

abbrev pub XD : ℕ
XD = 63
