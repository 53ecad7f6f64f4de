-- The rules that an entry is held to, by their numbers, in the order in which they are judged (document 02, N6). Assumes nothing.
use Rattle.std.specs.Prelude.{ℕ}

abbrev pub NOT_PRESENT : ℕ
NOT_PRESENT = 1

abbrev pub RESERVED : ℕ
RESERVED = 2

abbrev pub USER : ℕ
USER = 3

abbrev pub WRITE : ℕ
WRITE = 4

abbrev pub EXECUTE : ℕ
EXECUTE = 5

abbrev pub SMEP : ℕ
SMEP = 6

abbrev pub SMAP : ℕ
SMAP = 7
