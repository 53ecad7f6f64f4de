-- The phases of a session, by document 01's names and numbers. Assumes nothing.
use Rattle.std.specs.Prelude.{ℕ}

abbrev pub FRESH : ℕ
FRESH = 0

abbrev pub READY : ℕ
READY = 1

abbrev pub RUNNING : ℕ
RUNNING = 2

abbrev pub WAITING : ℕ
WAITING = 3

abbrev pub ENDED : ℕ
ENDED = 4
