-- The kinds of access, by their numbers (document 02, N6). Assumes nothing.
use Rattle.std.specs.Prelude.{ℕ}

abbrev pub READ : ℕ
READ = 0

abbrev pub WRITE : ℕ
WRITE = 1

abbrev pub FETCH : ℕ
FETCH = 2
