-- The parts of a session's bytes: the place of each in `parts_of`, by the name that its offset has, and how many bytes it has. A new part goes to the end,
-- so that no other moves. Assumes nothing.
use mathlib.Core.List.{List, [], ◌∷◌}
use Prim.Native.Nat.{ℕ}

-- how many bytes each part has
abbrev pub sizes : List ℕ
sizes = 1 ∷ 1 ∷ 4 ∷ 4 ∷ 128 ∷ 34 ∷ 200 ∷ 328 ∷ 368 ∷ 1 ∷ 64 ∷ 8 ∷ 256 ∷ 40 ∷ 16 ∷ 16 ∷ 8 ∷ 8 ∷ []

abbrev pub PHASE : ℕ
PHASE = 0

abbrev pub LAUNCHED : ℕ
LAUNCHED = 1

abbrev pub ENTRIES : ℕ
ENTRIES = 2

abbrev pub HELD : ℕ
HELD = 3

abbrev pub REGS : ℕ
REGS = 4

abbrev pub W16 : ℕ
W16 = 5

abbrev pub W32 : ℕ
W32 = 6

abbrev pub W64 : ℕ
W64 = 7

abbrev pub NATURAL : ℕ
NATURAL = 8

abbrev pub WAITING : ℕ
WAITING = 9

abbrev pub VECTORS : ℕ
VECTORS = 10

abbrev pub CODED : ℕ
CODED = 11

abbrev pub CODES : ℕ
CODES = 12

abbrev pub PAIRS : ℕ
PAIRS = 13

abbrev pub CR0 : ℕ
CR0 = 14

abbrev pub CR4 : ℕ
CR4 = 15

abbrev pub XCR0 : ℕ
XCR0 = 16

abbrev pub SUPPORTED : ℕ
SUPPORTED = 17
