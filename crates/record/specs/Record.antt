-- The session's byte record: how long it is, and where each part starts (document 01 leaves the layout open). Nothing lies between the parts,
-- numbers stand least significant byte first, and fields stand by width, so that none holds a value wider than it is. Assumes nothing.
use Rattle.std.specs.Prelude.{ℕ}

abbrev pub LENGTH : ℕ
LENGTH = 1485

-- ---- where the session stands: the phase (1 byte), whether it was launched (1), its entries (4), those that held an event (4)

abbrev pub PHASE : ℕ
PHASE = 0

abbrev pub LAUNCHED : ℕ
LAUNCHED = 1

abbrev pub ENTRIES : ℕ
ENTRIES = 2

abbrev pub HELD : ℕ
HELD = 6

-- ---- the general-purpose registers (16 of 8), in the order of their encoding

abbrev pub REGS : ℕ
REGS = 10

-- ---- the fields of the VMCS by width: 17 of 2, 50 of 4, 41 of 8, and 46 of the natural width, 8

abbrev pub W16 : ℕ
W16 = 138

abbrev pub W32 : ℕ
W32 = 172

abbrev pub W64 : ℕ
W64 = 372

abbrev pub NATURAL : ℕ
NATURAL = 700

-- ---- the queue: how many events wait (1), their vectors (64), whether each has an error code (8, bit i for place i), the codes (64 of 4)

abbrev pub WAITING : ℕ
WAITING = 1068

abbrev pub VECTORS : ℕ
VECTORS = 1069

abbrev pub CODED : ℕ
CODED = 1133

abbrev pub CODES : ℕ
CODES = 1141

-- ---- the capabilities: the five pairs (allowed-0, 4, and allowed-1, 4), and the fixed bits of CR0 and of CR4 (fixed-0, 8, and fixed-1, 8)

abbrev pub PAIRS : ℕ
PAIRS = 1397

abbrev pub CR0 : ℕ
CR0 = 1437

abbrev pub CR4 : ℕ
CR4 = 1453

-- ---- XCR0 (8), and the bits of it that the host supports (8)

abbrev pub XCR0 : ℕ
XCR0 = 1469

abbrev pub SUPPORTED : ℕ
SUPPORTED = 1477
