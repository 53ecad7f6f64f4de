-- The bits of XCR0 that a rule names (SDM 1, 13.3), by their places. Assumes nothing.
use Rattle.std.specs.Prelude.{ℕ}

abbrev pub X87 : ℕ
X87 = 0

abbrev pub SSE : ℕ
SSE = 1

abbrev pub AVX : ℕ
AVX = 2

-- MPX: the bound registers, and BNDCFGU and BNDSTATUS
abbrev pub BNDREG : ℕ
BNDREG = 3

abbrev pub BNDCSR : ℕ
BNDCSR = 4

-- AVX-512: k0 to k7, the upper halves of ZMM0 to ZMM15, and ZMM16 to ZMM31
abbrev pub OPMASK : ℕ
OPMASK = 5

abbrev pub ZMM_HI256 : ℕ
ZMM_HI256 = 6

abbrev pub HI16_ZMM : ℕ
HI16_ZMM = 7

-- AMX: the configuration of the tiles, and the tiles
abbrev pub TILECFG : ℕ
TILECFG = 17

abbrev pub TILEDATA : ℕ
TILEDATA = 18
