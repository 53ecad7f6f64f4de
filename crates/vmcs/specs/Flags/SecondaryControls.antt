-- Secondary processor-based VM-execution controls (SDM 3C, 25.6.2), by their places. Assumes nothing.
use Rattle.std.specs.Prelude.{ℕ}

abbrev pub ENABLE_EPT : ℕ
ENABLE_EPT = 1

abbrev pub ENABLE_RDTSCP : ℕ
ENABLE_RDTSCP = 3

abbrev pub UNRESTRICTED_GUEST : ℕ
UNRESTRICTED_GUEST = 7

abbrev pub ENABLE_INVPCID : ℕ
ENABLE_INVPCID = 12

abbrev pub ENABLE_XSAVES_XRSTORS : ℕ
ENABLE_XSAVES_XRSTORS = 20
