-- The bits of CR0 (SDM 3A, 2.5), by their places. Assumes nothing.
use Rattle.std.specs.Prelude.{ℕ}

abbrev pub PROTECTED_MODE_ENABLE : ℕ
PROTECTED_MODE_ENABLE = 0

abbrev pub EXTENSION_TYPE : ℕ
EXTENSION_TYPE = 4

abbrev pub WRITE_PROTECT : ℕ
WRITE_PROTECT = 16

abbrev pub NOT_WRITE_THROUGH : ℕ
NOT_WRITE_THROUGH = 29

abbrev pub CACHE_DISABLE : ℕ
CACHE_DISABLE = 30

abbrev pub PAGING : ℕ
PAGING = 31
