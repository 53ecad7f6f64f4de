-- The extended-page-table pointer (SDM 3C, 25.6.11), its parts named as in the Rust. Assumes nothing.
use Rattle.std.specs.Prelude.{ℕ, ◌-◌}
use Rattle.std.specs.Int.Bits.{bit_and, bit_or}
use Rattle.bits.specs.Words.{bit_not, shl}

-- bits 0 to 2: the paging structures' memory type, write-back
abbrev pub MEM_TYPE_WB : ℕ
MEM_TYPE_WB = 6

-- bits 3 to 5: one less than the page-walk length, which is 4
abbrev pub WALK_LENGTH_4 : ℕ
WALK_LENGTH_4 = shl 64 3 3

-- bit 6: accessed and dirty flags
abbrev pub ENABLE_ACCESSED_DIRTY : ℕ
ENABLE_ACCESSED_DIRTY = shl 64 1 6

abbrev pub PAGE_SIZE : ℕ
PAGE_SIZE = 4096

-- the pointer to a root table: its page, with the three parts above
unfoldable pub ept_pointer : ℕ → ℕ
ept_pointer root = bit_or (bit_or (bit_or (bit_and root (bit_not 64 (PAGE_SIZE - 1))) MEM_TYPE_WB) WALK_LENGTH_4) ENABLE_ACCESSED_DIRTY
