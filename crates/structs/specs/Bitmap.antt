-- Bits of a list of bytes, counted from the lowest bit of the first byte. Assumes nothing.
use Rattle.std.specs.Prelude.{Bool, true, false, ◌&&◌, List, ℕ, zero, suc, ◌+◌, ◌/◌, ◌%◌, leb, ltb, get_or, set}
use Rattle.bits.specs.Words.{bit, with_bit}

-- a byte with all its bits v
unfoldable pub full_byte : Bool → ℕ
full_byte true = 255
full_byte false = 0

-- the byte that holds bit n, and the bit of that byte
abbrev pub byte_of : ℕ → ℕ
byte_of n = n / 8

abbrev pub bit_of : ℕ → ℕ
bit_of n = n % 8

-- bit n. It is 0 past the end
abbrev pub bit_at : List ℕ → ℕ → Bool
bit_at xs n = bit (bit_of n) (get_or xs (byte_of n) 0)

-- the list with bit n made v
unfoldable pub set_bit : List ℕ → ℕ → Bool → List ℕ
set_bit xs n v = set xs (byte_of n) (with_bit (bit_of n) v (get_or xs (byte_of n) 0))

-- the list with bits n, n + 1, .., n + count - 1 made v
unfoldable pub set_bits : List ℕ → ℕ → ℕ → Bool → List ℕ
set_bits xs n zero v = xs
set_bits xs n (suc count) v = set_bit (set_bits xs n count v) (n + count) v

-- m is one of n, n + 1, .., n + count - 1
abbrev pub in_range : ℕ → ℕ → ℕ → Bool
in_range n count m = leb n m && ltb m (n + count)
