-- Where document 01 says that an edit is accepted (0), and that it is refused by each number ("The operations and their numbers"). Assumes nothing.
use Rattle.std.specs.Prelude.{◌≡◌, ◌≢◌, ◌⊎◌, ◌↔◌, ℕ, ◌+◌, ◌-◌, ◌≤◌, ◌<◌}

-- n is the number of an edit of count ports from base on, in frames of these lengths
pub record PortNumbers (lengthA lengthB base count n : ℕ) : Type 0 where
  pub is_2 : (n ≡ 2) ↔ ((lengthA ≢ 4096) ⊎ (lengthB ≢ 4096))
  pub is_10 : (n ≡ 10) ↔ ((lengthA ≡ 4096) × (lengthB ≡ 4096) × (0 < count) × (65535 < base + count - 1))
  pub is_0 : (n ≡ 0) ↔ ((lengthA ≡ 4096) × (lengthB ≡ 4096) × (0 < count → base + count - 1 ≤ 65535))

-- the MSRs base, base + 1, .., base + count - 1 lie in 0 to 0x1FFF, or in 0xC0000000 to 0xC0001FFF
abbrev pub Low : ℕ → ℕ → Type 0
Low base count = base + count ≤ 0x2000

abbrev pub High : ℕ → ℕ → Type 0
High base count = (0xC000_0000 ≤ base) × (base + count ≤ 0xC000_2000)

-- what has a bit in a frame: a port (SDM 3C, 25.6.4), and an MSR of one of the two ranges (25.6.9)
abbrev pub IsPort : ℕ → Type 0
IsPort n = n ≤ 0xFFFF

abbrev pub IsMsr : ℕ → Type 0
IsMsr n = Low n 1 ⊎ High n 1

-- n is the number of an edit of count MSRs from base on, in a frame of this length
pub record MsrNumbers (length_of base count n : ℕ) : Type 0 where
  pub is_2 : (n ≡ 2) ↔ (length_of ≢ 4096)
  pub is_11 : (n ≡ 11) ↔ ((length_of ≡ 4096) × (Low base count → ⊥) × (High base count → ⊥))
  pub is_0 : (n ≡ 0) ↔ ((length_of ≡ 4096) × (Low base count ⊎ High base count))
