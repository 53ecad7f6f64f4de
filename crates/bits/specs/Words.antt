-- Words as numbers: the complement at a width, one bit of a word, and how two words relate, bit by bit.
-- `&`, `|` and `^` of the code are `bit_and`, `bit_or` and `bit_xor` of lib.Bits at every width, `x >> k` is `x / 2 ^ k`. Bit 0 is the lowest.
-- Assumes nothing.
use Rattle.std.specs.Prelude.{ℕ, ◌+◌, ◌-◌, ◌*◌, ◌/◌, ◌%◌, ◌^◌, Bool, true, false, List, [], ◌∷◌, T, eqb}
use Rattle.std.specs.Int.Bits.{bit_or}

-- the complement of a word of w bits: `!a`
abbrev pub bit_not : ℕ → ℕ → ℕ
bit_not w a = (2 ^ w - 1) - a

-- `a << k` at w bits
abbrev pub shl : ℕ → ℕ → ℕ → ℕ
shl w a k = (a * 2 ^ k) % 2 ^ w

-- a yes/no value as a number, and as a byte of a record: 1 is yes
abbrev pub flag : Bool → ℕ
flag true = 1
flag false = 0

-- bit i of a word
abbrev pub bit : ℕ → ℕ → Bool
bit i a = eqb (a / 2 ^ i % 2) 1

-- a word with bit k made v: what stands above the bit, the bit, what stands below it
unfoldable pub with_bit : ℕ → Bool → ℕ → ℕ
with_bit k v a = (a / 2 ^ k / 2 * 2 + flag v) * 2 ^ k + a % 2 ^ k

-- the word with these bits and no other
abbrev pub mask_of : List ℕ → ℕ
mask_of [] = 0
mask_of (i ∷ is) = bit_or (2 ^ i) (mask_of is)

-- the halves of a word of 64 bits (ECX of RCX), and the word of two halves (EDX:EAX)
abbrev pub low32 : ℕ → ℕ
low32 a = a % 2 ^ 32

abbrev pub high32 : ℕ → ℕ
high32 a = a / 2 ^ 32

abbrev pub join32 : ℕ → ℕ → ℕ
join32 high low = high * 2 ^ 32 + low

-- every bit of a is a bit of b
pub record Within (a b : ℕ) : Type 0 where
  pub has : (i : ℕ) → T (bit i a) → T (bit i b)

-- a and b share no bit
pub record Apart (a b : ℕ) : Type 0 where
  pub lacks : (i : ℕ) → T (bit i a) → T (bit i b) → ⊥

-- every bit of low, and none outside high
pub record Permitted (low high word : ℕ) : Type 0 where
  pub required : Within low word
  pub allowed : Within word high

-- every bit of low but those of free, and none outside high
pub record PermittedBut (free low high word : ℕ) : Type 0 where
  pub required : (i : ℕ) → T (bit i low) → (T (bit i free) → ⊥) → T (bit i word)
  pub allowed : Within word high
