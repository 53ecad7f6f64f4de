-- A field of the VMCS and what it holds. Assumes nothing.
use Rattle.std.specs.Prelude.{ℕ, get_or, set}
use Rattle.vmcs.specs.declared.Vmcs.{Vmcs}

-- the width of a field, and its place in the array of that width
pub data Field : Type 0 where
  Word16 : ℕ → Field
  Word64 : ℕ → Field
  Word32 : ℕ → Field
  Natural : ℕ → Field

abbrev pub place_of : Field → ℕ
place_of (Word16 k) = k
place_of (Word64 k) = k
place_of (Word32 k) = k
place_of (Natural k) = k

-- how many fields there are of a field's width
abbrev pub size_of : Field → ℕ
size_of (Word16 k) = 17
size_of (Word64 k) = 41
size_of (Word32 k) = 50
size_of (Natural k) = 46

-- the natural width is 64 here
abbrev pub width_bits : Field → ℕ
width_bits (Word16 k) = 16
width_bits (Word64 k) = 64
width_bits (Word32 k) = 32
width_bits (Natural k) = 64

-- what a field holds
abbrev pub value_of : Vmcs → Field → ℕ
value_of v (Word16 k) = get_or v.w16 k 0
value_of v (Word64 k) = get_or v.w64 k 0
value_of v (Word32 k) = get_or v.w32 k 0
value_of v (Natural k) = get_or v.natural k 0

-- the fields with x in one of them
abbrev pub put : Vmcs → Field → ℕ → Vmcs
put v (Word16 k) x = record { w16 = set v.w16 k x; w32 = v.w32; w64 = v.w64; natural = v.natural }
put v (Word64 k) x = record { w16 = v.w16; w32 = v.w32; w64 = set v.w64 k x; natural = v.natural }
put v (Word32 k) x = record { w16 = v.w16; w32 = set v.w32 k x; w64 = v.w64; natural = v.natural }
put v (Natural k) x = record { w16 = v.w16; w32 = v.w32; w64 = v.w64; natural = set v.natural k x }
