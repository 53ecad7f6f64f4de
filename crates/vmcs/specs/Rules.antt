-- The rule of the table of fields: the layout of an encoding (SDM 3D, appendix B) and the order. Assumes nothing.
use Rattle.std.specs.Prelude.{ℕ, ◌/◌, ◌%◌, ◌^◌, Bool, true, cond, ◌&&◌, List, [], ◌∷◌, eqb, ltb}
use Rattle.vmcs.specs.Field.{Field, Word16, Word64, Word32, Natural, width_bits}
use Rattle.vmcs.specs.Fields.{width_of}
use Rattle.vmcs.specs.Named.{Named}

-- the number of a width: 0 is 16 bits, 1 is 64, 2 is 32, 3 is natural
abbrev pub width_number : Field → ℕ
width_number (Word16 k) = 0
width_number (Word64 k) = 1
width_number (Word32 k) = 2
width_number (Natural k) = 3

-- the width in bits by the number in bits 13 to 14 of an encoding; the natural width is 64 here
unfoldable pub width_by_bits : ℕ → ℕ
width_by_bits encoding = cond (eqb (encoding / 2 ^ 13 % 4) 0) 16 (cond (eqb (encoding / 2 ^ 13 % 4) 2) 32 64)

-- bit 0 is clear, bits 10 to 11 are the kind, bits 13 to 14 the width, bit 12 and those above 14 are clear
abbrev pub laid_out : Named → Bool
laid_out n =
    eqb (n.encoding % 2) 0
    && eqb (n.encoding / 2 ^ 10 % 4) n.kind
    && eqb (n.encoding / 2 ^ 12 % 2) 0
    && eqb (n.encoding / 2 ^ 13 % 4) (width_number n.field)
    && eqb (width_of n.encoding) (width_bits n.field)
    && ltb n.encoding (2 ^ 15)

-- each number is below the next
abbrev pub ascending : List ℕ → Bool
ascending [] = true
ascending (x ∷ []) = true
ascending (x ∷ y ∷ ys) = ltb x y && ascending (y ∷ ys)

-- each entry passes
abbrev pub every : (Named → Bool) → List Named → Bool
every f [] = true
every f (n ∷ ns) = f n && every f ns
