-- Reading and writing a field by its encoding (document 01, "Fields"; SDM 3D, appendix B). Assumes nothing.
use Rattle.std.specs.Prelude.{ℕ, zero, suc, ◌-◌, ◌/◌, ◌%◌, ◌^◌, Bool, cond, List, [], ◌∷◌, Option, Some, None, Result, Ok, Err, eqb, ltb, leb}
use Rattle.definitions.specs.Refusals.{number}
use Rattle.definitions.specs.declared.refusal.Refusal.{Refusal}
use Rattle.vmcs.specs.Field.{Field, Word16, Word64, Word32, Natural, value_of, put}
use Rattle.vmcs.specs.Named.{encodings}
use Rattle.vmcs.specs.declared.Vmcs.{Vmcs}

-- the place of the first entry that equals x; the table's length where none does
abbrev pub position_of : List ℕ → ℕ → ℕ
position_of [] x = zero
position_of (e ∷ es) x = cond (eqb e x) zero (suc (position_of es x))

-- the place of a number in the table of encodings, where it has one
unfoldable pub place_in_table : ℕ → Option ℕ
place_in_table encoding = cond (ltb (position_of encodings encoding) 154) (Some (position_of encodings encoding)) None

-- the field at a place of the table, where the widths stand in the order 16, 64, 32, natural
unfoldable pub field_at : ℕ → Field
field_at p =
    cond (ltb p 17) (Word16 p)
    (cond (ltb p 58) (Word64 (p - 17))
    (cond (ltb p 108) (Word32 (p - 58))
    (Natural (p - 108))))

abbrev pub field_of : ℕ → Field
field_of encoding = field_at (position_of encodings encoding)

-- the width in bits of an encoding's field, by four ranges (document 02, N3), one for each section of appendix B: B.1, 16 bits, from 0; B.2, 64, from 0x2000; B.3, 32, from 0x4000;
-- B.4, natural, 64 here, from 0x6000 to 0x7FFF. A number above 0x7FFF has no width: the 64 given there means nothing
unfoldable pub width_of : ℕ → ℕ
width_of encoding =
    cond (leb encoding 0x1FFF) 16
    (cond (leb encoding 0x3FFF) 64
    (cond (leb encoding 0x5FFF) 32
    64))

unfoldable pub greatest_of : ℕ → ℕ
greatest_of encoding = 2 ^ width_of encoding - 1

-- bits 10 to 11 of an encoding: kind 1 is read-only
abbrev pub read_only : ℕ → Bool
read_only encoding = eqb (encoding / 2 ^ 10 % 4) 1

-- 3: no such encoding
unfoldable pub vmcs_read : Vmcs → ℕ → Result ℕ ℕ
vmcs_read v encoding = cond (ltb (position_of encodings encoding) 154) (Ok (value_of v (field_of encoding))) (Err 3)

-- the number of a write, and the fields after it: as they were where it is refused
pub record Written : Type 0 where
  pub refusal : ℕ
  pub vmcs : Vmcs

abbrev pub written : ℕ → Vmcs → Written
written n v = record { refusal = n; vmcs = v }

-- 3: no such encoding. 4: read-only. 5: the value is wider than the field
unfoldable pub write_refusal : ℕ → ℕ → ℕ
write_refusal encoding x =
    cond (leb 154 (position_of encodings encoding)) 3
    (cond (read_only encoding) 4
    (cond (ltb (greatest_of encoding) x) 5
    0))

-- the same numbers
unfoldable pub vmcs_write : Vmcs → ℕ → ℕ → Written
vmcs_write v encoding x =
    cond (leb 154 (position_of encodings encoding)) (written 3 v)
    (cond (read_only encoding) (written 4 v)
    (cond (ltb (greatest_of encoding) x) (written 5 v)
    (written 0 (put v (field_of encoding) x))))

-- a write's answer in the code, beside the fields that came in
abbrev pub written_from : Vmcs → Result Vmcs Refusal → Written
written_from v (Ok next) = written 0 next
written_from v (Err e) = written (number e) v
