-- The part of an I/O frame that holds a port (document 01, "Forms that stand in the way"), as its bytes and the place where it lies. Assumes nothing.
use Rattle.std.specs.Prelude.{not, cond, List, ℕ, ◌+◌, eqb, ltb, length, drop}
use Rattle.std.specs.Borrow.{Bor}
use Rattle.structs.specs.Frames.{in_a, port_byte}

-- a part of a slice: its bytes, and the block and the offset at which it lies
pub record Part : Type 0 where
  pub bytes : List ℕ
  pub at : ℕ × ℕ

-- the part of a slice from byte n to its end
abbrev pub part_from : Bor (List ℕ) → ℕ → Part
part_from s n = record { bytes = drop n s.now; at = (s.ref_ptr.0, s.ref_ptr.1 + n) }

-- the empty end of a slice
abbrev pub end_of : Bor (List ℕ) → Part
end_of s = part_from s (length s.now)

-- the part of A or of B that holds a port, from its byte to the frame's end. Where a frame is not 4,096 bytes, or the port is above 65,535, the empty end of B
unfoldable pub port_part : Bor (List ℕ) → Bor (List ℕ) → ℕ → Part
port_part a b port =
    cond (not (eqb (length a.now) 4096)) (end_of b)
    (cond (not (eqb (length b.now) 4096)) (end_of b)
    (cond (in_a port) (part_from a (port_byte port))
    (cond (ltb port 0x1_0000) (part_from b (port_byte port))
    (end_of b))))
