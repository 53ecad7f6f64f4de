-- The intercept frames, each a list of 4,096 bytes: I/O bitmaps A and B (SDM 3C, 25.6.4) and the MSR bitmap (SDM 3C, 25.6.9). A bit that is 1
-- intercepts. The places of bits are those of document 01, "Bitmaps"; the numbers of refusals those of "The operations and their numbers".
-- Assumes nothing.
use Rattle.std.specs.Prelude.{Bool, true, false, not, cond, ◌&&◌, ◌||◌, List, [], ◌∷◌, ℕ, zero, suc, ◌+◌, ◌-◌, ◌*◌, ◌%◌, eqb, leb, ltb, length}
use Rattle.structs.specs.declared.Access.{Access}
use Rattle.structs.specs.declared.Access.TheVariants.{Read, Write}
use Rattle.structs.specs.Bitmap.{byte_of, bit_of, bit_at, set_bit, set_bits, in_range}

-- ---- ports

-- frame A holds the ports below 0x8000, and frame B those from there on
abbrev pub in_a : ℕ → Bool
in_a port = ltb port 0x8000

-- the bit of a port in its frame
unfoldable pub port_index : ℕ → ℕ
port_index port = cond (in_a port) port (port - 0x8000)

-- the byte of the frame that holds it, and the bit of that byte
abbrev pub port_byte : ℕ → ℕ
port_byte port = byte_of (port_index port)

abbrev pub port_bit : ℕ → ℕ
port_bit port = bit_of (port_index port)

-- the intercept of a port
unfoldable pub port_intercept : List ℕ → List ℕ → ℕ → Bool
port_intercept a b port = bit_at (cond (in_a port) a b) (port_index port)

-- both I/O frames
pub record IOBitmap : Type 0 where
  pub a : List ℕ
  pub b : List ℕ

-- the intercept of one port made v
unfoldable pub set_port : IOBitmap → ℕ → Bool → IOBitmap
set_port io port v =
    cond (in_a port)
    (record { a = set_bit io.a (port_index port) v; b = io.b })
    (record { a = io.a; b = set_bit io.b (port_index port) v })

-- the intercepts of ports base, base + 1, .., base + count - 1 made v
unfoldable pub set_ports : IOBitmap → ℕ → ℕ → Bool → IOBitmap
set_ports io base zero v = io
set_ports io base (suc count) v = set_port (set_ports io base count v) (base + count) v

-- the refusal of an edit, or 0. 2: a frame is not 4,096 bytes long. 10: count is above 0, and the last port above 65,535
unfoldable pub port_refusal : ℕ → ℕ → ℕ → ℕ → ℕ
port_refusal lengthA lengthB base count =
    cond (not (eqb lengthA 4096)) 2
    (cond (not (eqb lengthB 4096)) 2
    (cond (eqb count 0) 0
    (cond (ltb 0x1_0000 (base + count)) 10
    0)))

-- what an edit of ports answers: its refusal, or 0, and the frames as it leaves them
pub record PortEdit : Type 0 where
  pub refusal : ℕ
  pub a : List ℕ
  pub b : List ℕ

abbrev pub frames_of : PortEdit → IOBitmap
frames_of e = record { a = e.a; b = e.b }

-- the intercepts of count ports from base on made v, where that is not refused
unfoldable pub edit_ports : List ℕ → List ℕ → ℕ → ℕ → Bool → PortEdit
edit_ports a b base count v =
    let n = port_refusal (length a) (length b) base count in
    let io : IOBitmap = record { a = a; b = b } in
    let after = cond (eqb n 0) (set_ports io base count v) io in
    record { refusal = n; a = after.a; b = after.b }

-- ---- MSRs

-- the quarter of the frame, of 1,024 bytes: read low, read high, write low, write high. MSRs 0 to 0x1FFF are low, 0xC0000000 to 0xC0001FFF high
unfoldable pub quarter_of : Access → ℕ → ℕ
quarter_of Read msr = cond (ltb msr 0x2000) 0 1
quarter_of Write msr = cond (ltb msr 0x2000) 2 3

-- the bit of an access to an MSR in the frame
abbrev pub msr_index : Access → ℕ → ℕ
msr_index access msr = quarter_of access msr * 0x2000 + msr % 0x2000

-- the byte of the frame that holds it, and the bit of that byte
abbrev pub msr_byte : Access → ℕ → ℕ
msr_byte access msr = byte_of (msr_index access msr)

abbrev pub msr_bit : Access → ℕ → ℕ
msr_bit access msr = bit_of (msr_index access msr)

-- the intercept of an access to an MSR
abbrev pub msr_intercept : List ℕ → Access → ℕ → Bool
msr_intercept xs access msr = bit_at xs (msr_index access msr)

-- an access is one of a list
abbrev pub same_access : Access → Access → Bool
same_access Read Read = true
same_access Read Write = false
same_access Write Read = false
same_access Write Write = true

abbrev pub among : List Access → Access → Bool
among [] x = false
among (y ∷ ys) x = same_access y x || among ys x

-- the access x to MSR m is one of these accesses to MSRs base, base + 1, .., base + count - 1
abbrev pub covered : ℕ → ℕ → List Access → Access → ℕ → Bool
covered base count accesses x m = among accesses x && in_range base count m

-- the intercepts of these accesses to MSRs base, base + 1, .., base + count - 1 made v
unfoldable pub set_msrs : List ℕ → ℕ → ℕ → List Access → Bool → List ℕ
set_msrs xs base count [] v = xs
set_msrs xs base count (x ∷ accesses) v = set_msrs (set_bits xs (msr_index x base) count v) base count accesses v

-- the refusal of an edit, or 0. 2: the frame is not 4,096 bytes long. 11: the MSRs from, from + 1, .., to - 1 are neither all low nor all high
unfoldable pub msr_refusal : ℕ → ℕ → ℕ → ℕ
msr_refusal len from to =
    cond (not (eqb len 4096)) 2
    (cond (leb to 0x2000) 0
    (cond (ltb from 0xC000_0000) 11
    (cond (ltb 0xC000_2000 to) 11
    0)))

-- what an edit of MSRs answers: its refusal, or 0, and the frame as it leaves it
pub record MsrEdit : Type 0 where
  pub refusal : ℕ
  pub frame : List ℕ

-- the intercepts of these accesses to count MSRs from base on made v, where that is not refused
unfoldable pub edit_msrs : List ℕ → ℕ → ℕ → List Access → Bool → MsrEdit
edit_msrs xs base count accesses v =
    let n = msr_refusal (length xs) base (base + count) in
    record { refusal = n; frame = cond (eqb n 0) (set_msrs xs base count accesses v) xs }
