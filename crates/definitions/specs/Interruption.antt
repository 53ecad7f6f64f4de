-- Interruption types and the word of an event (document 01, "Events"; SDM 3C, 25.8.3). Assumes nothing.
use Rattle.std.specs.Prelude.{ℕ, ◌/◌, ◌%◌, ◌^◌, ◌<◌, ◌≡◌, Bool, true, false, cond, ◌||◌, eqb, leb}
use Rattle.std.specs.Int.Bits.{bit_or}
use Rattle.bits.specs.Words.{shl, flag, bit}
use Rattle.definitions.specs.Irq as Irq
use Rattle.definitions.specs.declared.VmxInterruptionType.{VmxInterruptionType}
use Rattle.definitions.specs.declared.VmxInterruptionType.TheVariants.{External, Reserved, NMI, HardException, SoftIntr, PrivSoftException, SoftException, Other}

-- the number of a type, bits 8 to 10 of an interruption word
unfoldable pub type_number : VmxInterruptionType → ℕ
type_number External = 0
type_number Reserved = 1
type_number NMI = 2
type_number HardException = 3
type_number SoftIntr = 4
type_number PrivSoftException = 5
type_number SoftException = 6
type_number Other = 7

-- the type with a number below 8
abbrev pub type_numbered : ℕ → VmxInterruptionType
type_numbered n =
    cond (eqb n 0) External
    (cond (eqb n 1) Reserved
    (cond (eqb n 2) NMI
    (cond (eqb n 3) HardException
    (cond (eqb n 4) SoftIntr
    (cond (eqb n 5) PrivSoftException
    (cond (eqb n 6) SoftException Other))))))

-- the type of an interruption word
unfoldable pub type_of : ℕ → VmxInterruptionType
type_of word = type_numbered (word / 2 ^ 8 % 8)

-- vectors 8, 10 to 14, 17 and 21 carry an error code (document 02, N7; SDM 3A, table 6-1)
abbrev pub has_error_code : ℕ → Bool
has_error_code vector =
    eqb vector Irq.DOUBLE_FAULT_VECTOR || eqb vector Irq.INVALID_TSS_VECTOR || eqb vector Irq.SEGMENT_NOT_PRESENT_VECTOR
    || eqb vector Irq.STACK_SEGEMENT_FAULT_VECTOR || eqb vector Irq.GENERAL_PROTECTION_FAULT_VECTOR || eqb vector Irq.PAGE_FAULT_VECTOR
    || eqb vector Irq.ALIGNMENT_CHECK_VECTOR || eqb vector Irq.CONTROL_PROTECTION_VECTOR

-- vector 2 is NMI, 3 and 4 are software exceptions, the others to 21 hardware exceptions (document 02, N7, for 1 and 21); 22 to 31 are of the type "other event", the
-- rest external interrupts
unfoldable pub from_vector : ℕ → VmxInterruptionType
from_vector vector =
    cond (eqb vector Irq.NONMASKABLE_INTERRUPT_VECTOR) NMI
    (cond (eqb vector Irq.BREAKPOINT_VECTOR) SoftException
    (cond (eqb vector Irq.OVERFLOW_VECTOR) SoftException
    (cond (leb vector Irq.CONTROL_PROTECTION_VECTOR) HardException
    (cond (leb vector 31) Other External))))

-- the types whose injection takes an instruction length
unfoldable pub is_soft : VmxInterruptionType → Bool
is_soft SoftIntr = true
is_soft PrivSoftException = true
is_soft SoftException = true
is_soft External = false
is_soft Reserved = false
is_soft NMI = false
is_soft HardException = false
is_soft Other = false

-- the vector, its type from bit 8 on, bit 11 where an error code goes in, and bit 31, valid
abbrev pub event_word : ℕ → Bool → ℕ
event_word vector code =
    bit_or (bit_or (bit_or vector (shl 32 (type_number (from_vector vector)) 8)) (shl 32 (flag code) 11)) (2 ^ 31)

-- the word of an event, read bit by bit: bits 0 to 7 the vector, 8 to 10 the type, 11 whether an error code goes in, 12 to 30 clear, 31 set
pub record EventBits (vector : ℕ) (code : Bool) (word : ℕ) : Type 0 where
  pub its_vector : word % 2 ^ 8 ≡ vector
  pub its_type : word / 2 ^ 8 % 8 ≡ type_number (from_vector vector)
  pub its_code : bit 11 word ≡ code
  pub reserved : word / 2 ^ 12 % 2 ^ 19 ≡ 0
  pub valid : bit 31 word ≡ true
  pub fits : word < 2 ^ 32
