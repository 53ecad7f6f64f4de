-- Which values XSETBV loads into XCR0 (document 02, N1; SDM 1, 13.3; 2D, XSETBV). Assumes nothing.
use Rattle.std.specs.Prelude.{ℕ, ◌/◌, ◌%◌, ◌^◌, Bool, ◌&&◌, eqb, leb}
use Rattle.std.specs.Int.Bits.{bit_and}
use Rattle.vmcs.specs.Flags.XCr0Flags as XCr0Flags

-- bit i of a word, as 0 or 1: one bit comes with another where its digit is at most the other's
abbrev pub digit : ℕ → ℕ → ℕ
digit i a = a / 2 ^ i % 2

-- X87; AVX with SSE only; both of MPX or neither; all three of AVX-512 or none, and with AVX only; both of AMX or neither; and no bit that is not supported
unfoldable pub xcr0_allowed : ℕ → ℕ → Bool
xcr0_allowed supported value =
    eqb (digit XCr0Flags.X87 value) 1
    && leb (digit XCr0Flags.AVX value) (digit XCr0Flags.SSE value)
    && eqb (digit XCr0Flags.BNDREG value) (digit XCr0Flags.BNDCSR value)
    && eqb (digit XCr0Flags.OPMASK value) (digit XCr0Flags.ZMM_HI256 value)
    && eqb (digit XCr0Flags.ZMM_HI256 value) (digit XCr0Flags.HI16_ZMM value)
    && leb (digit XCr0Flags.OPMASK value) (digit XCr0Flags.AVX value)
    && eqb (digit XCr0Flags.TILECFG value) (digit XCr0Flags.TILEDATA value)
    && eqb (bit_and value supported) value
