-- Yes/no bytes. Assumes nothing.
use mathlib.Core.Path.{◌≡◌, refl, sym}
use mathlib.Core.Bool.{Bool, true, false, ◌&&◌, true≢false}
use mathlib.Core.List.{List, ◌++◌}
use Prim.Native.Nat.{ℕ, ◌≤◌}
use native.Mathlib.Omega.{arith}
use Rattle.bits.specs.LittleEndian.{little_endian, number_of, bytes_of}
use Rattle.bits.proofs.WithBit.{flag_lt}
use Rattle.record.specs.Runs.{flag_bytes}

pub both : (x y : Bool) → (x && y) ≡ true → (x ≡ true) × (y ≡ true)
both true y e = (refl, e)
both false y e = absurd (true≢false (sym e))

-- the byte of a yes/no value
pub flag_written : (on : Bool) (p rest : List ℕ) → p ≡ flag_bytes on ++ rest → little_endian 1 p ≤ 1
unfolding flag_bytes bytes_of number_of
flag_written on p rest e = rw e (omega (arith, flag_lt on))
