-- How many bytes values made of numbers take. Assumes nothing.
use Rattle.std.specs.Prelude.{◌≡◌, Bool, ℕ, ◌+◌, length}
use mathlib.Core.List.{◌++◌, flat_map}
use lib.ListN.{length-append}
use Rattle.bits.specs.Words.{flag}
use Rattle.bits.specs.LittleEndian.{bytes_of}
use Rattle.bits.proofs.LittleEndianLaws.{length_bytes_of}
use Rattle.regs.specs.Registers.{list_of}
use Rattle.regs.specs.declared.GeneralRegisters.{GeneralRegisters}
use Rattle.vmcs.specs.declared.controls.Pair.{Pair}
use Rattle.vcpu_session.specs.declared.Fixed.{Fixed}
use Rattle.record.specs.Runs.{number_bytes, flag_bytes}
use Rattle.record.specs.Codec.{pair_bytes, fixed_bytes}

pub length_flag_bytes : (on : Bool) → length (flag_bytes on) ≡ 1
unfolding flag_bytes
length_flag_bytes on = length_bytes_of 1 (flag on)

-- two numbers of k bytes
length_two : (k u v : ℕ) → length (bytes_of k u ++ bytes_of k v) ≡ k + k
length_two k u v = simp (length-append, length_bytes_of)

pub length_pair_bytes : (p : Pair) → length (pair_bytes p) ≡ 8
unfolding pair_bytes
length_pair_bytes p = length_two 4 p.allowed0 p.allowed1

pub length_fixed_bytes : (f : Fixed) → length (fixed_bytes f) ≡ 16
unfolding fixed_bytes
length_fixed_bytes f = length_two 8 f.fixed0 f.fixed1

pub length_register_bytes : (g : GeneralRegisters) → length (number_bytes 8 (list_of g)) ≡ 128
unfolding flat_map
length_register_bytes g = simp (length-append, length_bytes_of)
