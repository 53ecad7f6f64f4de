-- What setup leaves in the frames: what they held, and exactly the added intercepts more. Assumes nothing.
use Rattle.std.specs.Prelude.{ℕ, ◌≡◌, ◌||◌, List, eqb, length}
use Rattle.structs.specs.declared.Access.{Access}
use Rattle.structs.specs.Bitmap.{in_range}
use Rattle.structs.specs.Frames.{port_intercept, msr_intercept}
use Rattle.structs.specs.Numbers.{IsMsr}
use Rattle.vcpu_setup.specs.Bitmaps.{QEMU_EXIT_PORT, IA32_UMWAIT_CONTROL, X2APIC_MSRS, X2APIC_COUNT, io_bitmap_set, msr_bitmap_set}

-- a and b are I/O bitmaps A and B, frame the MSR bitmaps, each of 4,096 bytes
pub record Added (a b frame : List ℕ) : Type 0 where
  -- accepted
  pub port_number : (io_bitmap_set a b).refusal ≡ 0
  pub msr_number : (msr_bitmap_set frame).refusal ≡ 0
  pub length_a : length (io_bitmap_set a b).a ≡ 4096
  pub length_b : length (io_bitmap_set a b).b ≡ 4096
  pub length_msr : length (msr_bitmap_set frame).frame ≡ 4096
  -- every port, and every access to every MSR that has a bit
  pub ports : (port : ℕ) → port_intercept (io_bitmap_set a b).a (io_bitmap_set a b).b port ≡ (eqb port QEMU_EXIT_PORT || port_intercept a b port)
  pub msrs : (x : Access) (m : ℕ) → IsMsr m
      → msr_intercept (msr_bitmap_set frame).frame x m ≡ (in_range X2APIC_MSRS X2APIC_COUNT m || (eqb m IA32_UMWAIT_CONTROL || msr_intercept frame x m))
