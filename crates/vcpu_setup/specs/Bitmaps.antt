-- The intercepts that setup adds to what the frames hold (document 01, "Setup": port 0x604, reads and writes of MSRs 0xE1 and 0x800 to 0x83F).
-- Assumes nothing.
use Rattle.std.specs.Prelude.{ℕ, true, List, [], ◌∷◌}
use Rattle.structs.specs.declared.Access.{Access}
use Rattle.structs.specs.declared.Access.TheVariants.{Read, Write}
use Rattle.structs.specs.Frames.{PortEdit, edit_ports, MsrEdit, edit_msrs}

abbrev pub QEMU_EXIT_PORT : ℕ
QEMU_EXIT_PORT = 0x604

abbrev pub IA32_UMWAIT_CONTROL : ℕ
IA32_UMWAIT_CONTROL = 0xE1

-- the x2APIC registers that setup intercepts are 64 MSRs from here on; the manual keeps 0x800 to 0x8FF for them (SDM 3A, 11.12.1.2)
abbrev pub X2APIC_MSRS : ℕ
X2APIC_MSRS = 0x800

abbrev pub X2APIC_COUNT : ℕ
X2APIC_COUNT = 64

abbrev pub both_accesses : List Access
both_accesses = Read ∷ Write ∷ []

unfoldable pub io_bitmap_set : List ℕ → List ℕ → PortEdit
io_bitmap_set a b = edit_ports a b QEMU_EXIT_PORT 1 true

unfoldable pub msr_bitmap_set : List ℕ → MsrEdit
msr_bitmap_set xs = edit_msrs (edit_msrs xs IA32_UMWAIT_CONTROL 1 both_accesses true).frame X2APIC_MSRS X2APIC_COUNT both_accesses true
