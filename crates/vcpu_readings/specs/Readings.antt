-- The guest's mode, its page tables and a linear address (document 01, "Readings"; `get_cpu_mode`, `get_ptw_info`, `gla2gva`). Assumes nothing.
use Rattle.std.specs.Prelude.{ℕ, ◌+◌, ◌-◌, ◌/◌, ◌%◌, ◌^◌, Bool, true, false, cond, eqb, ltb, Result, Ok, Err}
use Rattle.bits.specs.Words.{bit}
use Rattle.vmcs.specs.Field.{value_of}
use Rattle.vmcs.specs.Flags.Cr0Flags as Cr0Flags
use Rattle.vmcs.specs.Flags.Cr4Flags as Cr4Flags
use Rattle.vmcs.specs.Flags.EferFlags as EferFlags
use Rattle.vmcs.specs.Names.VmcsGuest32 as VmcsGuest32
use Rattle.vmcs.specs.Names.VmcsGuest64 as VmcsGuest64
use Rattle.vmcs.specs.Names.VmcsGuestNW as VmcsGuestNW
use Rattle.vmcs.specs.declared.Vmcs.{Vmcs}
use Rattle.vcpu_readings.specs.declared.VmCpuMode.{VmCpuMode}
use Rattle.vcpu_readings.specs.declared.VmCpuMode.TheVariants.{Real, Protected, Compatibility, Mode64}
use Rattle.vcpu_readings.specs.declared.PagingWords.{PagingWords}
use Rattle.vcpu_readings.specs.declared.GuestPageWalkInfo.{GuestPageWalkInfo}

-- ---- bits of access rights by their places (SDM 3C, table 25-2): 64-bit code segment, and the first bit of the descriptor privilege level

abbrev L : ℕ
L = 13

abbrev DPL : ℕ
DPL = 5

-- ---- the mode

-- LMA is of the host's EFER, as in the Rust; CR0.PE is bit 0
unfoldable pub cpu_mode : ℕ → ℕ → ℕ → VmCpuMode
cpu_mode efer csRights cr0 =
    cond (bit EferFlags.LONG_MODE_ACTIVE efer) (cond (bit L csRights) Mode64 Compatibility)
    (cond (eqb (cr0 % 2) 1) Protected Real)

-- the number of a mode in the C interface
unfoldable pub mode_number : VmCpuMode → ℕ
mode_number Real = 0
mode_number Protected = 1
mode_number Compatibility = 2
mode_number Mode64 = 3

abbrev pub get_cpu_mode : Vmcs → ℕ → VmCpuMode
get_cpu_mode v efer = cpu_mode efer (value_of v VmcsGuest32.CS_ACCESS_RIGHTS) (value_of v VmcsGuestNW.CR0)

-- ---- the page tables

-- no paging 0, 32-bit paging 2, PAE paging 3, long mode 4
unfoldable pub paging_level : PagingWords → ℕ
paging_level w =
    cond (eqb (w.cr0 / 2 ^ Cr0Flags.PAGING % 2) 0) 0
    (cond (eqb (w.cr4 / 2 ^ Cr4Flags.PHYSICAL_ADDRESS_EXTENSION % 2) 0) 2
    (cond (bit EferFlags.LONG_MODE_ACTIVE w.efer) 4 3))

-- how many bits of an address each level takes
unfoldable pub walk_width : ℕ → ℕ
walk_width level = cond (eqb level 0) 0 (cond (eqb level 2) 10 9)

unfoldable pub walk_pse : ℕ → ℕ → Bool
walk_pse level cr4 = cond (eqb level 2) (bit Cr4Flags.PAGE_SIZE_EXTENSION cr4) true

unfoldable pub walk_nxe : ℕ → ℕ → Bool
walk_nxe level efer = cond (eqb level 2) false (bit EferFlags.NO_EXECUTE_ENABLE efer)

-- privilege level 3 is a user's; write and fetch are no
unfoldable pub page_walk : PagingWords → GuestPageWalkInfo
page_walk w =
    record {
      top_entry = w.cr3;
      level = paging_level w;
      width = walk_width (paging_level w);
      is_user_mode_access = eqb (w.ssrights / 2 ^ DPL % 4) 3;
      is_write_access = false;
      is_inst_fetch = false;
      pse = walk_pse (paging_level w) w.cr4;
      wp = bit Cr0Flags.WRITE_PROTECT w.cr0;
      nxe = walk_nxe (paging_level w) w.efer;
      is_smap_on = bit Cr4Flags.SUPERVISOR_MODE_ACCESS_PREVENTION w.cr4;
      is_smep_on = bit Cr4Flags.SUPERVISOR_MODE_EXECUTION_PROTECTION w.cr4;
    }

abbrev pub paging_words : Vmcs → PagingWords
paging_words v =
    record {
      cr0 = value_of v VmcsGuestNW.CR0;
      cr3 = value_of v VmcsGuestNW.CR3;
      cr4 = value_of v VmcsGuestNW.CR4;
      efer = value_of v VmcsGuest64.IA32_EFER;
      ssrights = value_of v VmcsGuest32.SS_ACCESS_RIGHTS;
    }

abbrev pub get_ptw_info : Vmcs → GuestPageWalkInfo
get_ptw_info v = page_walk (paging_words v)

-- ---- a linear address

-- no base in 64-bit mode
unfoldable pub segment_base : VmCpuMode → ℕ → ℕ
segment_base Mode64 csBase = 0
segment_base Real csBase = csBase
segment_base Protected csBase = csBase
segment_base Compatibility csBase = csBase

-- 17: the sum passes 2^64 - 1
unfoldable pub linear_address : VmCpuMode → ℕ → ℕ → Result ℕ ℕ
linear_address mode csBase address =
    cond (ltb (2 ^ 64 - 1 - segment_base mode csBase) address) (Err 17) (Ok (address + segment_base mode csBase))

abbrev pub gla2gva : Vmcs → ℕ → ℕ → Result ℕ ℕ
gla2gva v efer address = linear_address (get_cpu_mode v efer) (value_of v VmcsGuestNW.CS_BASE) address
