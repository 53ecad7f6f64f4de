-- What setup writes, by the Rust's names and in the order of setup_vmcs (document 01, "Setup": all other fields are as in the Rust). Assumes nothing.
use Rattle.std.specs.Prelude.{ℕ, ◌<◌, List, [], ◌∷◌, ◌++◌, get_or}
use Rattle.vmcs.specs.Cr.{cr0_words, cr4_words, first_cr0, cr0_writes, cr4_writes}
use Rattle.vmcs.specs.declared.controls.CrWords.{CrWords}
use Rattle.vmcs.specs.Field.{Field, Word16, Word32, Natural}
use Rattle.vmcs.specs.declared.Vmcs.{Vmcs}
use Rattle.vmcs.specs.Writes.{Write, ◌≔◌, applied}
use Rattle.vmcs.specs.Names.VmcsControl32 as VmcsControl32
use Rattle.vmcs.specs.Names.VmcsControl64 as VmcsControl64
use Rattle.vmcs.specs.Names.VmcsGuest16 as VmcsGuest16
use Rattle.vmcs.specs.Names.VmcsGuest32 as VmcsGuest32
use Rattle.vmcs.specs.Names.VmcsGuest64 as VmcsGuest64
use Rattle.vmcs.specs.Names.VmcsGuestNW as VmcsGuestNW
use Rattle.vmcs.specs.Names.VmcsHost16 as VmcsHost16
use Rattle.vmcs.specs.Names.VmcsHost32 as VmcsHost32
use Rattle.vmcs.specs.Names.VmcsHost64 as VmcsHost64
use Rattle.vmcs.specs.Names.VmcsHostNW as VmcsHostNW
use Rattle.vcpu_session.specs.Session.{VMX_PREEMPTION_TIMER_SET_VALUE}
use Rattle.structs.specs.EPTPointer.{ept_pointer}
use Rattle.vcpu_setup.specs.Capability.{pairs_of, olds_of}
use Rattle.vcpu_setup.specs.Words.{setup_words}
use Rattle.vcpu_setup.specs.declared.CapabilityMsrs.{CapabilityMsrs}
use Rattle.vcpu_setup.specs.declared.Arguments.{Arguments}
use Rattle.vcpu_setup.specs.declared.HostWords.{HostWords}
use Rattle.vcpu_setup.specs.declared.Addresses.{Addresses}
use Rattle.vcpu_setup.specs.declared.Segment.{Segment}

-- ---- setup_vmcs_host

abbrev pub host_writes : HostWords → List Write
host_writes h =
    VmcsHost64.IA32_PAT ≔ h.pat
    ∷ VmcsHost64.IA32_EFER ≔ h.efer
    ∷ VmcsHostNW.CR0 ≔ h.cr0
    ∷ VmcsHostNW.CR3 ≔ h.cr3
    ∷ VmcsHostNW.CR4 ≔ h.cr4
    ∷ VmcsHost16.ES_SELECTOR ≔ h.es
    ∷ VmcsHost16.CS_SELECTOR ≔ h.cs
    ∷ VmcsHost16.SS_SELECTOR ≔ h.ss
    ∷ VmcsHost16.DS_SELECTOR ≔ h.ds
    ∷ VmcsHost16.FS_SELECTOR ≔ h.fs
    ∷ VmcsHost16.GS_SELECTOR ≔ h.gs
    ∷ VmcsHostNW.FS_BASE ≔ h.fsbase
    ∷ VmcsHostNW.GS_BASE ≔ h.gsbase
    ∷ VmcsHost16.TR_SELECTOR ≔ h.tr
    ∷ VmcsHostNW.TR_BASE ≔ h.trbase
    ∷ VmcsHostNW.GDTR_BASE ≔ h.gdtrbase
    ∷ VmcsHostNW.IDTR_BASE ≔ h.idtrbase
    ∷ VmcsHostNW.RIP ≔ h.rip
    ∷ VmcsHostNW.IA32_SYSENTER_ESP ≔ 0
    ∷ VmcsHostNW.IA32_SYSENTER_EIP ≔ 0
    ∷ VmcsHost32.IA32_SYSENTER_CS ≔ 0
    ∷ []

abbrev pub host_set : Vmcs → HostWords → Vmcs
host_set v h = applied (host_writes h) v

-- ---- setup_vmcs_guest

-- set_cr, for CR0 and CR4
abbrev pub cr_writes : CrWords → CrWords → List Write
cr_writes cr0 cr4 = cr0_writes cr0 ++ cr4_writes cr4

abbrev pub cr_set : Vmcs → CrWords → CrWords → Vmcs
cr_set v cr0 cr4 = applied (cr_writes cr0 cr4) v

-- set_guest_segment!: selector and base 0, limit 0xFFFF
abbrev pub segment_writes : Field → Field → Field → Field → ℕ → List Write
segment_writes selector base limit rights access = selector ≔ 0 ∷ base ≔ 0 ∷ limit ≔ 0xFFFF ∷ rights ≔ access ∷ []

-- the places lie within their arrays
abbrev pub InRange : Segment → Type 0
InRange g = (g.selector < 17) × (g.base < 46) × (g.limit < 50) × (g.rights < 50)

abbrev pub writes_of : Segment → List Write
writes_of g = segment_writes (Word16 g.selector) (Natural g.base) (Word32 g.limit) (Word32 g.rights) g.access

-- the guest starts in real mode. Access rights (SDM 3C, table 25-2), all present: 0x93 data, read/write, accessed; 0x9B code, execute/read, accessed; 0x8B a busy TSS; 0x82 an LDT
abbrev pub segments_writes : List Write
segments_writes =
    segment_writes VmcsGuest16.ES_SELECTOR VmcsGuestNW.ES_BASE VmcsGuest32.ES_LIMIT VmcsGuest32.ES_ACCESS_RIGHTS 0x93
    ++ segment_writes VmcsGuest16.CS_SELECTOR VmcsGuestNW.CS_BASE VmcsGuest32.CS_LIMIT VmcsGuest32.CS_ACCESS_RIGHTS 0x9B
    ++ segment_writes VmcsGuest16.SS_SELECTOR VmcsGuestNW.SS_BASE VmcsGuest32.SS_LIMIT VmcsGuest32.SS_ACCESS_RIGHTS 0x93
    ++ segment_writes VmcsGuest16.DS_SELECTOR VmcsGuestNW.DS_BASE VmcsGuest32.DS_LIMIT VmcsGuest32.DS_ACCESS_RIGHTS 0x93
    ++ segment_writes VmcsGuest16.FS_SELECTOR VmcsGuestNW.FS_BASE VmcsGuest32.FS_LIMIT VmcsGuest32.FS_ACCESS_RIGHTS 0x93
    ++ segment_writes VmcsGuest16.GS_SELECTOR VmcsGuestNW.GS_BASE VmcsGuest32.GS_LIMIT VmcsGuest32.GS_ACCESS_RIGHTS 0x93
    ++ segment_writes VmcsGuest16.TR_SELECTOR VmcsGuestNW.TR_BASE VmcsGuest32.TR_LIMIT VmcsGuest32.TR_ACCESS_RIGHTS 0x8B
    ++ segment_writes VmcsGuest16.LDTR_SELECTOR VmcsGuestNW.LDTR_BASE VmcsGuest32.LDTR_LIMIT VmcsGuest32.LDTR_ACCESS_RIGHTS 0x82

abbrev pub segments_set : Vmcs → Vmcs
segments_set v = applied segments_writes v

-- bit 10 of DR7 and bit 1 of RFLAGS are always 1; a link pointer of all ones is none (SDM 3C, 25.4.2)
abbrev pub guest_writes : ℕ → ℕ → List Write
guest_writes entry pat =
    VmcsGuestNW.GDTR_BASE ≔ 0
    ∷ VmcsGuest32.GDTR_LIMIT ≔ 0xFFFF
    ∷ VmcsGuestNW.IDTR_BASE ≔ 0
    ∷ VmcsGuest32.IDTR_LIMIT ≔ 0xFFFF
    ∷ VmcsGuestNW.CR3 ≔ 0
    ∷ VmcsGuestNW.DR7 ≔ 0x400
    ∷ VmcsGuestNW.RSP ≔ 0
    ∷ VmcsGuestNW.RIP ≔ entry
    ∷ VmcsGuestNW.RFLAGS ≔ 0x2
    ∷ VmcsGuestNW.PENDING_DBG_EXCEPTIONS ≔ 0
    ∷ VmcsGuestNW.IA32_SYSENTER_ESP ≔ 0
    ∷ VmcsGuestNW.IA32_SYSENTER_EIP ≔ 0
    ∷ VmcsGuest32.IA32_SYSENTER_CS ≔ 0
    ∷ VmcsGuest32.INTERRUPTIBILITY_STATE ≔ 0
    ∷ VmcsGuest32.ACTIVITY_STATE ≔ 0
    ∷ VmcsGuest32.VMX_PREEMPTION_TIMER_VALUE ≔ VMX_PREEMPTION_TIMER_SET_VALUE
    ∷ VmcsGuest64.LINK_PTR ≔ 0xFFFFFFFFFFFFFFFF
    ∷ VmcsGuest64.IA32_DEBUGCTL ≔ 0
    ∷ VmcsGuest64.IA32_PAT ≔ pat
    ∷ VmcsGuest64.IA32_EFER ≔ 0
    ∷ []

abbrev pub guest_set : Vmcs → ℕ → ℕ → Vmcs
guest_set v entry pat = applied (guest_writes entry pat) v

-- ---- setup_vmcs_control

-- of the exceptions only #UD, vector 6, exits: 0x40
abbrev pub control_writes : List ℕ → ℕ → Addresses → List Write
control_writes words eptp a =
    VmcsControl32.PINBASED_EXEC_CONTROLS ≔ get_or words 0 0
    ∷ VmcsControl32.PRIMARY_PROCBASED_EXEC_CONTROLS ≔ get_or words 1 0
    ∷ VmcsControl32.SECONDARY_PROCBASED_EXEC_CONTROLS ≔ get_or words 2 0
    ∷ VmcsControl32.VMEXIT_CONTROLS ≔ get_or words 3 0
    ∷ VmcsControl32.VMENTRY_CONTROLS ≔ get_or words 4 0
    ∷ VmcsControl64.EPTP ≔ eptp
    ∷ VmcsControl32.VMEXIT_MSR_STORE_COUNT ≔ 0
    ∷ VmcsControl32.VMEXIT_MSR_LOAD_COUNT ≔ 0
    ∷ VmcsControl32.VMENTRY_MSR_LOAD_COUNT ≔ 0
    ∷ VmcsControl32.CR3_TARGET_COUNT ≔ 0
    ∷ VmcsControl32.EXCEPTION_BITMAP ≔ 0x40
    ∷ VmcsControl64.IO_BITMAP_A_ADDR ≔ a.bitmapa
    ∷ VmcsControl64.IO_BITMAP_B_ADDR ≔ a.bitmapb
    ∷ VmcsControl64.MSR_BITMAPS_ADDR ≔ a.bitmapmsr
    ∷ []

abbrev pub control_set : Vmcs → List ℕ → ℕ → Addresses → Vmcs
control_set v words eptp a = applied (control_writes words eptp a) v

-- ---- setup_vmcs

abbrev pub cr0_of : CapabilityMsrs → CrWords
cr0_of m = cr0_words m.cr0fixed0 m.cr0fixed1 first_cr0

abbrev pub cr4_of : CapabilityMsrs → CrWords
cr4_of m = cr4_words m.cr4fixed0 m.cr4fixed1 0

abbrev pub words_of : Arguments → List ℕ
words_of a = setup_words (pairs_of a.msrs) (olds_of a.msrs) a.features

unfoldable pub setup_writes : Arguments → List Write
setup_writes a =
    host_writes a.host
    ++ cr_writes (cr0_of a.msrs) (cr4_of a.msrs)
    ++ segments_writes
    ++ guest_writes a.entry a.pat
    ++ control_writes (words_of a) (ept_pointer a.addresses.eptroot) a.addresses

abbrev pub vmcs_set : Vmcs → Arguments → Vmcs
vmcs_set v a = applied (setup_writes a) v
