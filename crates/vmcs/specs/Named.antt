-- Each field's kind, name and encoding (SDM 3D, appendix B), ascending. Assumes nothing.
use Rattle.std.specs.Prelude.{ℕ, List, [], ◌∷◌, map}
use Rattle.vmcs.specs.Field.{Field, place_of}
use Rattle.vmcs.specs.Names.VmcsGuest16 as VmcsGuest16
use Rattle.vmcs.specs.Names.VmcsHost16 as VmcsHost16
use Rattle.vmcs.specs.Names.VmcsControl64 as VmcsControl64
use Rattle.vmcs.specs.Names.VmcsReadOnly64 as VmcsReadOnly64
use Rattle.vmcs.specs.Names.VmcsGuest64 as VmcsGuest64
use Rattle.vmcs.specs.Names.VmcsHost64 as VmcsHost64
use Rattle.vmcs.specs.Names.VmcsControl32 as VmcsControl32
use Rattle.vmcs.specs.Names.VmcsReadOnly32 as VmcsReadOnly32
use Rattle.vmcs.specs.Names.VmcsGuest32 as VmcsGuest32
use Rattle.vmcs.specs.Names.VmcsHost32 as VmcsHost32
use Rattle.vmcs.specs.Names.VmcsControlNW as VmcsControlNW
use Rattle.vmcs.specs.Names.VmcsReadOnlyNW as VmcsReadOnlyNW
use Rattle.vmcs.specs.Names.VmcsGuestNW as VmcsGuestNW
use Rattle.vmcs.specs.Names.VmcsHostNW as VmcsHostNW

pub record Named : Type 0 where
  pub kind : ℕ
  pub field : Field
  pub encoding : ℕ

abbrev control : Field → ℕ → Named
control f e = record { kind = 0; field = f; encoding = e }

abbrev read_only : Field → ℕ → Named
read_only f e = record { kind = 1; field = f; encoding = e }

abbrev guest : Field → ℕ → Named
guest f e = record { kind = 2; field = f; encoding = e }

abbrev host : Field → ℕ → Named
host f e = record { kind = 3; field = f; encoding = e }

unfoldable pub named : List Named
named =
    guest VmcsGuest16.ES_SELECTOR 0x0800
    ∷ guest VmcsGuest16.CS_SELECTOR 0x0802
    ∷ guest VmcsGuest16.SS_SELECTOR 0x0804
    ∷ guest VmcsGuest16.DS_SELECTOR 0x0806
    ∷ guest VmcsGuest16.FS_SELECTOR 0x0808
    ∷ guest VmcsGuest16.GS_SELECTOR 0x080A
    ∷ guest VmcsGuest16.LDTR_SELECTOR 0x080C
    ∷ guest VmcsGuest16.TR_SELECTOR 0x080E
    ∷ guest VmcsGuest16.INTERRUPT_STATUS 0x0810
    ∷ guest VmcsGuest16.PML_INDEX 0x0812
    ∷ host VmcsHost16.ES_SELECTOR 0x0C00
    ∷ host VmcsHost16.CS_SELECTOR 0x0C02
    ∷ host VmcsHost16.SS_SELECTOR 0x0C04
    ∷ host VmcsHost16.DS_SELECTOR 0x0C06
    ∷ host VmcsHost16.FS_SELECTOR 0x0C08
    ∷ host VmcsHost16.GS_SELECTOR 0x0C0A
    ∷ host VmcsHost16.TR_SELECTOR 0x0C0C
    ∷ control VmcsControl64.IO_BITMAP_A_ADDR 0x2000
    ∷ control VmcsControl64.IO_BITMAP_B_ADDR 0x2002
    ∷ control VmcsControl64.MSR_BITMAPS_ADDR 0x2004
    ∷ control VmcsControl64.VMEXIT_MSR_STORE_ADDR 0x2006
    ∷ control VmcsControl64.VMEXIT_MSR_LOAD_ADDR 0x2008
    ∷ control VmcsControl64.VMENTRY_MSR_LOAD_ADDR 0x200A
    ∷ control VmcsControl64.EXECUTIVE_VMCS_PTR 0x200C
    ∷ control VmcsControl64.PML_ADDR 0x200E
    ∷ control VmcsControl64.TSC_OFFSET 0x2010
    ∷ control VmcsControl64.VIRT_APIC_ADDR 0x2012
    ∷ control VmcsControl64.APIC_ACCESS_ADDR 0x2014
    ∷ control VmcsControl64.POSTED_INTERRUPT_DESC_ADDR 0x2016
    ∷ control VmcsControl64.VM_FUNCTION_CONTROLS 0x2018
    ∷ control VmcsControl64.EPTP 0x201A
    ∷ control VmcsControl64.EOI_EXIT0 0x201C
    ∷ control VmcsControl64.EOI_EXIT1 0x201E
    ∷ control VmcsControl64.EOI_EXIT2 0x2020
    ∷ control VmcsControl64.EOI_EXIT3 0x2022
    ∷ control VmcsControl64.EPTP_LIST_ADDR 0x2024
    ∷ control VmcsControl64.VMREAD_BITMAP_ADDR 0x2026
    ∷ control VmcsControl64.VMWRITE_BITMAP_ADDR 0x2028
    ∷ control VmcsControl64.VIRT_EXCEPTION_INFO_ADDR 0x202A
    ∷ control VmcsControl64.XSS_EXITING_BITMAP 0x202C
    ∷ control VmcsControl64.ENCLS_EXITING_BITMAP 0x202E
    ∷ control VmcsControl64.SUBPAGE_PERM_TABLE_PTR 0x2030
    ∷ control VmcsControl64.TSC_MULTIPLIER 0x2032
    ∷ read_only VmcsReadOnly64.GUEST_PHYSICAL_ADDR 0x2400
    ∷ guest VmcsGuest64.LINK_PTR 0x2800
    ∷ guest VmcsGuest64.IA32_DEBUGCTL 0x2802
    ∷ guest VmcsGuest64.IA32_PAT 0x2804
    ∷ guest VmcsGuest64.IA32_EFER 0x2806
    ∷ guest VmcsGuest64.IA32_PERF_GLOBAL_CTRL 0x2808
    ∷ guest VmcsGuest64.PDPTE0 0x280A
    ∷ guest VmcsGuest64.PDPTE1 0x280C
    ∷ guest VmcsGuest64.PDPTE2 0x280E
    ∷ guest VmcsGuest64.PDPTE3 0x2810
    ∷ guest VmcsGuest64.IA32_BNDCFGS 0x2812
    ∷ guest VmcsGuest64.IA32_RTIT_CTL 0x2814
    ∷ host VmcsHost64.IA32_PAT 0x2C00
    ∷ host VmcsHost64.IA32_EFER 0x2C02
    ∷ host VmcsHost64.IA32_PERF_GLOBAL_CTRL 0x2C04
    ∷ control VmcsControl32.PINBASED_EXEC_CONTROLS 0x4000
    ∷ control VmcsControl32.PRIMARY_PROCBASED_EXEC_CONTROLS 0x4002
    ∷ control VmcsControl32.EXCEPTION_BITMAP 0x4004
    ∷ control VmcsControl32.PAGE_FAULT_ERR_CODE_MASK 0x4006
    ∷ control VmcsControl32.PAGE_FAULT_ERR_CODE_MATCH 0x4008
    ∷ control VmcsControl32.CR3_TARGET_COUNT 0x400A
    ∷ control VmcsControl32.VMEXIT_CONTROLS 0x400C
    ∷ control VmcsControl32.VMEXIT_MSR_STORE_COUNT 0x400E
    ∷ control VmcsControl32.VMEXIT_MSR_LOAD_COUNT 0x4010
    ∷ control VmcsControl32.VMENTRY_CONTROLS 0x4012
    ∷ control VmcsControl32.VMENTRY_MSR_LOAD_COUNT 0x4014
    ∷ control VmcsControl32.VMENTRY_INTERRUPTION_INFO_FIELD 0x4016
    ∷ control VmcsControl32.VMENTRY_EXCEPTION_ERR_CODE 0x4018
    ∷ control VmcsControl32.VMENTRY_INSTRUCTION_LEN 0x401A
    ∷ control VmcsControl32.TPR_THRESHOLD 0x401C
    ∷ control VmcsControl32.SECONDARY_PROCBASED_EXEC_CONTROLS 0x401E
    ∷ control VmcsControl32.PLE_GAP 0x4020
    ∷ control VmcsControl32.PLE_WINDOW 0x4022
    ∷ read_only VmcsReadOnly32.VM_INSTRUCTION_ERROR 0x4400
    ∷ read_only VmcsReadOnly32.EXIT_REASON 0x4402
    ∷ read_only VmcsReadOnly32.VMEXIT_INTERRUPTION_INFO 0x4404
    ∷ read_only VmcsReadOnly32.VMEXIT_INTERRUPTION_ERR_CODE 0x4406
    ∷ read_only VmcsReadOnly32.IDT_VECTORING_INFO 0x4408
    ∷ read_only VmcsReadOnly32.IDT_VECTORING_ERR_CODE 0x440A
    ∷ read_only VmcsReadOnly32.VMEXIT_INSTRUCTION_LEN 0x440C
    ∷ read_only VmcsReadOnly32.VMEXIT_INSTRUCTION_INFO 0x440E
    ∷ guest VmcsGuest32.ES_LIMIT 0x4800
    ∷ guest VmcsGuest32.CS_LIMIT 0x4802
    ∷ guest VmcsGuest32.SS_LIMIT 0x4804
    ∷ guest VmcsGuest32.DS_LIMIT 0x4806
    ∷ guest VmcsGuest32.FS_LIMIT 0x4808
    ∷ guest VmcsGuest32.GS_LIMIT 0x480A
    ∷ guest VmcsGuest32.LDTR_LIMIT 0x480C
    ∷ guest VmcsGuest32.TR_LIMIT 0x480E
    ∷ guest VmcsGuest32.GDTR_LIMIT 0x4810
    ∷ guest VmcsGuest32.IDTR_LIMIT 0x4812
    ∷ guest VmcsGuest32.ES_ACCESS_RIGHTS 0x4814
    ∷ guest VmcsGuest32.CS_ACCESS_RIGHTS 0x4816
    ∷ guest VmcsGuest32.SS_ACCESS_RIGHTS 0x4818
    ∷ guest VmcsGuest32.DS_ACCESS_RIGHTS 0x481A
    ∷ guest VmcsGuest32.FS_ACCESS_RIGHTS 0x481C
    ∷ guest VmcsGuest32.GS_ACCESS_RIGHTS 0x481E
    ∷ guest VmcsGuest32.LDTR_ACCESS_RIGHTS 0x4820
    ∷ guest VmcsGuest32.TR_ACCESS_RIGHTS 0x4822
    ∷ guest VmcsGuest32.INTERRUPTIBILITY_STATE 0x4824
    ∷ guest VmcsGuest32.ACTIVITY_STATE 0x4826
    ∷ guest VmcsGuest32.SMBASE 0x4828
    ∷ guest VmcsGuest32.IA32_SYSENTER_CS 0x482A
    ∷ guest VmcsGuest32.VMX_PREEMPTION_TIMER_VALUE 0x482E
    ∷ host VmcsHost32.IA32_SYSENTER_CS 0x4C00
    ∷ control VmcsControlNW.CR0_GUEST_HOST_MASK 0x6000
    ∷ control VmcsControlNW.CR4_GUEST_HOST_MASK 0x6002
    ∷ control VmcsControlNW.CR0_READ_SHADOW 0x6004
    ∷ control VmcsControlNW.CR4_READ_SHADOW 0x6006
    ∷ control VmcsControlNW.CR3_TARGET_VALUE0 0x6008
    ∷ control VmcsControlNW.CR3_TARGET_VALUE1 0x600A
    ∷ control VmcsControlNW.CR3_TARGET_VALUE2 0x600C
    ∷ control VmcsControlNW.CR3_TARGET_VALUE3 0x600E
    ∷ read_only VmcsReadOnlyNW.EXIT_QUALIFICATION 0x6400
    ∷ read_only VmcsReadOnlyNW.IO_RCX 0x6402
    ∷ read_only VmcsReadOnlyNW.IO_RSI 0x6404
    ∷ read_only VmcsReadOnlyNW.IO_RDI 0x6406
    ∷ read_only VmcsReadOnlyNW.IO_RIP 0x6408
    ∷ read_only VmcsReadOnlyNW.GUEST_LINEAR_ADDR 0x640A
    ∷ guest VmcsGuestNW.CR0 0x6800
    ∷ guest VmcsGuestNW.CR3 0x6802
    ∷ guest VmcsGuestNW.CR4 0x6804
    ∷ guest VmcsGuestNW.ES_BASE 0x6806
    ∷ guest VmcsGuestNW.CS_BASE 0x6808
    ∷ guest VmcsGuestNW.SS_BASE 0x680A
    ∷ guest VmcsGuestNW.DS_BASE 0x680C
    ∷ guest VmcsGuestNW.FS_BASE 0x680E
    ∷ guest VmcsGuestNW.GS_BASE 0x6810
    ∷ guest VmcsGuestNW.LDTR_BASE 0x6812
    ∷ guest VmcsGuestNW.TR_BASE 0x6814
    ∷ guest VmcsGuestNW.GDTR_BASE 0x6816
    ∷ guest VmcsGuestNW.IDTR_BASE 0x6818
    ∷ guest VmcsGuestNW.DR7 0x681A
    ∷ guest VmcsGuestNW.RSP 0x681C
    ∷ guest VmcsGuestNW.RIP 0x681E
    ∷ guest VmcsGuestNW.RFLAGS 0x6820
    ∷ guest VmcsGuestNW.PENDING_DBG_EXCEPTIONS 0x6822
    ∷ guest VmcsGuestNW.IA32_SYSENTER_ESP 0x6824
    ∷ guest VmcsGuestNW.IA32_SYSENTER_EIP 0x6826
    ∷ host VmcsHostNW.CR0 0x6C00
    ∷ host VmcsHostNW.CR3 0x6C02
    ∷ host VmcsHostNW.CR4 0x6C04
    ∷ host VmcsHostNW.FS_BASE 0x6C06
    ∷ host VmcsHostNW.GS_BASE 0x6C08
    ∷ host VmcsHostNW.TR_BASE 0x6C0A
    ∷ host VmcsHostNW.GDTR_BASE 0x6C0C
    ∷ host VmcsHostNW.IDTR_BASE 0x6C0E
    ∷ host VmcsHostNW.IA32_SYSENTER_ESP 0x6C10
    ∷ host VmcsHostNW.IA32_SYSENTER_EIP 0x6C12
    ∷ host VmcsHostNW.RSP 0x6C14
    ∷ host VmcsHostNW.RIP 0x6C16
    ∷ []

-- the encodings
unfoldable pub encodings : List ℕ
encodings = map (λ (n : Named). n.encoding) named

-- the places of all names, in the order of the table
unfoldable pub places_named : List ℕ
places_named = map (λ (n : Named). place_of n.field) named
