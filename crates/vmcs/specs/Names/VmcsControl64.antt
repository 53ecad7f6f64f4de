-- The fields of VmcsControl64: each with its place in the array of its width. Assumes nothing.
use Rattle.vmcs.specs.Field.{Field, Word64}

abbrev pub IO_BITMAP_A_ADDR : Field
IO_BITMAP_A_ADDR = Word64 0

abbrev pub IO_BITMAP_B_ADDR : Field
IO_BITMAP_B_ADDR = Word64 1

abbrev pub MSR_BITMAPS_ADDR : Field
MSR_BITMAPS_ADDR = Word64 2

abbrev pub VMEXIT_MSR_STORE_ADDR : Field
VMEXIT_MSR_STORE_ADDR = Word64 3

abbrev pub VMEXIT_MSR_LOAD_ADDR : Field
VMEXIT_MSR_LOAD_ADDR = Word64 4

abbrev pub VMENTRY_MSR_LOAD_ADDR : Field
VMENTRY_MSR_LOAD_ADDR = Word64 5

abbrev pub EXECUTIVE_VMCS_PTR : Field
EXECUTIVE_VMCS_PTR = Word64 6

abbrev pub PML_ADDR : Field
PML_ADDR = Word64 7

abbrev pub TSC_OFFSET : Field
TSC_OFFSET = Word64 8

abbrev pub VIRT_APIC_ADDR : Field
VIRT_APIC_ADDR = Word64 9

abbrev pub APIC_ACCESS_ADDR : Field
APIC_ACCESS_ADDR = Word64 10

abbrev pub POSTED_INTERRUPT_DESC_ADDR : Field
POSTED_INTERRUPT_DESC_ADDR = Word64 11

abbrev pub VM_FUNCTION_CONTROLS : Field
VM_FUNCTION_CONTROLS = Word64 12

abbrev pub EPTP : Field
EPTP = Word64 13

abbrev pub EOI_EXIT0 : Field
EOI_EXIT0 = Word64 14

abbrev pub EOI_EXIT1 : Field
EOI_EXIT1 = Word64 15

abbrev pub EOI_EXIT2 : Field
EOI_EXIT2 = Word64 16

abbrev pub EOI_EXIT3 : Field
EOI_EXIT3 = Word64 17

abbrev pub EPTP_LIST_ADDR : Field
EPTP_LIST_ADDR = Word64 18

abbrev pub VMREAD_BITMAP_ADDR : Field
VMREAD_BITMAP_ADDR = Word64 19

abbrev pub VMWRITE_BITMAP_ADDR : Field
VMWRITE_BITMAP_ADDR = Word64 20

abbrev pub VIRT_EXCEPTION_INFO_ADDR : Field
VIRT_EXCEPTION_INFO_ADDR = Word64 21

abbrev pub XSS_EXITING_BITMAP : Field
XSS_EXITING_BITMAP = Word64 22

abbrev pub ENCLS_EXITING_BITMAP : Field
ENCLS_EXITING_BITMAP = Word64 23

abbrev pub SUBPAGE_PERM_TABLE_PTR : Field
SUBPAGE_PERM_TABLE_PTR = Word64 24

abbrev pub TSC_MULTIPLIER : Field
TSC_MULTIPLIER = Word64 25
