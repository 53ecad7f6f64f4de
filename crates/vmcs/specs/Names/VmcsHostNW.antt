-- The fields of VmcsHostNW: each with its place in the array of its width. Assumes nothing.
use Rattle.vmcs.specs.Field.{Field, Natural}

abbrev pub CR0 : Field
CR0 = Natural 34

abbrev pub CR3 : Field
CR3 = Natural 35

abbrev pub CR4 : Field
CR4 = Natural 36

abbrev pub FS_BASE : Field
FS_BASE = Natural 37

abbrev pub GS_BASE : Field
GS_BASE = Natural 38

abbrev pub TR_BASE : Field
TR_BASE = Natural 39

abbrev pub GDTR_BASE : Field
GDTR_BASE = Natural 40

abbrev pub IDTR_BASE : Field
IDTR_BASE = Natural 41

abbrev pub IA32_SYSENTER_ESP : Field
IA32_SYSENTER_ESP = Natural 42

abbrev pub IA32_SYSENTER_EIP : Field
IA32_SYSENTER_EIP = Natural 43

abbrev pub RSP : Field
RSP = Natural 44

abbrev pub RIP : Field
RIP = Natural 45
