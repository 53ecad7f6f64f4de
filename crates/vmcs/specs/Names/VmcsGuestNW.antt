-- The fields of VmcsGuestNW: each with its place in the array of its width. Assumes nothing.
use Rattle.vmcs.specs.Field.{Field, Natural}

abbrev pub CR0 : Field
CR0 = Natural 14

abbrev pub CR3 : Field
CR3 = Natural 15

abbrev pub CR4 : Field
CR4 = Natural 16

abbrev pub ES_BASE : Field
ES_BASE = Natural 17

abbrev pub CS_BASE : Field
CS_BASE = Natural 18

abbrev pub SS_BASE : Field
SS_BASE = Natural 19

abbrev pub DS_BASE : Field
DS_BASE = Natural 20

abbrev pub FS_BASE : Field
FS_BASE = Natural 21

abbrev pub GS_BASE : Field
GS_BASE = Natural 22

abbrev pub LDTR_BASE : Field
LDTR_BASE = Natural 23

abbrev pub TR_BASE : Field
TR_BASE = Natural 24

abbrev pub GDTR_BASE : Field
GDTR_BASE = Natural 25

abbrev pub IDTR_BASE : Field
IDTR_BASE = Natural 26

abbrev pub DR7 : Field
DR7 = Natural 27

abbrev pub RSP : Field
RSP = Natural 28

abbrev pub RIP : Field
RIP = Natural 29

abbrev pub RFLAGS : Field
RFLAGS = Natural 30

abbrev pub PENDING_DBG_EXCEPTIONS : Field
PENDING_DBG_EXCEPTIONS = Natural 31

abbrev pub IA32_SYSENTER_ESP : Field
IA32_SYSENTER_ESP = Natural 32

abbrev pub IA32_SYSENTER_EIP : Field
IA32_SYSENTER_EIP = Natural 33
