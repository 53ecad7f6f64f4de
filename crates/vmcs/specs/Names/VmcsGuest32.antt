-- The fields of VmcsGuest32: each with its place in the array of its width. Assumes nothing.
use Rattle.vmcs.specs.Field.{Field, Word32}

abbrev pub ES_LIMIT : Field
ES_LIMIT = Word32 26

abbrev pub CS_LIMIT : Field
CS_LIMIT = Word32 27

abbrev pub SS_LIMIT : Field
SS_LIMIT = Word32 28

abbrev pub DS_LIMIT : Field
DS_LIMIT = Word32 29

abbrev pub FS_LIMIT : Field
FS_LIMIT = Word32 30

abbrev pub GS_LIMIT : Field
GS_LIMIT = Word32 31

abbrev pub LDTR_LIMIT : Field
LDTR_LIMIT = Word32 32

abbrev pub TR_LIMIT : Field
TR_LIMIT = Word32 33

abbrev pub GDTR_LIMIT : Field
GDTR_LIMIT = Word32 34

abbrev pub IDTR_LIMIT : Field
IDTR_LIMIT = Word32 35

abbrev pub ES_ACCESS_RIGHTS : Field
ES_ACCESS_RIGHTS = Word32 36

abbrev pub CS_ACCESS_RIGHTS : Field
CS_ACCESS_RIGHTS = Word32 37

abbrev pub SS_ACCESS_RIGHTS : Field
SS_ACCESS_RIGHTS = Word32 38

abbrev pub DS_ACCESS_RIGHTS : Field
DS_ACCESS_RIGHTS = Word32 39

abbrev pub FS_ACCESS_RIGHTS : Field
FS_ACCESS_RIGHTS = Word32 40

abbrev pub GS_ACCESS_RIGHTS : Field
GS_ACCESS_RIGHTS = Word32 41

abbrev pub LDTR_ACCESS_RIGHTS : Field
LDTR_ACCESS_RIGHTS = Word32 42

abbrev pub TR_ACCESS_RIGHTS : Field
TR_ACCESS_RIGHTS = Word32 43

abbrev pub INTERRUPTIBILITY_STATE : Field
INTERRUPTIBILITY_STATE = Word32 44

abbrev pub ACTIVITY_STATE : Field
ACTIVITY_STATE = Word32 45

abbrev pub SMBASE : Field
SMBASE = Word32 46

abbrev pub IA32_SYSENTER_CS : Field
IA32_SYSENTER_CS = Word32 47

abbrev pub VMX_PREEMPTION_TIMER_VALUE : Field
VMX_PREEMPTION_TIMER_VALUE = Word32 48
