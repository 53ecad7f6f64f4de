-- The fields of VmcsGuest16: each with its place in the array of its width. Assumes nothing.
use Rattle.vmcs.specs.Field.{Field, Word16}

abbrev pub ES_SELECTOR : Field
ES_SELECTOR = Word16 0

abbrev pub CS_SELECTOR : Field
CS_SELECTOR = Word16 1

abbrev pub SS_SELECTOR : Field
SS_SELECTOR = Word16 2

abbrev pub DS_SELECTOR : Field
DS_SELECTOR = Word16 3

abbrev pub FS_SELECTOR : Field
FS_SELECTOR = Word16 4

abbrev pub GS_SELECTOR : Field
GS_SELECTOR = Word16 5

abbrev pub LDTR_SELECTOR : Field
LDTR_SELECTOR = Word16 6

abbrev pub TR_SELECTOR : Field
TR_SELECTOR = Word16 7

abbrev pub INTERRUPT_STATUS : Field
INTERRUPT_STATUS = Word16 8

abbrev pub PML_INDEX : Field
PML_INDEX = Word16 9
