-- The fields of VmcsHost16: each with its place in the array of its width. Assumes nothing.
use Rattle.vmcs.specs.Field.{Field, Word16}

abbrev pub ES_SELECTOR : Field
ES_SELECTOR = Word16 10

abbrev pub CS_SELECTOR : Field
CS_SELECTOR = Word16 11

abbrev pub SS_SELECTOR : Field
SS_SELECTOR = Word16 12

abbrev pub DS_SELECTOR : Field
DS_SELECTOR = Word16 13

abbrev pub FS_SELECTOR : Field
FS_SELECTOR = Word16 14

abbrev pub GS_SELECTOR : Field
GS_SELECTOR = Word16 15

abbrev pub TR_SELECTOR : Field
TR_SELECTOR = Word16 16
