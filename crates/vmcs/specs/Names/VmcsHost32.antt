-- The fields of VmcsHost32: each with its place in the array of its width. Assumes nothing.
use Rattle.vmcs.specs.Field.{Field, Word32}

abbrev pub IA32_SYSENTER_CS : Field
IA32_SYSENTER_CS = Word32 49
