-- The fields of VmcsReadOnlyNW: each with its place in the array of its width. Assumes nothing.
use Rattle.vmcs.specs.Field.{Field, Natural}

abbrev pub EXIT_QUALIFICATION : Field
EXIT_QUALIFICATION = Natural 8

abbrev pub IO_RCX : Field
IO_RCX = Natural 9

abbrev pub IO_RSI : Field
IO_RSI = Natural 10

abbrev pub IO_RDI : Field
IO_RDI = Natural 11

abbrev pub IO_RIP : Field
IO_RIP = Natural 12

abbrev pub GUEST_LINEAR_ADDR : Field
GUEST_LINEAR_ADDR = Natural 13
