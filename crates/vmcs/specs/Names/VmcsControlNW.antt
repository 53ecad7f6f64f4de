-- The fields of VmcsControlNW: each with its place in the array of its width. Assumes nothing.
use Rattle.vmcs.specs.Field.{Field, Natural}

abbrev pub CR0_GUEST_HOST_MASK : Field
CR0_GUEST_HOST_MASK = Natural 0

abbrev pub CR4_GUEST_HOST_MASK : Field
CR4_GUEST_HOST_MASK = Natural 1

abbrev pub CR0_READ_SHADOW : Field
CR0_READ_SHADOW = Natural 2

abbrev pub CR4_READ_SHADOW : Field
CR4_READ_SHADOW = Natural 3

abbrev pub CR3_TARGET_VALUE0 : Field
CR3_TARGET_VALUE0 = Natural 4

abbrev pub CR3_TARGET_VALUE1 : Field
CR3_TARGET_VALUE1 = Natural 5

abbrev pub CR3_TARGET_VALUE2 : Field
CR3_TARGET_VALUE2 = Natural 6

abbrev pub CR3_TARGET_VALUE3 : Field
CR3_TARGET_VALUE3 = Natural 7
