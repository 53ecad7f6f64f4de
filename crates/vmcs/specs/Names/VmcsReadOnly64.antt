-- The fields of VmcsReadOnly64: each with its place in the array of its width. Assumes nothing.
use Rattle.vmcs.specs.Field.{Field, Word64}

abbrev pub GUEST_PHYSICAL_ADDR : Field
GUEST_PHYSICAL_ADDR = Word64 26
