-- The fields of VmcsHost64: each with its place in the array of its width. Assumes nothing.
use Rattle.vmcs.specs.Field.{Field, Word64}

abbrev pub IA32_PAT : Field
IA32_PAT = Word64 38

abbrev pub IA32_EFER : Field
IA32_EFER = Word64 39

abbrev pub IA32_PERF_GLOBAL_CTRL : Field
IA32_PERF_GLOBAL_CTRL = Word64 40
