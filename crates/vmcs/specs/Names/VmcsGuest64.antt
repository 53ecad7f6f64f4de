-- The fields of VmcsGuest64: each with its place in the array of its width. Assumes nothing.
use Rattle.vmcs.specs.Field.{Field, Word64}

abbrev pub LINK_PTR : Field
LINK_PTR = Word64 27

abbrev pub IA32_DEBUGCTL : Field
IA32_DEBUGCTL = Word64 28

abbrev pub IA32_PAT : Field
IA32_PAT = Word64 29

abbrev pub IA32_EFER : Field
IA32_EFER = Word64 30

abbrev pub IA32_PERF_GLOBAL_CTRL : Field
IA32_PERF_GLOBAL_CTRL = Word64 31

abbrev pub PDPTE0 : Field
PDPTE0 = Word64 32

abbrev pub PDPTE1 : Field
PDPTE1 = Word64 33

abbrev pub PDPTE2 : Field
PDPTE2 = Word64 34

abbrev pub PDPTE3 : Field
PDPTE3 = Word64 35

abbrev pub IA32_BNDCFGS : Field
IA32_BNDCFGS = Word64 36

abbrev pub IA32_RTIT_CTL : Field
IA32_RTIT_CTL = Word64 37
