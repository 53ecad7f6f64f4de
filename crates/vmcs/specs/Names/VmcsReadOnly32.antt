-- The fields of VmcsReadOnly32: each with its place in the array of its width. Assumes nothing.
use Rattle.vmcs.specs.Field.{Field, Word32}

abbrev pub VM_INSTRUCTION_ERROR : Field
VM_INSTRUCTION_ERROR = Word32 18

abbrev pub EXIT_REASON : Field
EXIT_REASON = Word32 19

abbrev pub VMEXIT_INTERRUPTION_INFO : Field
VMEXIT_INTERRUPTION_INFO = Word32 20

abbrev pub VMEXIT_INTERRUPTION_ERR_CODE : Field
VMEXIT_INTERRUPTION_ERR_CODE = Word32 21

abbrev pub IDT_VECTORING_INFO : Field
IDT_VECTORING_INFO = Word32 22

abbrev pub IDT_VECTORING_ERR_CODE : Field
IDT_VECTORING_ERR_CODE = Word32 23

abbrev pub VMEXIT_INSTRUCTION_LEN : Field
VMEXIT_INSTRUCTION_LEN = Word32 24

abbrev pub VMEXIT_INSTRUCTION_INFO : Field
VMEXIT_INSTRUCTION_INFO = Word32 25
