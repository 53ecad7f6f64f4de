-- The cases that document 01 works by hand, P1 to P13, and P8 and P9 as document 02 has them (N7): each with what the definitions give, and what it should be. Assumes nothing.
use Rattle.std.specs.Prelude.{ℕ, cond, true, List, [], ◌∷◌}
use Rattle.vmcs.specs.Control.{set_control, control_numbers}
use Rattle.vmcs.specs.Field.{value_of, put}
use Rattle.vmcs.specs.Names.VmcsControl32 as VmcsControl32
use Rattle.vmcs.specs.Names.VmcsGuestNW as VmcsGuestNW
use Rattle.vmcs.specs.Cr.{cr0_words, first_cr0}
use Rattle.structs.specs.EPTPointer.{ept_pointer}
use Rattle.structs.specs.Frames.{in_a, port_byte, port_bit, msr_byte, msr_bit}
use Rattle.structs.specs.declared.Access.TheVariants.{Write}
use Rattle.vcpu_session.specs.Session.{new_session}
use Rattle.vcpu_events.specs.Entry.{injected}
use Rattle.vcpu_events.specs.Queue.{Event}
use Rattle.vcpu_exit.specs.declared.CpuidWords.{CpuidWords}
use Rattle.vcpu_answers.specs.Answer.{answer_words, io_answer}
use Rattle.vcpu_answers.specs.Cpuid.{cpuid_words, leaf_words}

pub record Case : Type 0 where
  pub number : ℕ
  pub given : List ℕ
  pub wanted : List ℕ

abbrev case : ℕ → List ℕ → List ℕ → Case
case n g w = record { number = n; given = g; wanted = w }

-- the frame of a port: 0 is A, 1 is B
abbrev port_frame : ℕ → ℕ
port_frame port = cond (in_a port) 0 1

-- 0 and the word, or the number of the refusal
abbrev control : ℕ → ℕ → List ℕ
control set clear = let c = control_numbers (set_control 32 0x16 0x7F 0x16 set clear) 0 in c.refusal ∷ c.word ∷ []

-- what an entry writes for an event, over this CR0 and an old error code 7: the entry interruption field and the error code
abbrev event_fields : ℕ → Event → List ℕ
event_fields cr0 e =
    let old = put (put new_session.vmcs VmcsGuestNW.CR0 cr0) VmcsControl32.VMENTRY_EXCEPTION_ERR_CODE 7 in
    value_of (injected old e) VmcsControl32.VMENTRY_INTERRUPTION_INFO_FIELD ∷ value_of (injected old e) VmcsControl32.VMENTRY_EXCEPTION_ERR_CODE ∷ []

abbrev cpuid_numbers : CpuidWords → List ℕ
cpuid_numbers w = w.eax ∷ w.ebx ∷ w.ecx ∷ w.edx ∷ []

abbrev pub worked : List Case
worked =
    -- allowed-0 0x16, allowed-1 0x7F, old 0x16: set 9; set 1 and clear 1; clear 2
    case 1 (control 9 0) (0 ∷ 0x1F ∷ [])
    ∷ case 2 (control 1 1) (7 ∷ 0 ∷ [])
    ∷ case 3 (control 0 2) (9 ∷ 0 ∷ [])
    -- fixed-0 0x80000021, fixed-1 0xFFFFFFFF: the first CR0, and its mask
    ∷ case 4 ((cr0_words 0x80000021 0xFFFFFFFF first_cr0).value ∷ (cr0_words 0x80000021 0xFFFFFFFF first_cr0).mask ∷ []) (0x30 ∷ 0xFFFFFFFF60000020 ∷ [])
    -- EPT root 0x1FFF
    ∷ case 5 (ept_pointer 0x1FFF ∷ []) (0x105E ∷ [])
    -- port 0x604: A, byte 192, bit 4
    ∷ case 6 (port_frame 0x604 ∷ port_byte 0x604 ∷ port_bit 0x604 ∷ []) (0 ∷ 192 ∷ 4 ∷ [])
    -- a write of MSR 0xC0000080: byte 3,088, bit 0
    ∷ case 7 (msr_byte Write 0xC0000080 ∷ msr_bit Write 0xC0000080 ∷ []) (3088 ∷ 0 ∷ [])
    -- vectors 14 and 21 with a code, with PE set and with PE clear (document 02, N7)
    ∷ case 8 (event_fields 1 (record { vector = 14; coded = true; code = 2 })) (0x80000B0E ∷ 2 ∷ [])
    ∷ case 9 (event_fields 1 (record { vector = 21; coded = true; code = 3 })) (0x80000B15 ∷ 3 ∷ [])
    ∷ case 8 (event_fields 0xFFFFFFFFFFFFFFFE (record { vector = 14; coded = true; code = 2 })) (0x8000030E ∷ 7 ∷ [])
    ∷ case 9 (event_fields 0xFFFFFFFFFFFFFFFE (record { vector = 21; coded = true; code = 3 })) (0x80000315 ∷ 7 ∷ [])
    -- CPUID leaf 0x40000000: the vendor text; leaf 1 with the host's EAX 0x000806EC
    ∷ case 10 (cpuid_numbers (leaf_words 0x40000000 0 (cpuid_words 0 0 0 0))) (0x40000001 ∷ 0x524D5652 ∷ 0x56524D56 ∷ 0x4D56524D ∷ [])
    ∷ case 11 ((leaf_words 1 0 (cpuid_words 0x000806EC 0 0 0)).eax ∷ []) (0x0008066C ∷ [])
    -- qualification 0x06040001, an OUT of two bytes to port 0x604: SystemDown with RAX 0x2000, a write of 0x2000 with RAX 0x12000
    ∷ case 12 (answer_words (io_answer 0x06040001 0x2000)) (4 ∷ 0 ∷ 0 ∷ 0 ∷ 0 ∷ 0 ∷ 0 ∷ 0 ∷ [])
    ∷ case 13 (answer_words (io_answer 0x06040001 0x12000)) (3 ∷ 0x604 ∷ 2 ∷ 0x2000 ∷ 0 ∷ 0 ∷ 0 ∷ 0 ∷ [])
    ∷ []
