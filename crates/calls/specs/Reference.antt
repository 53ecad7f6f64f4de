-- Demand 3: the calls on a session, and the reference queue (document 01, "Demand 3, the whole list"). The reference is fed the calls and whether
-- each was refused; it uses the layout of the calls' arguments, the order of the registers and the listed tables, and no definition of what a call does. Assumes
-- nothing.
use Rattle.std.specs.Prelude.{ℕ, ◌+◌, ◌*◌, ◌/◌, ◌%◌, ◌^◌, ◌<◌, ◌≤◌, ◌≡◌, ◌⊎◌, ◌≢◌, Bool, true, false, cond, T, eqb, length, get_or, drop}
use Rattle.std.proofs.Common.{inl, inr}
use Rattle.std.proofs.Math.Bool.{Bool-discrete}
use mathlib.Core.List.{List, [], ◌∷◌, ◌++◌, Memᴰ}
use Rattle.std.proofs.Math.Option
use Rattle.std.proofs.Math.Option.{Option, none, some}
use Rattle.std.proofs.Math.Decide.{dec_le, ℕ_discrete}
use Rattle.std.specs.Int.Bits.{bit_and, bit_or}
use Rattle.bits.specs.Words.{bit, bit_not, flag, low32, high32, Within, Apart}
use Rattle.bits.specs.LittleEndian.{little_endian, Below}
use Rattle.bits.specs.Refuses.{Rule, by}
use Rattle.regs.specs.Registers.{list_of}
use Rattle.vmcs.specs.Named.{encodings}
use Rattle.vcpu_events.specs.declared.Injection.{Injection}
use Rattle.vcpu_events.specs.declared.Injection.TheVariants.{Empty, Held, Written}
use Rattle.vcpu_setup.specs.declared.Features.{Features}
use Rattle.vcpu_exit.specs.declared.Report.{Report}
use Rattle.blocks.specs.ReportLayout as ReportLayout
use Rattle.blocks.specs.ReportBlock.{report_of}
use Rattle.blocks.specs.SetupLayout as Layout
use Rattle.blocks.specs.SetupBlock.{features_of}
use Rattle.calls.specs.Moves.{Move, queues, finds_none, holds, writes, exits, fails, rests, moved, answer_of, Tally, begun, tallied}

-- ---- choices by a decision

-- a if P holds, else b
abbrev pub choose : {P : Type 0} {A : Type 0} → Dec P → A → A → A
choose (yes p) a b = a
choose (no p) a b = b

abbrev pub both : {P Q : Type 0} → Dec P → Dec Q → Dec (P × Q)
both (yes p) (yes q) = yes (p, q)
both (yes p) (no q) = no (λ b. q b.1)
both (no p) d = no (λ b. p b.0)

abbrev pub either : {P Q : Type 0} → Dec P → Dec Q → Dec (P ⊎ Q)
either (yes p) d = yes (inl p)
either (no p) (yes q) = yes (inr q)
either (no p) (no q) = no (λ b. elim b [ inl x ↦ p x | inr y ↦ q y ])

abbrev pub is_not : {P : Type 0} → Dec P → Dec (P → ⊥)
is_not (yes p) = no (λ n. n p)
is_not (no n) = yes n

-- ---- the calls

pub data Call : Type 0 where
  -- the block of arguments, and the frames I/O A, I/O B and MSR
  setup : List ℕ → List ℕ → List ℕ → List ℕ → Call
  -- the vector, whether a code is given, the code
  queue_event : ℕ → ℕ → ℕ → Call
  inject_interrupt : ℕ → Call
  -- the host stack number
  entry : ℕ → Call
  -- the block of the report
  exit_report : List ℕ → Call
  apic_value : ℕ → Call
  -- the encoding, the number
  field_write : ℕ → ℕ → Call
  -- the index, the number
  register_write : ℕ → ℕ → Call

-- each number of a call fits its type, as in every call from C
abbrev pub WellTyped : Call → Type 0
WellTyped (setup block a b msr) = Below 256 block
WellTyped (queue_event vector coded code) = (vector < 2 ^ 8) × (coded < 2 ^ 8) × (code < 2 ^ 32)
WellTyped (inject_interrupt vector) = vector < 2 ^ 64
WellTyped (entry stack) = stack < 2 ^ 64
WellTyped (exit_report block) = Below 256 block
WellTyped (apic_value value) = value < 2 ^ 64
WellTyped (field_write encoding value) = (encoding < 2 ^ 64) × (value < 2 ^ 64)
WellTyped (register_write index value) = (index < 2 ^ 64) × (value < 2 ^ 64)

abbrev pub AllWellTyped : List Call → Type 0
AllWellTyped [] = Unit {0}
AllWellTyped (c ∷ cs) = WellTyped c × AllWellTyped cs

-- an event is a vector and the code, if given
pub record Event : Type 0 where
  pub vector : ℕ
  pub code : Option ℕ

-- an entry that gives this answer about the front of these events: Empty is document 01's none. No entry answers Written on an empty queue (`Answers` of
-- DemandThree.antt)
abbrev pub entry_move : Injection → List Event → Move Event
entry_move Empty w = finds_none
entry_move Held w = holds
entry_move Written [] = finds_none
entry_move Written (e ∷ w) = writes e

-- what an accepted call does to the queue: an entry by its answer and the events that wait
abbrev pub move_by : Call → Injection → List Event → Move Event
move_by (setup block a b msr) answer w = rests
move_by (queue_event vector coded code) answer w = queues (record { vector = vector; code = cond (eqb coded 1) (some code) none })
move_by (inject_interrupt vector) answer w = queues (record { vector = vector; code = none })
move_by (entry stack) answer w = entry_move answer w
move_by (exit_report block) answer w = cond (bit 31 (report_of block).reason) fails exits
move_by (apic_value value) answer w = rests
move_by (field_write encoding value) answer w = rests
move_by (register_write index value) answer w = rests

-- ---- what the processor permits (SDM 3D, A.1 to A.5, A.7 and A.8)

-- the bits that must be 1 and those that may be: allowed-0 and allowed-1 of a control, fixed-0 and fixed-1 of CR0 and CR4
pub record Bounds : Type 0 where
  pub must : ℕ
  pub may : ℕ

-- the capability MSR of a control has allowed-0 in its low half, allowed-1 in its high half
abbrev pub halves_of : ℕ → Bounds
halves_of msr = record { must = low32 msr; may = high32 msr }

pub record Limits : Type 0 where
  pub pin : Bounds
  pub primary : Bounds
  pub secondary : Bounds
  pub exit : Bounds
  pub entry : Bounds
  pub cr0 : Bounds
  pub cr4 : Bounds

-- an MSR in setup's block, by its offset there
abbrev pub msr_at : ℕ → List ℕ → ℕ
msr_at offset block = little_endian 8 (drop offset block)

-- bit 55 of IA32_VMX_BASIC: the IA32_VMX_TRUE_.._CTLS are there (SDM 3D, A.1)
abbrev pub has_true_words : List ℕ → Bool
has_true_words block = bit 55 (msr_at Layout.VMX_BASIC block)

-- the MSR that decides for a control: its IA32_VMX_TRUE_.._CTLS supersedes its IA32_VMX_.._CTLS where it is there (document 02, N4; SDM 3D, A.2)
abbrev pub used_at : (plain superseding : ℕ) → List ℕ → ℕ
used_at plain superseding block = cond (has_true_words block) (msr_at superseding block) (msr_at plain block)

-- by the MSRs that setup is given; the secondary controls have IA32_VMX_PROCBASED_CTLS2 alone
abbrev pub limits_of : List ℕ → Limits
limits_of block =
    record {
      pin = halves_of (used_at Layout.PINBASED_CTLS Layout.TRUE_PINBASED_CTLS block);
      primary = halves_of (used_at Layout.PROCBASED_CTLS Layout.TRUE_PROCBASED_CTLS block);
      secondary = halves_of (msr_at Layout.PROCBASED_CTLS2 block);
      exit = halves_of (used_at Layout.EXIT_CTLS Layout.TRUE_EXIT_CTLS block);
      entry = halves_of (used_at Layout.ENTRY_CTLS Layout.TRUE_ENTRY_CTLS block);
      cr0 = record { must = msr_at Layout.CR0_FIXED0 block; may = msr_at Layout.CR0_FIXED1 block };
      cr4 = record { must = msr_at Layout.CR4_FIXED0 block; may = msr_at Layout.CR4_FIXED1 block };
    }

-- ---- the five control words (document 01, "Setup"; SDM 3D, A.3 to A.5)

pub record Controls : Type 0 where
  pub pin : ℕ
  pub primary : ℕ
  pub secondary : ℕ
  pub exit : ℕ
  pub entry : ℕ

-- allowed-0, what is set, and, of the bits that may be 0 or 1 and are neither set nor cleared, those of an old word
abbrev pub control_value : Bounds → (old set clear : ℕ) → ℕ
control_value b old set clear = bit_or (bit_or b.must (bit_and (bit_and (bit_and (bit_not 32 b.must) b.may) (bit_not 32 (bit_or set clear))) old)) set

-- what setup sets. Pin: external-interrupt exiting (bit 0), NMI exiting (3). Primary: use I/O bitmaps (25), use MSR bitmaps (28), secondary controls (31). Secondary:
-- EPT (1), unrestricted guest (7), and RDTSCP (3), INVPCID (12) and XSAVES (20) where CPUID offers them. Exit: host address-space size (9), acknowledge
-- interrupt (15), save and load PAT (18, 19) and EFER (20, 21). Entry: load PAT (14) and EFER (15)
abbrev pub pin_set : ℕ
pin_set = 0x9

abbrev pub primary_set : ℕ
primary_set = 0x92000000

abbrev pub secondary_set : Features → ℕ
secondary_set f = 0x82 + 0x8 * flag f.rdtscp + 0x1000 * flag f.invpcid + 0x100000 * flag f.xsaves

abbrev pub exit_set : ℕ
exit_set = 0x3C8200

abbrev pub entry_set : ℕ
entry_set = 0xC000

-- what it clears: exits at loads and stores of CR3 (15, 16) and of CR8 (19, 20)
abbrev pub primary_clear : ℕ
primary_clear = 0x198000

-- the words that setup writes; the old ones are the low halves of the IA32_VMX_.._CTLS without TRUE, and of IA32_VMX_PROCBASED_CTLS2
abbrev pub controls_of : List ℕ → Controls
controls_of block =
    record {
      pin = control_value (limits_of block).pin (low32 (msr_at Layout.PINBASED_CTLS block)) pin_set 0;
      primary = control_value (limits_of block).primary (low32 (msr_at Layout.PROCBASED_CTLS block)) primary_set primary_clear;
      secondary = control_value (limits_of block).secondary (low32 (msr_at Layout.PROCBASED_CTLS2 block)) (secondary_set (features_of block)) 0;
      exit = control_value (limits_of block).exit (low32 (msr_at Layout.EXIT_CTLS block)) exit_set 0;
      entry = control_value (limits_of block).entry (low32 (msr_at Layout.ENTRY_CTLS block)) entry_set 0;
    }

-- ---- the guest's CR0 and CR4 (SDM 3C, 25.6.6; 3D, A.7 and A.8)

-- the value that is asked for, without the bits that may not be 1 and with those that must be, which prevail; and the guest/host mask, which owns just these bits
abbrev pub cr_value : Bounds → ℕ → ℕ
cr_value b asked = bit_or (bit_and asked b.may) b.must

abbrev pub cr_mask : Bounds → ℕ
cr_mask b = bit_or b.must (bit_not 64 b.may)

-- of CR0: PE (bit 0) and PG (bit 31) need not be 1, since unrestricted guest is on; NW (bit 29) and CD (bit 30) may not be
abbrev pub cr0_bounds : Limits → Bounds
cr0_bounds l = record { must = bit_and l.cr0.must (bit_not 64 0x80000001); may = bit_and l.cr0.may (bit_not 64 0x60000000) }

-- of CR4, VMXE (bit 13) is always asked for
abbrev pub cr4_asked : ℕ → ℕ
cr4_asked x = bit_or x 0x2000

-- ---- the fields of an event that an entry writes (document 01, "Events"; document 02, N7; SDM 3C, 25.8.3)

-- the interruption types of vectors 0 to 31; the others have type 0
abbrev pub types : List ℕ
types =
    3 ∷ 3 ∷ 2 ∷ 6 ∷ 6 ∷ 3 ∷ 3 ∷ 3 ∷ 3 ∷ 3 ∷ 3 ∷ 3 ∷ 3 ∷ 3 ∷ 3 ∷ 3
    ∷ 3 ∷ 3 ∷ 3 ∷ 3 ∷ 3 ∷ 3 ∷ 7 ∷ 7 ∷ 7 ∷ 7 ∷ 7 ∷ 7 ∷ 7 ∷ 7 ∷ 7 ∷ 7 ∷ []

-- 1 for the vectors that carry an error code: 8, 10 to 14, 17, 21
abbrev pub codes : List ℕ
codes = 0 ∷ 0 ∷ 0 ∷ 0 ∷ 0 ∷ 0 ∷ 0 ∷ 0 ∷ 1 ∷ 0 ∷ 1 ∷ 1 ∷ 1 ∷ 1 ∷ 1 ∷ 0 ∷ 0 ∷ 1 ∷ 0 ∷ 0 ∷ 0 ∷ 1 ∷ []

-- the entry interruption word of a vector: the vector, its type, whether a code goes in, and valid. None goes in while CR0.PE is clear
abbrev pub word_for : (v : ℕ) (pe : Bool) → ℕ
word_for v pe = v + 2 ^ 8 * get_or types v 0 + 2 ^ 11 * cond pe (get_or codes v 0) 0 + 2 ^ 31

abbrev pub code_goes_in : (v : ℕ) (pe : Bool) → Dec ((get_or codes v 0 ≡ 1) × (pe ≡ true))
code_goes_in v pe = both (ℕ_discrete (get_or codes v 0) 1) (Bool-discrete pe true)

-- its type is a soft one: 4, 5 or 6
abbrev pub is_soft : (v : ℕ) → Dec ((4 ≤ get_or types v 0) × (get_or types v 0 ≤ 6))
is_soft v = both (dec_le 4 (get_or types v 0)) (dec_le (get_or types v 0) 6)

-- the entry interruption field, the entry exception error code, and the entry instruction length
pub record EventFields : Type 0 where
  pub info : ℕ
  pub code : ℕ
  pub length : ℕ

-- those of an event, in place of old ones: the caller's code, else that of the last exit; soft types copy the instruction length of the last exit. A field that gets
-- neither is as it was
abbrev pub event_fields : Event → (pe : Bool) (error_code instruction_length : ℕ) → EventFields → EventFields
event_fields e pe error_code instruction_length old =
    record {
      info = word_for e.vector pe;
      code = choose (code_goes_in e.vector pe) (Option.get_or e.code error_code) old.code;
      length = choose (is_soft e.vector) instruction_length old.length;
    }

-- ---- the reference

-- what it keeps beside the queue and the counts
pub record Words : Type 0 where
  -- 0 fresh, 1 ready, 2 running, 3 waiting, 4 ended
  pub phase : ℕ
  -- an entry was accepted: the next one resumes
  pub launched : Bool
  -- host RSP: the host stack number of the entry that launched
  pub host_rsp : ℕ
  -- IF, which is RFLAGS bit 9
  pub interrupt_flag : Bool
  pub interruptibility : ℕ
  pub event : EventFields
  pub controls : Controls
  -- the error code and the instruction length of the last exit that was no failed entry
  pub error_code : ℕ
  pub instruction_length : ℕ
  -- CR0 and CR4, and their guest/host masks
  pub cr0 : ℕ
  pub cr0mask : ℕ
  pub cr4 : ℕ
  pub cr4mask : ℕ
  -- what the processor permits, as setup was told
  pub limits : Limits
  -- XCR0, and the bits of it that the host supports, as setup was told
  pub xcr0 : ℕ
  pub supported : ℕ

pub record Reference : Type 0 where
  pub tally : Tally Event
  pub pending : List Event
  pub words : Words

abbrev pub no_bounds : Bounds
no_bounds = record { must = 0; may = 0 }

abbrev pub start : Reference
start =
    record {
      tally = begun;
      pending = [];
      words = record {
        phase = 0;
        launched = false;
        host_rsp = 0;
        interrupt_flag = false;
        interruptibility = 0;
        event = record { info = 0; code = 0; length = 0 };
        controls = record { pin = 0; primary = 0; secondary = 0; exit = 0; entry = 0 };
        error_code = 0;
        instruction_length = 0;
        cr0 = 0;
        cr0mask = 0;
        cr4 = 0;
        cr4mask = 0;
        limits = record {
          pin = no_bounds;
          primary = no_bounds;
          secondary = no_bounds;
          exit = no_bounds;
          entry = no_bounds;
          cr0 = no_bounds;
          cr4 = no_bounds;
        };
        xcr0 = 0;
        supported = 0;
      };
    }

-- a front of this vector is held
abbrev pub IsHeld : ℕ → Bool → ℕ → Type 0
IsHeld vector flag interruptibility = (32 ≤ vector) × ((flag ≡ false) ⊎ (1 ≤ interruptibility))

abbrev pub is_held : (vector : ℕ) (flag : Bool) (interruptibility : ℕ) → Dec (IsHeld vector flag interruptibility)
is_held vector flag interruptibility = both (dec_le 32 vector) (either (Bool-discrete flag false) (dec_le 1 interruptibility))

-- what an entry answers
abbrev pub answer_on : List Event → Bool → ℕ → Injection
answer_on [] flag interruptibility = Empty
answer_on (e ∷ es) flag interruptibility = choose (is_held e.vector flag interruptibility) Held Written

-- what a call that is accepted does to the queue
abbrev pub move_on : Reference → Call → Move Event
move_on p c = move_by c (answer_on p.pending p.words.interrupt_flag p.words.interruptibility) p.pending

-- ---- what a report says

-- the basic reason of an exit, ECX, and whether that is an x2APIC register's MSR
abbrev pub basic_reason : Report → ℕ
basic_reason r = r.reason % 2 ^ 16

abbrev pub ecx_of : Report → ℕ
ecx_of r = r.regs.rcx % 2 ^ 32

abbrev pub NamesApic : Report → Type 0
NamesApic r = (0x800 ≤ ecx_of r) × (ecx_of r ≤ 0x8FF)

abbrev pub names_apic : (r : Report) → Dec (NamesApic r)
names_apic r = both (dec_le 0x800 (ecx_of r)) (dec_le (ecx_of r) 0x8FF)

-- EDX:EAX, the value that XSETBV (reason 55) is given
abbrev pub edx_eax : Report → ℕ
edx_eax r = r.regs.rdx % 2 ^ 32 * 2 ^ 32 + r.regs.rax % 2 ^ 32

-- RDMSR (reason 31) of an APIC register waits for its value
abbrev pub awaits_value : (r : Report) → Dec ((basic_reason r ≡ 31) × NamesApic r)
awaits_value r = both (ℕ_discrete (basic_reason r) 31) (names_apic r)

-- reason 28's qualification: bits 0 to 3 the control register, 4 to 5 the access (0 is a move to it), 8 to 11 the general register, of which 4 is RSP
abbrev pub MovToCr : ℕ → Report → Type 0
MovToCr n r = (r.qualification / 2 ^ 4 % 4 ≡ 0) × (r.qualification % 2 ^ 4 ≡ n)

abbrev pub mov_source : Report → ℕ
mov_source r = choose (ℕ_discrete (r.qualification / 2 ^ 8 % 2 ^ 4) 4) r.rsp (get_or (list_of r.regs) (r.qualification / 2 ^ 8 % 2 ^ 4) 0)

-- an exit by a move to the control register n
abbrev pub mov_to_cr : (n : ℕ) (r : Report) → Dec ((basic_reason r ≡ 28) × MovToCr n r)
mov_to_cr n r = both (ℕ_discrete (basic_reason r) 28) (both (ℕ_discrete (r.qualification / 2 ^ 4 % 4) 0) (ℕ_discrete (r.qualification % 2 ^ 4) n))

-- entry bit 9, IA-32e mode guest, is to be set: a move to CR0 of a value with PG, unless LME and LMA are both set
abbrev pub SetsIa32e : Report → Type 0
SetsIa32e r =
    ((basic_reason r ≡ 28) × MovToCr 0 r) × ((bit 31 (mov_source r) ≡ true) × ((bit 8 r.efer ≡ true) × (bit 10 r.efer ≡ true) → ⊥))

abbrev pub sets_ia32e : (r : Report) → Dec (SetsIa32e r)
sets_ia32e r =
    both (mov_to_cr 0 r)
    (both (Bool-discrete (bit 31 (mov_source r)) true) (is_not (both (Bool-discrete (bit 8 r.efer) true) (Bool-discrete (bit 10 r.efer) true))))

-- ---- the words that an accepted call leaves

abbrev pub in_phase : Words → ℕ → Words
in_phase w phase =
    record {
      phase = phase;
      launched = w.launched;
      host_rsp = w.host_rsp;
      interrupt_flag = w.interrupt_flag;
      interruptibility = w.interruptibility;
      event = w.event;
      controls = w.controls;
      error_code = w.error_code;
      instruction_length = w.instruction_length;
      cr0 = w.cr0;
      cr0mask = w.cr0mask;
      cr4 = w.cr4;
      cr4mask = w.cr4mask;
      limits = w.limits;
      xcr0 = w.xcr0;
      supported = w.supported;
    }

-- setup: IF is clear and nothing is blocked (RFLAGS is 2, interruptibility 0). CR0 is asked to be NW, CD and ET (0x60000010), CR4 0; XCR0 is 1, as at reset
abbrev pub at_setup : Words → List ℕ → Words
at_setup w block =
    record {
      phase = 1;
      launched = w.launched;
      host_rsp = w.host_rsp;
      interrupt_flag = false;
      interruptibility = 0;
      event = w.event;
      controls = controls_of block;
      error_code = w.error_code;
      instruction_length = w.instruction_length;
      cr0 = cr_value (cr0_bounds (limits_of block)) 0x60000010;
      cr0mask = cr_mask (cr0_bounds (limits_of block));
      cr4 = cr_value (limits_of block).cr4 (cr4_asked 0);
      cr4mask = cr_mask (limits_of block).cr4;
      limits = limits_of block;
      xcr0 = 1;
      supported = little_endian 8 (drop Layout.XCR0_SUPPORTED block);
    }

-- PE is bit 0 of CR0
abbrev pub event_by : Injection → List Event → Words → EventFields
event_by Empty pending w = w.event
event_by Held pending w = w.event
event_by Written [] w = w.event
event_by Written (e ∷ pending) w = event_fields e (bit 0 w.cr0) w.error_code w.instruction_length w.event

-- a held event sets interrupt-window exiting, primary bit 2
abbrev pub controls_by : Injection → Controls → Controls
controls_by Empty c = c
controls_by Held c = record { pin = c.pin; primary = bit_or c.primary 0x4; secondary = c.secondary; exit = c.exit; entry = c.entry }
controls_by Written c = c

-- an entry: the first one launches and stores its host stack number. The front goes into the fields where the entry answers Written, and sets interrupt-window
-- exiting where it is held
abbrev pub at_entry : Words → ℕ → Injection → List Event → Words
at_entry w stack answer pending =
    record {
      phase = 2;
      launched = true;
      host_rsp = cond w.launched w.host_rsp stack;
      interrupt_flag = w.interrupt_flag;
      interruptibility = w.interruptibility;
      event = event_by answer pending w;
      controls = controls_by answer w.controls;
      error_code = w.error_code;
      instruction_length = w.instruction_length;
      cr0 = w.cr0;
      cr0mask = w.cr0mask;
      cr4 = w.cr4;
      cr4mask = w.cr4mask;
      limits = w.limits;
      xcr0 = w.xcr0;
      supported = w.supported;
    }

-- an exit stores the report's values, and clears bit 31 of the entry interruption field. Reason 7 clears interrupt-window exiting. A move to CR0 or CR4 is
-- carried out, and one that turns paging on sets entry bit 9 where it is to be. XSETBV (reason 55) loads EDX:EAX into XCR0
abbrev pub at_exit : Words → Report → Words
at_exit w r =
    record {
      phase = choose (awaits_value r) 3 1;
      launched = w.launched;
      host_rsp = w.host_rsp;
      interrupt_flag = bit 9 r.rflags;
      interruptibility = r.interruptibility;
      event = record { info = bit_and w.event.info 0x7FFFFFFF; code = w.event.code; length = w.event.length };
      controls = record {
        pin = w.controls.pin;
        primary = choose (ℕ_discrete (basic_reason r) 7) (bit_and w.controls.primary 0xFFFFFFFB) w.controls.primary;
        secondary = w.controls.secondary;
        exit = w.controls.exit;
        entry = choose (sets_ia32e r) (control_value w.limits.entry w.controls.entry 0x200 0) w.controls.entry;
      };
      error_code = r.code;
      instruction_length = r.length;
      cr0 = choose (mov_to_cr 0 r) (cr_value (cr0_bounds w.limits) (mov_source r)) r.cr0;
      cr0mask = choose (mov_to_cr 0 r) (cr_mask (cr0_bounds w.limits)) w.cr0mask;
      cr4 = choose (mov_to_cr 4 r) (cr_value w.limits.cr4 (cr4_asked (mov_source r))) r.cr4;
      cr4mask = choose (mov_to_cr 4 r) (cr_mask w.limits.cr4) w.cr4mask;
      limits = w.limits;
      xcr0 = choose (ℕ_discrete (basic_reason r) 55) (edx_eax r) w.xcr0;
      supported = w.supported;
    }

-- a raw write of a field, by its encoding (SDM 3D, appendix B)
abbrev pub at_field_write : Words → ℕ → ℕ → Words
at_field_write w encoding value =
    record {
      phase = w.phase;
      launched = w.launched;
      host_rsp = choose (ℕ_discrete encoding 0x6C14) value w.host_rsp;
      interrupt_flag = choose (ℕ_discrete encoding 0x6820) (bit 9 value) w.interrupt_flag;
      interruptibility = choose (ℕ_discrete encoding 0x4824) value w.interruptibility;
      event = record {
        info = choose (ℕ_discrete encoding 0x4016) value w.event.info;
        code = choose (ℕ_discrete encoding 0x4018) value w.event.code;
        length = choose (ℕ_discrete encoding 0x401A) value w.event.length;
      };
      controls = record {
        pin = choose (ℕ_discrete encoding 0x4000) value w.controls.pin;
        primary = choose (ℕ_discrete encoding 0x4002) value w.controls.primary;
        secondary = choose (ℕ_discrete encoding 0x401E) value w.controls.secondary;
        exit = choose (ℕ_discrete encoding 0x400C) value w.controls.exit;
        entry = choose (ℕ_discrete encoding 0x4012) value w.controls.entry;
      };
      error_code = w.error_code;
      instruction_length = w.instruction_length;
      cr0 = choose (ℕ_discrete encoding 0x6800) value w.cr0;
      cr0mask = choose (ℕ_discrete encoding 0x6000) value w.cr0mask;
      cr4 = choose (ℕ_discrete encoding 0x6804) value w.cr4;
      cr4mask = choose (ℕ_discrete encoding 0x6002) value w.cr4mask;
      limits = w.limits;
      xcr0 = w.xcr0;
      supported = w.supported;
    }

abbrev pub words_by : Reference → Call → Words
words_by p (setup block a b msr) = at_setup p.words block
words_by p (queue_event vector coded code) = p.words
words_by p (inject_interrupt vector) = p.words
words_by p (entry stack) = at_entry p.words stack (answer_on p.pending p.words.interrupt_flag p.words.interruptibility) p.pending
-- a failed entry ends the session
words_by p (exit_report block) = cond (bit 31 (report_of block).reason) (in_phase p.words 4) (at_exit p.words (report_of block))
words_by p (apic_value value) = in_phase p.words 1
words_by p (field_write encoding value) = at_field_write p.words encoding value
words_by p (register_write index value) = p.words

-- ---- a list of calls

abbrev pub accept : Reference → Call → Reference
accept p c = record { tally = tallied p.tally (move_on p c); pending = moved p.pending (move_on p c); words = words_by p c }

-- a refused call changes nothing
abbrev pub reference_step : Reference → Call → Bool → Reference
reference_step p c refused = cond refused p (accept p c)

abbrev pub reference_answer : Reference → Call → Bool → Injection
reference_answer p c refused = cond refused Empty (answer_of (move_on p c))

-- a call, and whether it was refused: all that the reference is fed
pub record Fed : Type 0 where
  pub call : Call
  pub refused : Bool

abbrev pub reference_after : Reference → List Fed → Reference
reference_after p [] = p
reference_after p (l ∷ ls) = reference_after (reference_step p l.call l.refused) ls

abbrev pub reference_answers : Reference → List Fed → List Injection
reference_answers p [] = []
reference_answers p (l ∷ ls) = reference_answer p l.call l.refused ∷ reference_answers (reference_step p l.call l.refused) ls

-- ---- refusals: the numbers in the order they are tested, each with where it applies

-- 2 is its negation: setup's buffers have their lengths, and the block's yes/no bytes are 0 or 1
pub record Buffers (block a b msr : List ℕ) : Type 0 where
  pub long : length block ≡ Layout.LENGTH
  pub rdtscp : little_endian 1 (drop Layout.RDTSCP block) ≤ 1
  pub invpcid : little_endian 1 (drop Layout.INVPCID block) ≤ 1
  pub xsaves : little_endian 1 (drop Layout.XSAVES block) ≤ 1
  pub io_a : length a ≡ 4096
  pub io_b : length b ≡ 4096
  pub msrs : length msr ≡ 4096

-- 6 is its negation: what must be 1 may be 1, in each pair and in CR0 and CR4
pub record Consistent (l : Limits) : Type 0 where
  pub pin : Within l.pin.must l.pin.may
  pub primary : Within l.primary.must l.primary.may
  pub secondary : Within l.secondary.must l.secondary.may
  pub exit : Within l.exit.must l.exit.may
  pub entry : Within l.entry.must l.entry.may
  pub cr0 : Within l.cr0.must l.cr0.may
  pub cr4 : Within l.cr4.must l.cr4.may

-- 8: a set bit is not in allowed-1. 9: a cleared bit is in allowed-0
abbrev pub word_rules : Bounds → ℕ → ℕ → List Rule
word_rules b set clear = by 8 (Within set b.may → ⊥) ∷ by 9 (Apart b.must clear → ⊥) ∷ []

abbrev pub setup_rules : Limits → Features → List Rule
setup_rules l f =
    by 6 (Consistent l → ⊥)
    ∷ word_rules l.pin pin_set 0
    ++ word_rules l.primary primary_set primary_clear
    ++ word_rules l.secondary (secondary_set f) 0
    ++ word_rules l.exit exit_set 0
    ++ word_rules l.entry entry_set 0

-- ---- the numbers of a report

-- two words have the same bits under a mask
abbrev pub Agree : ℕ → ℕ → ℕ → Type 0
Agree mask a b = (i : ℕ) → T (bit i mask) → bit i a ≡ bit i b

-- by how much RIP advances
abbrev pub advance : Report → ℕ
advance r =
    choose (ℕ_discrete (basic_reason r) 10) 2
    (choose (ℕ_discrete (basic_reason r) 28) 3
    (choose (either (ℕ_discrete (basic_reason r) 18) (ℕ_discrete (basic_reason r) 30)) (r.length % 2 ^ 8)
    (choose (both (either (ℕ_discrete (basic_reason r) 31) (ℕ_discrete (basic_reason r) 32)) (names_apic r)) 2
    (choose (ℕ_discrete (basic_reason r) 55) 3 0))))

-- 14: above 64, or 35, 38 or 42, or a failed entry with another reason than 33, 34 and 41
abbrev pub UnknownReason : Report → Type 0
UnknownReason r =
    (64 < basic_reason r) ⊎ (basic_reason r ≡ 35) ⊎ (basic_reason r ≡ 38) ⊎ (basic_reason r ≡ 42)
    ⊎ ((bit 31 r.reason ≡ true) × (basic_reason r ≢ 33) × (basic_reason r ≢ 34) × (basic_reason r ≢ 41))

-- 19 is its negation: a value that XCR0 may have, within the bits that the host supports (document 02, N1; SDM 1, 13.3; 2D, XSETBV)
pub record Xcr0Allowed (supported value : ℕ) : Type 0 where
  -- X87 (bit 0) is set
  pub x87 : bit 0 value ≡ true
  -- AVX (2) comes with SSE (1)
  pub avx : bit 2 value ≡ true → bit 1 value ≡ true
  -- BNDREG (3) and BNDCSR (4) are equal
  pub mpx : bit 3 value ≡ bit 4 value
  -- OPMASK (5), ZMM_HI256 (6) and HI16_ZMM (7) are all equal, and come with AVX
  pub avx512 : (bit 5 value ≡ bit 6 value) × (bit 6 value ≡ bit 7 value)
  pub avx512_avx : bit 5 value ≡ true → bit 2 value ≡ true
  -- TILECFG (17) and TILEDATA (18) are equal
  pub amx : bit 17 value ≡ bit 18 value
  -- no bit is set outside the supported ones
  pub within : Within value supported

-- those of an exit that is not a failed entry. 19: ECX is 0, by the rule before. 8: allowed-1 of the entry controls lacks bit 9, IA-32e mode guest
abbrev pub exit_rules : Words → Report → List Rule
exit_rules w r =
    by 15 (Agree w.cr0mask r.cr0 w.cr0 × Agree w.cr4mask r.cr4 w.cr4 → ⊥)
    ∷ by 16 ((basic_reason r ≡ 1) × ((bit 31 r.interruption ≡ false) ⊎ (r.interruption / 2 ^ 8 % 8 ≡ 1)))
    ∷ by 18 ((basic_reason r ≡ 28) × (MovToCr 0 r ⊎ MovToCr 4 r → ⊥))
    ∷ by 20 ((basic_reason r ≡ 55) × (ecx_of r ≢ 0))
    ∷ by 19 ((basic_reason r ≡ 55) × (Xcr0Allowed w.supported (edx_eax r) → ⊥))
    ∷ by 21 (basic_reason r ≡ 44)
    ∷ by 17 (2 ^ 64 ≤ r.rip + advance r)
    ∷ by 8 (SetsIa32e r × (bit 9 w.limits.entry.may ≡ false))
    ∷ []

-- a failed entry has the first two alone
abbrev pub report_rules : Words → Report → List Rule
report_rules w r = by 1 (w.phase ≢ 2) ∷ by 14 (UnknownReason r) ∷ cond (bit 31 r.reason) [] (exit_rules w r)

-- ---- the numbers of each call

abbrev pub own_rules : Reference → Call → List Rule
own_rules p (setup block a b msr) =
    by 2 (Buffers block a b msr → ⊥) ∷ by 1 (p.words.phase ≢ 0) ∷ setup_rules (limits_of block) (features_of block)
own_rules p (queue_event vector coded code) = by 2 (2 ≤ coded) ∷ by 1 (p.words.phase ≡ 4) ∷ by 13 (64 ≤ length p.pending) ∷ []
own_rules p (inject_interrupt vector) =
    by 1 (p.words.phase ≡ 4) ∷ by 12 ((vector ≡ 0) ⊎ (256 ≤ vector)) ∷ by 13 (64 ≤ length p.pending) ∷ []
own_rules p (entry stack) = by 1 (p.words.phase ≢ 1) ∷ by 22 (p.tally.entries ≡ 0xFFFFFFFF) ∷ []
own_rules p (exit_report block) = by 2 (length block ≢ ReportLayout.LENGTH) ∷ report_rules p.words (report_of block)
own_rules p (apic_value value) = by 1 (p.words.phase ≢ 3) ∷ []
-- the encoding's bits 10 to 11 are its kind (1 is read-only), bits 13 to 14 its width (0 is 16 bits, 2 is 32, the others 64)
own_rules p (field_write encoding value) =
    by 3 (Memᴰ encoding encodings → ⊥) ∷ by 4 (encoding / 2 ^ 10 % 4 ≡ 1)
    ∷ by 5 (((encoding / 2 ^ 13 % 4 ≡ 0) × (2 ^ 16 ≤ value)) ⊎ ((encoding / 2 ^ 13 % 4 ≡ 2) × (2 ^ 32 ≤ value))) ∷ []
own_rules p (register_write index value) = by 23 ((index ≡ 4) ⊎ (16 ≤ index)) ∷ []

-- the bytes that the calls led to are no record that this call takes: never
abbrev pub Untaken : Reference → Call → Type 0
Untaken p c = ⊥

-- 2 for the record comes first, whatever the call
abbrev pub rules : Reference → Call → List Rule
rules p c = by 2 (Untaken p c) ∷ own_rules p c
