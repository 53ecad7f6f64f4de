-- Injecting an event and entering the guest (document 01, "Events" and "Session"; document 02, N7; SDM 3C, 25.8.3). Assumes nothing.
use Rattle.std.specs.Prelude.{ℕ, ◌+◌, ◌/◌, ◌%◌, ◌^◌, Bool, true, false, cond, Result, Ok, Err, not, ◌&&◌, ◌||◌, eqb, leb}
use Rattle.std.specs.Int.Bits.{bit_and, bit_or}
use Rattle.bits.specs.Words.{bit, bit_not}
use Rattle.definitions.specs.Refusals.{number}
use Rattle.definitions.specs.declared.refusal.Refusal.{Refusal}
use Rattle.definitions.specs.Interruption.{has_error_code, from_vector, is_soft, event_word}
use Rattle.vmcs.specs.Field.{value_of, put}
use Rattle.vmcs.specs.Flags.Cr0Flags as Cr0Flags
use Rattle.vmcs.specs.Flags.PrimaryControls as PrimaryControls
use Rattle.vmcs.specs.Flags.RFlags as RFlags
use Rattle.vmcs.specs.Names.VmcsControl32 as VmcsControl32
use Rattle.vmcs.specs.Names.VmcsGuest32 as VmcsGuest32
use Rattle.vmcs.specs.Names.VmcsGuestNW as VmcsGuestNW
use Rattle.vmcs.specs.Names.VmcsHostNW as VmcsHostNW
use Rattle.vmcs.specs.Names.VmcsReadOnly32 as VmcsReadOnly32
use Rattle.vmcs.specs.declared.Vmcs.{Vmcs}
use Rattle.vcpu_session.specs.Phase as Phase
use Rattle.vcpu_session.specs.Session.{LAST_ENTRY, is_unlawful, with_progress, with_vmcs, with_queue}
use Rattle.vcpu_session.specs.declared.Progress.{Progress}
use Rattle.vcpu_session.specs.declared.Queue.{Queue}
use Rattle.vcpu_session.specs.declared.Session.{Session}
use Rattle.vcpu_events.specs.Queue.{Event, front_of, popped}
use Rattle.vcpu_events.specs.declared.Injection.{Injection}
use Rattle.vcpu_events.specs.declared.Injection.TheVariants.{Empty, Held, Written}
use Rattle.vcpu_events.specs.declared.EntryAnswer.{EntryAnswer}

-- ---- what an entry does with the front of the queue

-- the vector is 32 or more, and IF is clear or interruptibility is not 0
unfoldable pub is_held : ℕ → ℕ → ℕ → Bool
is_held vector rflags interruptibility = leb 32 vector && (eqb (rflags / 2 ^ RFlags.INTERRUPT_FLAG % 2) 0 || not (eqb interruptibility 0))

unfoldable pub injection_of : Queue → Vmcs → Injection
injection_of q v =
    cond (eqb q.waiting 0) Empty
    (cond (is_held (front_of q).vector (value_of v VmcsGuestNW.RFLAGS) (value_of v VmcsGuest32.INTERRUPTIBILITY_STATE)) Held Written)

-- a code goes in: the vector carries one, and PE of CR0 is set (document 02, N7; SDM 3C, 27.2.1.3)
unfoldable pub code_in : ℕ → ℕ → Bool
code_in vector cr0 = has_error_code vector && bit Cr0Flags.PROTECTED_MODE_ENABLE cr0

abbrev pub code_goes_in : Vmcs → Event → Bool
code_goes_in v e = code_in e.vector (value_of v VmcsGuestNW.CR0)

-- the word that an entry writes for an event
abbrev pub word_of : Vmcs → Event → ℕ
word_of v e = event_word e.vector (code_goes_in v e)

-- ---- the fields with an event to inject

-- the caller's code, else the exit's
unfoldable pub code_of : Vmcs → Event → ℕ
code_of v e = cond e.coded e.code (value_of v VmcsReadOnly32.VMEXIT_INTERRUPTION_ERR_CODE)

-- where none goes in, the field is kept
unfoldable pub with_code : Vmcs → Event → Vmcs
with_code v e = cond (code_goes_in v e) (put v VmcsControl32.VMENTRY_EXCEPTION_ERR_CODE (code_of v e)) v

-- soft types copy the exit instruction length
unfoldable pub with_length : Vmcs → Event → Vmcs
with_length v e =
    cond (is_soft (from_vector e.vector)) (put v VmcsControl32.VMENTRY_INSTRUCTION_LEN (value_of v VmcsReadOnly32.VMEXIT_INSTRUCTION_LEN)) v

unfoldable pub injected : Vmcs → Event → Vmcs
injected v e = put (with_length (with_code v e) e) VmcsControl32.VMENTRY_INTERRUPTION_INFO_FIELD (word_of v e)

-- ---- the parts of a session after an entry

-- the host's stack goes in at the first entry only
unfoldable pub with_stack : Vmcs → Bool → ℕ → Vmcs
with_stack v launched stack = cond launched v (put v VmcsHostNW.RSP stack)

-- interrupt-window exiting, primary bit 2, on or off (SDM 3C, 25.6.2)
abbrev pub window_word : Vmcs → Bool → ℕ
window_word v enable =
    cond enable
    (bit_or (value_of v VmcsControl32.PRIMARY_PROCBASED_EXEC_CONTROLS) (2 ^ PrimaryControls.INTERRUPT_WINDOW_EXITING))
    (bit_and (value_of v VmcsControl32.PRIMARY_PROCBASED_EXEC_CONTROLS) (bit_not 32 (2 ^ PrimaryControls.INTERRUPT_WINDOW_EXITING)))

unfoldable pub window_set : Vmcs → Bool → Vmcs
window_set v enable = put v VmcsControl32.PRIMARY_PROCBASED_EXEC_CONTROLS (window_word v enable)

unfoldable pub vmcs_after : Vmcs → Event → Injection → Vmcs
vmcs_after v e Empty = v
vmcs_after v e Held = window_set v true
vmcs_after v e Written = injected v e

-- the front leaves the queue only where it is written
unfoldable pub queue_after : Queue → Injection → Queue
queue_after q Empty = q
queue_after q Held = q
queue_after q Written = popped q

abbrev counted : Progress → ℕ → Progress
counted p held = record { phase = Phase.RUNNING; launched = true; entries = p.entries + 1; held = held }

-- running, launched, one entry more, and one held entry more where the event is held
unfoldable pub progress_after : Progress → Injection → Progress
progress_after p Empty = counted p p.held
progress_after p Held = counted p (p.held + 1)
progress_after p Written = counted p p.held

-- an entry changes the fields, the queue and where the session stands; every other part stays
unfoldable pub after_entry : Session → ℕ → Injection → Session
after_entry s stack injection =
    let fields = vmcs_after (with_stack s.vmcs s.progress.launched stack) (front_of s.queue) injection in
    with_progress (with_queue (with_vmcs s fields) (queue_after s.queue injection)) (progress_after s.progress injection)

-- ---- entry

-- what an entry answers: where it is refused, only the number counts
pub record Entered : Type 0 where
  pub refusal : ℕ
  pub resumed : Bool
  pub injection : Injection
  pub session : Session

abbrev pub refused_entry : ℕ → Session → Entered
refused_entry n s = record { refusal = n; resumed = false; injection = Empty; session = s }

-- 2: no record holds the session. 1: not ready. 22: the entry count is `LAST_ENTRY`
unfoldable pub entry : Session → ℕ → Entered
entry s stack =
    cond (is_unlawful s) (refused_entry 2 s)
    (cond (not (eqb s.progress.phase Phase.READY)) (refused_entry 1 s)
    (cond (eqb s.progress.entries LAST_ENTRY) (refused_entry 22 s)
    (record {
      refusal = 0;
      resumed = s.progress.launched;
      injection = injection_of s.queue s.vmcs;
      session = after_entry s stack (injection_of s.queue s.vmcs);
    })))

-- an entry's answer in the code, beside the session that it leaves
abbrev pub entered_as : Result EntryAnswer Refusal → Session → Entered
entered_as (Ok a) s = record { refusal = 0; resumed = a.resumed; injection = a.injection; session = s }
entered_as (Err e) s = refused_entry (number e) s

-- the same by value, where a refused entry leaves the session that came in
abbrev pub entered_from : Session → Result (EntryAnswer × Session) Refusal → Entered
entered_from s (Ok (a, next)) = entered_as (Ok a) next
entered_from s (Err e) = refused_entry (number e) s

-- the number of what an entry did with the front of the queue: 0 the queue is empty, 1 held, 2 written
abbrev pub injection_number : Injection → ℕ
injection_number Empty = 0
injection_number Held = 1
injection_number Written = 2
