-- A list of calls on one session's byte record, each as the exported function's contract gives it, and what is counted and listed of them: what demand 3
-- compares with the reference. Assumes nothing.
use Rattle.std.specs.Prelude.{ℕ, ◌/◌, ◌≡◌, Bool, true, false, cond, not, ◌||◌, List, [], ◌∷◌, eqb, take, replicate}
use Rattle.std.proofs.Math.Option.{none, some}
use Rattle.bits.specs.Words.{bit}
use Rattle.vmcs.specs.Field.{value_of}
use Rattle.vmcs.specs.Control.{pair_at}
use Rattle.vmcs.specs.Names.VmcsControl32 as VmcsControl32
use Rattle.vmcs.specs.Names.VmcsControlNW as VmcsControlNW
use Rattle.vmcs.specs.Names.VmcsGuest32 as VmcsGuest32
use Rattle.vmcs.specs.Names.VmcsGuestNW as VmcsGuestNW
use Rattle.vmcs.specs.Names.VmcsHostNW as VmcsHostNW
use Rattle.vmcs.specs.Names.VmcsReadOnly32 as VmcsReadOnly32
use Rattle.vmcs.specs.declared.controls.Pair.{Pair}
use Rattle.vcpu_session.specs.declared.Capabilities.{Capabilities}
use Rattle.vcpu_session.specs.declared.Fixed.{Fixed}
use Rattle.vcpu_session.specs.declared.Session.{Session}
use Rattle.vcpu_events.specs.Queue as Queue
use Rattle.vcpu_events.specs.declared.Injection.{Injection}
use Rattle.vcpu_events.specs.declared.Injection.TheVariants.{Empty, Held, Written}
use Rattle.vcpu_events.specs.Access as Access
use Rattle.record.specs.Codec.{session_of, Encoded}
use Rattle.record.specs.Record as Record
use Rattle.call_specs.specs.Records.{call_of, queue_step, EntryCall, entry_call, FramesCall}
use Rattle.call_specs.specs.SetupCall.{setup_call}
use Rattle.call_specs.specs.ReportCall.{ReportCall, report_call}
use Rattle.calls.specs.Moves.{Move, rests, Tally, begun, tallied_all}
use Rattle.calls.specs.Reference.{Call, setup, queue_event, inject_interrupt, entry, exit_report, apic_value, field_write, register_write, Event, move_by, Bounds, Limits, Words, Fed}

-- ---- one call

-- its refusal or 0, what an entry does with the front and whether it resumes (Empty and no for every other call and for a refused entry), and the state that it
-- leaves
pub record Outcome (S : Type 0) : Type 0 where
  pub refusal : ℕ
  pub answer : Injection
  pub resumed : Bool
  pub state : S

abbrev pub plain : Encoded → Outcome (List ℕ)
plain r = record { refusal = r.refusal; answer = Empty; resumed = false; state = r.bytes }

abbrev pub framed : FramesCall → Outcome (List ℕ)
framed r = record { refusal = r.refusal; answer = Empty; resumed = false; state = r.bytes }

abbrev pub reported : ReportCall → Outcome (List ℕ)
reported r = record { refusal = r.refusal; answer = Empty; resumed = false; state = r.bytes }

-- what an entry did with the front, by the number that it stores: 0, 1 and 2
abbrev pub numbered : ℕ → Injection
numbered n = cond (eqb n 0) Empty (cond (eqb n 1) Held Written)

abbrev pub answer_number : Injection → ℕ
answer_number Empty = 0
answer_number Held = 1
answer_number Written = 2

abbrev pub entered : EntryCall → Outcome (List ℕ)
entered r = record { refusal = r.refusal; answer = numbered r.injection; resumed = eqb r.resumed 1; state = r.bytes }

-- the call on a record. The results of an entry and the answer of a report hold 0 before it here: an accepted call does not depend on them, a refused one leaves
-- them (Contracts.antt), so that a refused entry counts as Empty and not resumed
abbrev pub step_of : List ℕ → Call → Outcome (List ℕ)
step_of bytes (setup block a b msr) = framed (setup_call bytes block a b msr)
step_of bytes (queue_event vector coded code) = plain (call_of (queue_step vector coded code) bytes)
step_of bytes (inject_interrupt vector) = plain (call_of (λ s. Queue.inject_interrupt s vector) bytes)
step_of bytes (entry stack) = entered (entry_call stack bytes 0 0)
step_of bytes (exit_report block) = reported (report_call bytes block (replicate 8 0))
step_of bytes (apic_value value) = plain (call_of (λ s. Access.apic_value s value) bytes)
step_of bytes (field_write encoding value) = plain (call_of (λ s. Access.write_field s encoding value) bytes)
step_of bytes (register_write index value) = plain (call_of (λ s. Access.set_register s index value) bytes)

-- ---- the session as the reference has it

abbrev pub event_of : ℕ → Bool → ℕ → Event
event_of vector coded code = record { vector = vector; code = cond coded (some code) none }

-- bit 0 of the word says whether the first event has a code, the bits above it speak of the others
abbrev pub events_of : List ℕ → ℕ → List ℕ → List Event
events_of [] coded cs = []
events_of (v ∷ vs) coded [] = []
events_of (v ∷ vs) coded (c ∷ cs) = event_of v (bit 0 coded) c ∷ events_of vs (coded / 2) cs

-- the events that wait, front first
abbrev pub waiting_of : Session → List Event
waiting_of s = take s.queue.waiting (events_of s.queue.vectors s.queue.coded s.queue.codes)

abbrev pub pair_bounds : Pair → Bounds
pair_bounds p = record { must = p.allowed0; may = p.allowed1 }

abbrev pub fixed_bounds : Fixed → Bounds
fixed_bounds f = record { must = f.fixed0; may = f.fixed1 }

-- what the session says that the processor permits
abbrev pub limits_in : Capabilities → Limits
limits_in c =
    record {
      pin = pair_bounds (pair_at c.pairs 0);
      primary = pair_bounds (pair_at c.pairs 1);
      secondary = pair_bounds (pair_at c.pairs 2);
      exit = pair_bounds (pair_at c.pairs 3);
      entry = pair_bounds (pair_at c.pairs 4);
      cr0 = fixed_bounds c.cr0;
      cr4 = fixed_bounds c.cr4;
    }

-- the words of a session: the reference names the same fields by their encodings, and vmcs/proofs/TableTest.antt ties these to the names
abbrev pub words_of : Session → Words
words_of s =
    record {
      phase = s.progress.phase;
      launched = s.progress.launched;
      host_rsp = value_of s.vmcs VmcsHostNW.RSP;
      interrupt_flag = bit 9 (value_of s.vmcs VmcsGuestNW.RFLAGS);
      interruptibility = value_of s.vmcs VmcsGuest32.INTERRUPTIBILITY_STATE;
      event = record {
        info = value_of s.vmcs VmcsControl32.VMENTRY_INTERRUPTION_INFO_FIELD;
        code = value_of s.vmcs VmcsControl32.VMENTRY_EXCEPTION_ERR_CODE;
        length = value_of s.vmcs VmcsControl32.VMENTRY_INSTRUCTION_LEN;
      };
      controls = record {
        pin = value_of s.vmcs VmcsControl32.PINBASED_EXEC_CONTROLS;
        primary = value_of s.vmcs VmcsControl32.PRIMARY_PROCBASED_EXEC_CONTROLS;
        secondary = value_of s.vmcs VmcsControl32.SECONDARY_PROCBASED_EXEC_CONTROLS;
        exit = value_of s.vmcs VmcsControl32.VMEXIT_CONTROLS;
        entry = value_of s.vmcs VmcsControl32.VMENTRY_CONTROLS;
      };
      error_code = value_of s.vmcs VmcsReadOnly32.VMEXIT_INTERRUPTION_ERR_CODE;
      instruction_length = value_of s.vmcs VmcsReadOnly32.VMEXIT_INSTRUCTION_LEN;
      cr0 = value_of s.vmcs VmcsGuestNW.CR0;
      cr0mask = value_of s.vmcs VmcsControlNW.CR0_GUEST_HOST_MASK;
      cr4 = value_of s.vmcs VmcsGuestNW.CR4;
      cr4mask = value_of s.vmcs VmcsControlNW.CR4_GUEST_HOST_MASK;
      limits = limits_in s.capabilities;
      xcr0 = s.xcr0.value;
      supported = s.xcr0.supported;
    }

-- ---- a list of calls

-- a call, what it came to, and the events that waited before it
pub record Logged : Type 0 where
  pub call : Call
  pub refusal : ℕ
  pub answer : Injection
  pub waiting : List Event

module _ {S : Type 0} (step : S → Call → Outcome S) (waiting : S → List Event) where
  -- the state after the calls
  abbrev pub after_all : S → List Call → S
  after_all s [] = s
  after_all s (c ∷ cs) = after_all (step s c).state cs

  abbrev pub logged : S → Call → Logged
  logged s c = record { call = c; refusal = (step s c).refusal; answer = (step s c).answer; waiting = waiting s }

  abbrev pub log_of : S → List Call → List Logged
  log_of s [] = []
  log_of s (c ∷ cs) = logged s c ∷ log_of (step s c).state cs

-- the record of a new session
abbrev pub new_record : List ℕ
new_record = replicate Record.LENGTH 0

abbrev pub after : List ℕ → List Call → List ℕ
after = after_all step_of (λ b. waiting_of (session_of b))

abbrev pub logged_of : List ℕ → Call → Logged
logged_of = logged step_of (λ b. waiting_of (session_of b))

abbrev pub history_of : List ℕ → List Call → List Logged
history_of = log_of step_of (λ b. waiting_of (session_of b))

-- ---- what is read off a list

abbrev pub is_refused : ℕ → Bool
is_refused n = not (eqb n 0)

-- a next call on a record is accepted, or refused
abbrev pub Accepts : List ℕ → Call → Type 0
Accepts b c = is_refused (step_of b c).refusal ≡ false

abbrev pub Declines : List ℕ → Call → Type 0
Declines b c = is_refused (step_of b c).refusal ≡ true

-- the session that an entry on a record leaves
abbrev pub entered_of : List ℕ → ℕ → Session
entered_of b stack = session_of (step_of b (entry stack)).state

abbrev pub fed : List Logged → List Fed
fed [] = []
fed (l ∷ ls) = record { call = l.call; refused = is_refused l.refusal } ∷ fed ls

-- what each call answers about the front
abbrev pub answers_of : List Logged → List Injection
answers_of [] = []
answers_of (l ∷ ls) = l.answer ∷ answers_of ls

-- what each call does to the queue: nothing, if it is refused
abbrev pub move_of : Logged → Move Event
move_of l = cond (is_refused l.refusal) rests (move_by l.call l.answer l.waiting)

abbrev pub moves_of : List Logged → List (Move Event)
moves_of [] = []
moves_of (l ∷ ls) = move_of l ∷ moves_of ls

-- the events queued and injected, the entries and those that held the front
abbrev pub tally_of : List Logged → Tally Event
tally_of ls = tallied_all begun (moves_of ls)

-- the call is a raw write of the field with this encoding
abbrev pub writes_field : ℕ → Call → Bool
writes_field x (setup block a b msr) = false
writes_field x (queue_event vector coded code) = false
writes_field x (inject_interrupt vector) = false
writes_field x (entry stack) = false
writes_field x (exit_report block) = false
writes_field x (apic_value value) = false
writes_field x (field_write encoding value) = eqb encoding x
writes_field x (register_write index value) = false

-- such a write was accepted
abbrev pub written : ℕ → List Fed → Bool
written x [] = false
written x (l ∷ ls) = cond l.refused false (writes_field x l.call) || written x ls
