-- Demand 3, the whole list (document 01): what is claimed of every list of well-typed calls on one session's record from that of a new one. The other exported functions leave the
-- record: they only read it, or take none. Assumes nothing.
use Rattle.std.specs.Prelude.{ℕ, ◌+◌, ◌≤◌, ◌≡◌, Bool, true, false, ◌⊎◌, T, length, drop}
use mathlib.Core.List.{List, [], ◌∷◌, ◌++◌, Memᴰ}
use Rattle.bits.specs.Refuses.{Refuses}
use Rattle.bits.specs.Words.{bit, Permitted, PermittedBut}
use Rattle.vmcs.specs.Field.{value_of}
use Rattle.vmcs.specs.Names.VmcsControl32 as VmcsControl32
use Rattle.vmcs.specs.Names.VmcsGuestNW as VmcsGuestNW
use Rattle.vmcs.specs.Names.VmcsHostNW as VmcsHostNW
use Rattle.vmcs.specs.declared.Vmcs.{Vmcs}
use Rattle.vcpu_session.specs.declared.Session.{Session}
use Rattle.vcpu_events.specs.declared.Injection.{Injection}
use Rattle.vcpu_events.specs.declared.Injection.TheVariants.{Empty, Held, Written}
use Rattle.record.specs.Codec.{session_of, accepted_of}
use Rattle.calls.specs.Moves.{queues, writes}
use Rattle.calls.specs.Reference.{Call, setup, entry, Event, WellTyped, AllWellTyped, Limits, limits_of, Reference, start, IsHeld, Xcr0Allowed, Fed, reference_after, reference_answers, rules, Words, event_fields}
use Rattle.calls.specs.Calls.{step_of, new_record, after, logged_of, history_of, Accepts, Declines, entered_of, fed, move_of, tally_of, written, Logged, answers_of, waiting_of, words_of}

-- ---- an entry, by the reference before it

-- a front of this vector is held: it is 32 or more, and IF is clear or interruptibility is not 0
abbrev pub HeldBack : Reference → ℕ → Type 0
HeldBack p vector = IsHeld vector p.words.interrupt_flag p.words.interruptibility

-- what an accepted entry answers: the hold rule by itself
pub record Answers (p : Reference) (a : Injection) : Type 0 where
  pub none : p.pending ≡ [] → a ≡ Empty
  pub held : (front : Event) (rest : List Event) → p.pending ≡ front ∷ rest → HeldBack p front.vector → a ≡ Held
  pub written : (front : Event) (rest : List Event) → p.pending ≡ front ∷ rest → (HeldBack p front.vector → ⊥) → a ≡ Written

-- the session t that an entry returns has the front's word, and its code and length, if any, in their fields; CR0.PE, bit 0, is that before the entry
pub record Wrote (p : Reference) (t : Session) : Type 0 where
  pub front : Event
  pub rest : List Event
  pub pending : p.pending ≡ front ∷ rest
  pub fields : (words_of t).event ≡ event_fields front (bit 0 p.words.cr0) p.words.error_code p.words.instruction_length p.words.event

-- an entry of s, after so many accepted ones, answers whether it resumes and returns t: the first launches, and stores its host stack number; each later one resumes,
-- and leaves host RSP
pub record Launches (before stack : ℕ) (s t : Session) (resumed : Bool) : Type 0 where
  pub launch : before ≡ 0 → (resumed ≡ false) × (value_of t.vmcs VmcsHostNW.RSP ≡ stack)
  pub resume : 1 ≤ before → (resumed ≡ true) × (value_of t.vmcs VmcsHostNW.RSP ≡ value_of s.vmcs VmcsHostNW.RSP)

abbrev pub is_written : Injection → Bool
is_written Empty = false
is_written Held = false
is_written Written = true

-- ---- the law on waiting

-- e, queued behind k events (k is `length ahead`), in the record b that the queueing left, whatever well-typed calls follow
pub record WaitLaw (b : List ℕ) (ahead : List Event) (e : Event) : Type 0 where
  -- no more of the entries since then held the front than there are: less these, they make some n
  pub counted : (later : List Call) → AllWellTyped later → (tally_of (history_of b later)).held ≤ (tally_of (history_of b later)).entries
  -- while n is at most k, it is pending: behind those ahead that are not injected, before those queued since
  pub waits : (later : List Call) → AllWellTyped later → (n : ℕ) → (tally_of (history_of b later)).entries ≡ (tally_of (history_of b later)).held + n → n ≤ length ahead
      → waiting_of (session_of (after b later)) ≡ drop n ahead ++ (e ∷ (tally_of (history_of b later)).queued)
  -- it is injected at the first call by which they make k + 1
  pub injects : (later : List Call) → AllWellTyped later → (c : Call) → WellTyped c → (n : ℕ)
      → (tally_of (history_of b later)).entries ≡ (tally_of (history_of b later)).held + n
      → n ≤ length ahead
      → (tally_of (history_of b (later ++ (c ∷ [])))).entries ≡ (tally_of (history_of b (later ++ (c ∷ [])))).held + (length ahead + 1)
      → move_of (logged_of (after b later) c) ≡ writes e

-- ---- what is permitted

-- the five words, CR0 and CR4: every bit but primary bit 2 without a condition, that bit where only allowed-1 has it; PE (bit 0) and PG (bit 31) of CR0 may be clear
pub record Permits (l : Limits) (v : Vmcs) : Type 0 where
  pub pin : Permitted l.pin.must l.pin.may (value_of v VmcsControl32.PINBASED_EXEC_CONTROLS)
  pub primary_must : (i : ℕ) → (i ≡ 2 → ⊥) → T (bit i l.primary.must) → T (bit i (value_of v VmcsControl32.PRIMARY_PROCBASED_EXEC_CONTROLS))
  pub primary_may : (i : ℕ) → (i ≡ 2 → ⊥) → T (bit i (value_of v VmcsControl32.PRIMARY_PROCBASED_EXEC_CONTROLS)) → T (bit i l.primary.may)
  pub window : T (bit 2 l.primary.may) → (T (bit 2 l.primary.must) → ⊥)
      → Permitted l.primary.must l.primary.may (value_of v VmcsControl32.PRIMARY_PROCBASED_EXEC_CONTROLS)
  pub secondary : Permitted l.secondary.must l.secondary.may (value_of v VmcsControl32.SECONDARY_PROCBASED_EXEC_CONTROLS)
  pub exit : Permitted l.exit.must l.exit.may (value_of v VmcsControl32.VMEXIT_CONTROLS)
  pub entry : Permitted l.entry.must l.entry.may (value_of v VmcsControl32.VMENTRY_CONTROLS)
  pub cr0 : PermittedBut 0x80000001 l.cr0.must l.cr0.may (value_of v VmcsGuestNW.CR0)
  pub cr4 : Permitted l.cr4.must l.cr4.may (value_of v VmcsGuestNW.CR4)

-- no raw write of one of these fields was accepted
abbrev pub Unwritten : List ℕ → List Fed → Type 0
Unwritten [] ls = Unit {0}
Unwritten (x ∷ xs) ls = (written x ls ≡ false) × Unwritten xs ls

-- the fields that are judged, and the masks of CR0 and CR4: pin, primary, secondary, exit, entry, CR0, CR4 and the masks
abbrev pub judged_fields : List ℕ
judged_fields = 0x4000 ∷ 0x4002 ∷ 0x401E ∷ 0x400C ∷ 0x4012 ∷ 0x6800 ∷ 0x6804 ∷ 0x6000 ∷ 0x6002 ∷ []

-- ---- XCR0

-- it is 1, or a value that passes the rule
abbrev pub Loadable : Words → Type 0
Loadable w = (w.xcr0 ≡ 1) ⊎ Xcr0Allowed w.supported w.xcr0

-- ---- setup

abbrev pub accepted_setup : List ℕ → List ℕ → List ℕ → List ℕ → Fed
accepted_setup block a c msr = record { call = setup block a c msr; refused = false }

abbrev pub NoSetup : List Fed → Type 0
NoSetup ls = (block a c msr : List ℕ) → Memᴰ (accepted_setup block a c msr) ls → ⊥

-- exactly one setup was accepted
pub record OneSetup (ls : List Fed) : Type 0 where
  pub block : List ℕ
  pub a : List ℕ
  pub c : List ℕ
  pub msr : List ℕ
  pub before : List Fed
  pub later : List Fed
  pub all : ls ≡ before ++ (accepted_setup block a c msr ∷ later)
  pub none_before : NoSetup before
  pub none_later : NoSetup later

-- ---- the whole

-- what happened at each call from the record of a new session on, and the reference that is fed the calls and whether each was refused
abbrev pub history : List Call → List Logged
history calls = history_of new_record calls

abbrev pub reference : List Call → Reference
reference calls = reference_after start (fed (history calls))

-- the calls so far lead from the record of a new session to b; c and stack are of a next call
pub record WholeList (calls : List Call) (b : List ℕ) : Type 0 where
  -- b is a record
  pub accepted : accepted_of b ≡ true
  -- its waiting events and its words are the reference's, and so is what is counted of the calls
  pub pending : waiting_of (session_of b) ≡ (reference calls).pending
  pub words : words_of (session_of b) ≡ (reference calls).words
  pub tally : tally_of (history calls) ≡ (reference calls).tally
  -- each entry answered as the reference
  pub answered : answers_of (history calls) ≡ reference_answers start (fed (history calls))
  -- a call is refused exactly where its numbers say, by the first that applies
  pub numbers : (c : Call) → WellTyped c → Refuses (rules (reference calls) c) (step_of b c).refusal
  -- and then changes nothing
  pub unchanged : (c : Call) → WellTyped c → Declines b c → (step_of b c).state ≡ b
  -- the events queued are, in order, those injected, then those pending
  pub order : (tally_of (history calls)).queued ≡ (tally_of (history calls)).injected ++ waiting_of (session_of b)
  -- the counts are those of accepted entries and of those that held
  pub entered : (session_of b).progress.entries ≡ (tally_of (history calls)).entries
  pub held : (session_of b).progress.held ≡ (tally_of (history calls)).held
  -- an accepted entry comes after exactly one accepted setup
  pub once : (stack : ℕ) → WellTyped (entry stack) → Accepts b (entry stack) → OneSetup (fed (history calls))
  -- it launches or resumes by the entries before it
  pub launches : (stack : ℕ) → WellTyped (entry stack) → Accepts b (entry stack)
      → Launches (tally_of (history calls)).entries stack (session_of b) (entered_of b stack) (step_of b (entry stack)).resumed
  -- it answers none, held or written by the hold rule
  pub answers : (stack : ℕ) → WellTyped (entry stack) → Accepts b (entry stack) → Answers (reference calls) (step_of b (entry stack)).answer
  -- it injects at most the front
  pub moved : (stack : ℕ) → WellTyped (entry stack) → Accepts b (entry stack)
      → waiting_of (session_of b) ≡ (tally_of (history_of b (entry stack ∷ []))).injected ++ waiting_of (entered_of b stack)
  -- no call takes more than one event off
  pub at_most_one : (c : Call) → WellTyped c → length (waiting_of (session_of b)) ≤ length (waiting_of (session_of (step_of b c).state)) + 1
  -- an entry that answers Written has the event in the fields. Without a raw write of 0x4016, bit 31 is set exactly after such an entry
  pub wrote : (stack : ℕ) → WellTyped (entry stack) → (step_of b (entry stack)).answer ≡ Written → Wrote (reference calls) (entered_of b stack)
  pub valid : written 0x4016 (fed (history calls)) ≡ false → (stack : ℕ) → WellTyped (entry stack) → Accepts b (entry stack)
      → bit 31 (value_of (entered_of b stack).vmcs VmcsControl32.VMENTRY_INTERRUPTION_INFO_FIELD) ≡ is_written (step_of b (entry stack)).answer
  -- an accepted entry's words are what the capability words of the accepted setup call permit, without a raw write of them
  pub permitted : Unwritten judged_fields (fed (history calls))
      → (block a c msr : List ℕ) → Memᴰ (accepted_setup block a c msr) (fed (history calls))
      → (stack : ℕ) → WellTyped (entry stack) → Accepts b (entry stack)
      → Permits (limits_of block) (entered_of b stack).vmcs
  -- XCR0 before an accepted entry, which the host loads
  pub loadable : (stack : ℕ) → WellTyped (entry stack) → Accepts b (entry stack) → Loadable (words_of (session_of b))
  -- the law on waiting, for each event that is queued next
  pub law : (c : Call) → WellTyped c → (e : Event) → move_of (logged_of b c) ≡ queues e → WaitLaw (step_of b c).state (waiting_of (session_of b)) e
