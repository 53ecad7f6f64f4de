-- The steps of a list are the exported functions' contracts: what meets the contract of a call is its step, and a refused call leaves what it was lent beside the
-- record too. Assumes nothing.
use Rattle.std.specs.Prelude.{ℕ, ◌≡◌, true, false, List, length, replicate}
use Rattle.bits.specs.Words.{flag}
use Rattle.vcpu_events.specs.Queue as Queue
use Rattle.vcpu_events.specs.declared.Injection.TheVariants.{Empty}
use Rattle.vcpu_events.specs.Access as Access
use Rattle.record.specs.Record as Record
use Rattle.call_specs.specs.Records.{Called, queue_step, EntryCalled, frames_call, new_call}
use Rattle.call_specs.specs.SetupCall.{SetupCalled}
use Rattle.call_specs.specs.ReportCall.{ReportCalled}
use Rattle.calls.specs.Reference.{Call, setup, queue_event, inject_interrupt, entry, exit_report, apic_value, field_write, register_write}
use Rattle.calls.specs.Calls.{step_of, new_record, is_refused, answer_number}

-- the buffers of vcpu_new have their lengths
abbrev pub NewLengths : List ℕ → List ℕ → List ℕ → List ℕ → Type 0
NewLengths bytes x y z = (length bytes ≡ Record.LENGTH) × (length x ≡ 4096) × (length y ≡ 4096) × (length z ≡ 4096)

-- vcpu_new answers r and leaves these buffers: 0, the record that lists start from and frames without an intercept; or 2, and all as it was
pub record Creates (bytes x y z : List ℕ) (r : ℕ) (bytes' x' y' z' : List ℕ) : Type 0 where
  pub made : NewLengths bytes x y z → frames_call r bytes' x' y' z' ≡ frames_call 0 new_record (replicate 4096 0) (replicate 4096 0) (replicate 4096 0)
  pub refused : (NewLengths bytes x y z → ⊥) → frames_call r bytes' x' y' z' ≡ frames_call 2 bytes x y z

-- a call other than an entry answers r and leaves the record x
abbrev pub Does : List ℕ → Call → ℕ → List ℕ → Type 0
Does b c r x = step_of b c ≡ record { refusal = r; answer = Empty; resumed = false; state = x }

-- setup answers r and leaves the record and these frames; a refused one leaves the frames as they were
pub record SetsUp (b block x y z : List ℕ) (r : ℕ) (after x' y' z' : List ℕ) : Type 0 where
  pub step : Does b (setup block x y z) r after
  pub left : is_refused r ≡ true → (x' ≡ x) × (y' ≡ y) × (z' ≡ z)

-- an entry whose results held these numbers answers r, leaves the record x, and stores y for whether it resumes and z for what it did with the front; a refused
-- one leaves the results
pub record Enters (b : List ℕ) (stack resumed injection r : ℕ) (x : List ℕ) (y z : ℕ) : Type 0 where
  pub refusal : (step_of b (entry stack)).refusal ≡ r
  pub state : (step_of b (entry stack)).state ≡ x
  pub resumes : is_refused r ≡ false → flag (step_of b (entry stack)).resumed ≡ y
  pub answer : is_refused r ≡ false → answer_number (step_of b (entry stack)).answer ≡ z
  pub left : is_refused r ≡ true → (y ≡ resumed) × (z ≡ injection)

-- a report answers r and leaves the record and these words; a refused one leaves the words as they were
pub record Reports (b block words : List ℕ) (r : ℕ) (after words' : List ℕ) : Type 0 where
  pub step : Does b (exit_report block) r after
  pub left : is_refused r ≡ true → words' ≡ words

pub record Contracts (b : List ℕ) : Type 0 where
  -- vcpu_new
  pub new : (bytes x y z : List ℕ) (r : ℕ) (bytes' x' y' z' : List ℕ) → frames_call r bytes' x' y' z' ≡ new_call bytes x y z → Creates bytes x y z r bytes' x' y' z'
  -- vcpu_setup
  pub set_up : (block x y z : List ℕ) (r : ℕ) (after x' y' z' : List ℕ) → SetupCalled b block x y z r after x' y' z' → SetsUp b block x y z r after x' y' z'
  -- vcpu_queue_event
  pub queue : (vector coded code r : ℕ) (after : List ℕ) → Called (queue_step vector coded code) b r after → Does b (queue_event vector coded code) r after
  -- vcpu_inject_interrupt
  pub interrupt : (vector r : ℕ) (after : List ℕ) → Called (λ s. Queue.inject_interrupt s vector) b r after → Does b (inject_interrupt vector) r after
  -- vcpu_entry
  pub enter : (stack resumed injection r : ℕ) (after : List ℕ) (x y : ℕ) → EntryCalled stack b resumed injection r after x y
      → Enters b stack resumed injection r after x y
  -- vcpu_exit_report
  pub report : (block words : List ℕ) (r : ℕ) (after words' : List ℕ) → ReportCalled b block words r after words' → Reports b block words r after words'
  -- vcpu_apic_value
  pub apic : (value r : ℕ) (after : List ℕ) → Called (λ s. Access.apic_value s value) b r after → Does b (apic_value value) r after
  -- vcpu_write_field
  pub field : (encoding value r : ℕ) (after : List ℕ) → Called (λ s. Access.write_field s encoding value) b r after → Does b (field_write encoding value) r after
  -- vcpu_set_reg_of_index
  pub register : (index value r : ℕ) (after : List ℕ) → Called (λ s. Access.set_register s index value) b r after → Does b (register_write index value) r after
