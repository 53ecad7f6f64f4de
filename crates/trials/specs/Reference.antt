-- What a trial tells of the call (document 02, N5), said of any call that is a function of its buffers, without the definition of a trial; and the six trials.
-- Assumes nothing.
use Rattle.std.specs.Prelude.{◌≡◌, ◌≢◌, ◌↔◌, List, [], ◌∷◌, ℕ, length}
use Rattle.structs.specs.Frames.{IOBitmap}
use Rattle.call_specs.specs.Calls.{reads, writes, both}
use Rattle.trials.specs.Trial.{Outcome, outcome}
use Rattle.trials.specs.Trials.{report_on, entry_on, ports_on, msr_on, try_report, try_entry, try_ports, try_msr}

-- t is what the trial of a call on the first buffers answers, and leaves in the second ones and in the results
pub record Trial {B R : Type 0} (lengths : B → List ℕ) (call : B → R → Outcome B R) (first second : B) (results : R) (t : Outcome B R) : Type 0 where
  -- 0: the call on a copy of the first buffers answers 0, leaves what is shown, and gives the same results
  pub shows : t.refusal ≡ 0 → call first results ≡ t
  -- any number but 0 and 25: the call answers it, and leaves its buffers and results as they were
  pub refuses : t.refusal ≢ 0 → t.refusal ≢ 25 → call first results ≡ outcome t.refusal first results
  -- 25: exactly where the call's number is not 2 and a second buffer has another length than its first
  pub is_25 : (t.refusal ≡ 25) ↔ (((call first results).refusal ≢ 2) × (lengths second ≢ lengths first))
  -- a refused trial writes nothing
  pub stays : t.refusal ≢ 0 → t ≡ outcome t.refusal second results

abbrev length_of : List ℕ → List ℕ
length_of bytes = length bytes ∷ []

abbrev lengths_of : IOBitmap → List ℕ
lengths_of io = length io.a ∷ length io.b ∷ []

-- the six, for all arguments
pub record SixTrials : Type 0 where
  pub exit_report : (block bytes shown words : List ℕ) → Trial length_of (report_on block) bytes shown words (try_report block bytes shown words)
  pub entry : (stack : ℕ) (bytes shown : List ℕ) (results : ℕ × ℕ) → Trial length_of (entry_on stack) bytes shown results (try_entry stack bytes shown results)
  pub io_intercept_of_range : (base count intercept : ℕ) (frames shown : IOBitmap)
      → Trial lengths_of (ports_on base count intercept) frames shown tt (try_ports base count intercept frames shown tt)
  pub read_intercept : (msr intercept : ℕ) (frame shown : List ℕ) → Trial length_of (msr_on reads msr intercept) frame shown tt (try_msr reads msr intercept frame shown tt)
  pub write_intercept : (msr intercept : ℕ) (frame shown : List ℕ) → Trial length_of (msr_on writes msr intercept) frame shown tt (try_msr writes msr intercept frame shown tt)
  pub msr_intercept_of_range : (msr intercept : ℕ) (frame shown : List ℕ) → Trial length_of (msr_on both msr intercept) frame shown tt (try_msr both msr intercept frame shown tt)
