-- The six trials (document 02, N5): each is the trial of a call by that call's own definition, and says nothing of what the call does. Assumes nothing.
use Rattle.std.specs.Prelude.{◌≡◌, Bool, true, false, ◌&&◌, List, ℕ, eqb, length, Option, None, Some}
use Rattle.structs.specs.Frames.{IOBitmap, frames_of}
use Rattle.structs.specs.declared.Access.{Access}
use Rattle.vcpu_events.specs.Entry.{entry}
use Rattle.vcpu_report.specs.ExitReport.{exit_report}
use Rattle.record.specs.Codec.{decoded, decode_of}
use Rattle.blocks.specs.ReportBlock.{report_of}
use Rattle.call_specs.specs.Calls.{port_call, msr_call}
use Rattle.call_specs.specs.Records.{entry_call}
use Rattle.call_specs.specs.ReportCall.{report_call, ReportCalled}
use Rattle.trials.specs.Trial.{Outcome, outcome, trial_of}

-- ---- lengths

abbrev pub same_length : List ℕ → List ℕ → Bool
same_length first second = eqb (length second) (length first)

abbrev pub same_lengths : IOBitmap → IOBitmap → Bool
same_lengths first second = same_length first.a second.a && same_length first.b second.b

-- ---- each call as a function of the buffers that it writes and of its results

abbrev pub report_on : List ℕ → List ℕ → List ℕ → Outcome (List ℕ) (List ℕ)
report_on block bytes words = let c = report_call bytes block words in outcome c.refusal c.bytes c.answer

-- its results are resumed, and what it did with the front of the queue
abbrev pub entry_on : ℕ → List ℕ → ℕ × ℕ → Outcome (List ℕ) (ℕ × ℕ)
entry_on stack bytes x = let c = entry_call stack bytes x.0 x.1 in outcome c.refusal c.bytes (c.resumed, c.injection)

-- an edit has no results
abbrev pub ports_on : ℕ → ℕ → ℕ → IOBitmap → Unit {0} → Outcome IOBitmap (Unit {0})
ports_on base count intercept io x = let c = port_call io.a io.b base count intercept in outcome c.refusal (frames_of c) x

abbrev pub msr_on : List Access → ℕ → ℕ → List ℕ → Unit {0} → Outcome (List ℕ) (Unit {0})
msr_on accesses msr intercept frame x = let c = msr_call accesses frame msr intercept in outcome c.refusal c.frame x

-- ---- the trials

abbrev pub try_report : List ℕ → List ℕ → List ℕ → List ℕ → Outcome (List ℕ) (List ℕ)
try_report block = trial_of same_length (report_on block)

abbrev pub try_entry : ℕ → List ℕ → List ℕ → ℕ × ℕ → Outcome (List ℕ) (ℕ × ℕ)
try_entry stack = trial_of same_length (entry_on stack)

abbrev pub try_ports : ℕ → ℕ → ℕ → IOBitmap → IOBitmap → Unit {0} → Outcome IOBitmap (Unit {0})
try_ports base count intercept = trial_of same_lengths (ports_on base count intercept)

abbrev pub try_msr : List Access → ℕ → ℕ → List ℕ → List ℕ → Unit {0} → Outcome (List ℕ) (Unit {0})
try_msr accesses msr intercept = trial_of same_length (msr_on accesses msr intercept)

-- ---- the trials on a record: what is shown decodes to what the step gives on the decoded session

pub record ReportTried (bytes shown block words : List ℕ) (r : ℕ) (shownAfter wordsAfter : List ℕ) : Type 0 where
  pub answer : outcome r shownAfter wordsAfter ≡ try_report block bytes shown words
  pub decodes : r ≡ 0 → decode_of shownAfter ≡ decoded 0 (exit_report (decode_of bytes).session (report_of block)).session

pub record EntryTried (stack : ℕ) (bytes shown : List ℕ) (resumed injection r : ℕ) (shownAfter : List ℕ) (resumedAfter injectionAfter : ℕ) : Type 0 where
  pub answer : outcome r shownAfter (resumedAfter, injectionAfter) ≡ try_entry stack bytes shown (resumed, injection)
  pub decodes : r ≡ 0 → decode_of shownAfter ≡ decoded 0 (entry (decode_of bytes).session stack).session

-- the one body of the report and of its trial, which has a first record
abbrev pub ReportBody : Option (List ℕ) → List ℕ → List ℕ → List ℕ → ℕ → List ℕ → List ℕ → Type 0
ReportBody (Some first) bytes block words r after wordsAfter = ReportTried first bytes block words r after wordsAfter
ReportBody None bytes block words r after wordsAfter = ReportCalled bytes block words r after wordsAfter

-- what is shown has the length of the first record, if there is one
abbrev pub alike_of : Option (List ℕ) → List ℕ → Bool
alike_of (Some first) bytes = eqb (length bytes) (length first)
alike_of None bytes = true
