-- Each of the six trials tells what its call would do: one law, used six times. Assumes nothing.
use mathlib.Core.Path.{◌≡◌, ap}
use mathlib.Core.List.{List, [], ◌∷◌}
use Prim.Native.Nat.{ℕ}
use lib.ListN.{length, get_or}
use Rattle.bits.proofs.Tells.{Tells, tells_eq, tells_and, tells_as}
use Rattle.structs.specs.Frames.{IOBitmap}
use Rattle.structs.specs.declared.Access.{Access}
use Rattle.call_specs.specs.Calls.{reads, writes, both}
use Rattle.trials.specs.Trials.{same_length, same_lengths, report_on, entry_on, ports_on, msr_on, try_msr}
use Rattle.trials.specs.Reference.{Trial, SixTrials}
use Rattle.trials.proofs.TrialLaws.{trial}
use Rattle.trials.proofs.RecordTrials.{entry_refusing, report_refusing}
use Rattle.trials.proofs.FrameTrials.{ports_refusing, msr_refusing}

first_of : {x y : ℕ} {xs ys : List ℕ} → (x ∷ xs) ≡ (y ∷ ys) → x ≡ y
first_of e = ap (λ (l : List ℕ). get_or l 0 0) e

same_length_lem : (first second : List ℕ) → Tells (same_length first second) ((length second ∷ []) ≡ (length first ∷ []))
same_length_lem first second = tells_as (tells_eq (length second) (length first)) (ap (λ (n : ℕ). n ∷ [])) first_of

same_lengths_lem : (first second : IOBitmap) → Tells (same_lengths first second) ((length second.a ∷ length second.b ∷ []) ≡ (length first.a ∷ length first.b ∷ []))
same_lengths_lem first second =
    tells_as (tells_and (tells_eq (length second.a) (length first.a)) (tells_eq (length second.b) (length first.b)))
    (λ h i. h.0 i ∷ h.1 i ∷ []) (λ e. (first_of e, ap (λ (l : List ℕ). get_or l 1 0) e))

abbrev msr_trial : (accesses : List Access) (msr v : ℕ) (frame shown : List ℕ) → Trial (λ (l : List ℕ). length l ∷ []) (msr_on accesses msr v) frame shown tt (try_msr accesses msr v frame shown tt)
msr_trial accesses msr v frame shown = trial same_length (msr_on accesses msr v) frame shown tt (λ (l : List ℕ). length l ∷ []) (same_length_lem frame shown) (msr_refusing accesses msr v)

pub six_trials : SixTrials
six_trials =
    record {
      exit_report = λ block bytes shown words. trial same_length (report_on block) bytes shown words _ (same_length_lem bytes shown) (report_refusing block);
      entry = λ stack bytes shown results. trial same_length (entry_on stack) bytes shown results _ (same_length_lem bytes shown) (entry_refusing stack);
      io_intercept_of_range = λ base count v frames shown. trial same_lengths (ports_on base count v) frames shown tt _ (same_lengths_lem frames shown) (ports_refusing base count v);
      read_intercept = msr_trial reads;
      write_intercept = msr_trial writes;
      msr_intercept_of_range = msr_trial both;
    }
