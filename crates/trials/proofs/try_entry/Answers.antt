use mathlib.Core.Path.{refl}
use borrow.Author.Tests.{eqb-true}
use Rattle.std.proofs.lemmas.Result.{err_from_is_err_and}
use Rattle.definitions.proofs.RefusalLaws.{positive}
use Rattle.trials.specs.Trials.{same_length, entry_on}
use Rattle.trials.proofs.TrialLaws.{tried_by, taken}
use Rattle.trials.proofs.RecordTrials.{entry_untouched, entry_shown}
use Rattle.trials.proofs.try_entry.Goals as goal

pub returns-in_err-trial_refusal : goal.returns-in_err-trial_refusal
returns-in_err-trial_refusal c = let stack = c.args.stack in
    let p = err_from_is_err_and c.from_residual.result c.from_residual.ensures.1 in
    let e = c.in_err-trial_refusal.field-0.0 in
    rw (p.1, p.2) (entry_untouched stack _ _ _ (tried_by same_length (entry_on stack) _ _ _ (c.entry_number.ensures stack _ _) e c.in_err-trial_refusal.ensures) (positive e _ refl))

pub copy_from_slice-requires : goal.copy_from_slice-requires
copy_from_slice-requires c = eqb-true _ _ (taken _ _ c.in_ok-trial_refusal.ensures).1

pub returns : goal.returns
returns c = let stack = c.args.stack in
    let t = taken _ _ c.in_ok-trial_refusal.ensures in
    entry_shown stack _ _ _ (c.entry_number.ensures stack _ _) t.0 (eqb-true _ _ t.1) c.copy_from_slice.ensures.after c.entry.ensures
