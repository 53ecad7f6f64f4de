use mathlib.Core.Path.{refl, sym}
use Rattle.std.proofs.lemmas.Result.{err_from_is_err_and}
use Rattle.definitions.proofs.RefusalLaws.{yes_no_refused, yes_no_taken}
use Rattle.trials.specs.Trials.{same_lengths, ports_on}
use Rattle.trials.proofs.TrialLaws.{tried_2, tried_by, taken}
use Rattle.trials.proofs.FrameTrials.{port_byte, port_number, ports_shown}
use borrow.Author.Tests.{eqb-true}
use Rattle.bits.proofs.Tells.{both_true}
use Rattle.trials.proofs.try_io_intercept_of_range.Goals as goal

pub returns-in_err-intercept : goal.returns-in_err-intercept
returns-in_err-intercept c = let a = c.args in
    let p = err_from_is_err_and c.from_residual.result c.from_residual.ensures.1 in
    let y = yes_no_refused a.intercept c.in_err-intercept.field-0.0 c.in_err-intercept.ensures in
    rw (p.1, p.2, y.1) (tried_2 same_lengths (ports_on a.port_base a.count a.intercept) _ _ tt (port_byte _ _ _ _ y.0) refl)

pub returns-in_err-trial_refusal : goal.returns-in_err-trial_refusal
returns-in_err-trial_refusal c = let a = c.args in
    let p = err_from_is_err_and c.from_residual-in_err-trial_refusal.result c.from_residual-in_err-trial_refusal.ensures.1 in
    let y = yes_no_taken a.intercept c.in_ok-intercept.intercept c.in_ok-intercept.ensures in
    rw (p.1, p.2) (tried_by same_lengths (ports_on a.port_base a.count a.intercept) _ _ tt (port_number _ _ _ _ y.0 c.port_refusal-call.ensures) c.in_err-trial_refusal.field-0.0 c.in_err-trial_refusal.ensures)

pub copy_from_slice-requires : goal.copy_from_slice-requires
copy_from_slice-requires c = eqb-true _ _ (both_true _ _ (taken _ _ c.in_ok-trial_refusal.ensures).1).0

pub copy_from_slice-requires-2 : goal.copy_from_slice-requires-2
copy_from_slice-requires-2 c = eqb-true _ _ (both_true _ _ (taken _ _ c.in_ok-trial_refusal.ensures).1).1

pub returns : goal.returns
returns c = let a = c.args in
    let y = yes_no_taken a.intercept c.in_ok-intercept.intercept c.in_ok-intercept.ensures in
    let t = taken _ _ c.in_ok-trial_refusal.ensures in
    ports_shown _ _ a.port_base a.count a.intercept y.0 c.port_refusal-call.ensures t.1 t.0 c.copy_from_slice.ensures.after c.copy_from_slice-2.ensures.after (rw y.1 at c.set_intercept_of_range.ensures)
