use mathlib.Core.Path.{◌≡◌}
use Rattle.std.proofs.Common.{rules}
use Rattle.definitions.specs.Refusals.{number, refusal_of}
use Rattle.vcpu_setup.proofs.DemandLaws.{number_some}
use Rattle.vcpu_setup.proofs.AddedLaws.{refused_alike}
use Rattle.vcpu_setup.proofs.bitmaps.setup_msr_bitmap.Goals as goal

pub returns-in_err-set_msr_intercepts : goal.returns-in_err-set_msr_intercepts
returns-in_err-set_msr_intercepts c =
    let e : refusal_of {A = Unit {0}} c.from_residual.result ≡ number c.in_err-set_msr_intercepts.field-0.0 = search rules in
    rw e (refused_alike c.args.frame.now _ _ (number_some _) c.in_err-set_msr_intercepts.ensures)
