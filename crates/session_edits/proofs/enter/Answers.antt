use mathlib.Core.Path.{refl, sym}
use native.Mathlib.Omega.{arith}
use Rattle.std.proofs.lemmas.Result.{err_from_is_err_and}
use Rattle.definitions.proofs.RefusalLaws.{positive}
use Rattle.record_edits.specs.Edited.{session}
use Rattle.record.proofs.Accepted.{whole}
use Rattle.record.proofs.RoundTrip.{session_fits}
use Rattle.vcpu_events.proofs.Stays.{entry_taken, entry_refused_is}
use Rattle.session_edits.proofs.Ends.{refused, edited}
use Rattle.session_edits.proofs.enter.Goals as goal

pub returns-in_err-entry_refusal : goal.returns-in_err-entry_refusal
returns-in_err-entry_refusal c = let p = err_from_is_err_and c.from_residual.result c.from_residual.ensures.1 in
    let e = c.in_err-entry_refusal.field-0.0 in
    rw (p.1, p.2) (refused (entry_refused_is (session c.args.b.now) c.args.stack (rw c.bytes.ensures.value at c.in_err-entry_refusal.ensures c.args.stack) (positive e _ refl)))

pub after_entry-requires : goal.after_entry-requires
after_entry-requires c = let fits = session_fits c.args.b.now.bytes.now (whole _ c.args.b.now.accepted) c.args.b.now.below in
    let taken = entry_taken _ c.args.stack (sym (rw c.bytes.ensures.value at c.in_ok-entry_refusal.ensures c.args.stack)) in
    omega (arith, fits.progress.entries, taken.0)

pub returns : goal.returns
returns c = let taken = entry_taken _ c.args.stack (sym (rw c.bytes.ensures.value at c.in_ok-entry_refusal.ensures c.args.stack)) in
    edited c.after_entry.ensures (rw (c.injection_at-injection.ensures, c.bytes-2.ensures.value, c.progress-p.ensures) (sym taken.1))
