use mathlib.Core.Path.{sym, ap, ◌∙◌}
use Rattle.call_specs.specs.Records.{EntryCall}
use Rattle.call_specs.proofs.Calls.{entry_number_lem, entry_no_record}
use Rattle.trials.proofs.entry_number.Goals as goal

pub returns-then-accepts : goal.returns-then-accepts
returns-then-accepts c stack resumed injection =
    c.entry_refusal.ensures stack ∙ sym (entry_number_lem stack _ resumed injection (sym c.accepts.ensures ∙ c.if-accepts.true))

pub returns-else-accepts : goal.returns-else-accepts
returns-else-accepts c stack resumed injection = ap (λ (x : EntryCall). x.refusal) (entry_no_record stack resumed injection c.accepts.ensures c.if-accepts.false).answer
