use borrow.Author.Tests.{eq-eqb, ne_eqb}
use Rattle.vcpu_session.specs.Session.{LAST_ENTRY}
use Rattle.vcpu_events.specs.Entry.{entry}
use borrow.Author.Rules.{rules}
use Rattle.record.proofs.Accepted.{whole}
use Rattle.record.proofs.RoundTrip.{never_unlawful}
use Rattle.session_edits.proofs.entry_refusal.Goals as goal

pub returns-then-p-ne-READY : goal.returns-then-p-ne-READY
unfolding entry
returns-then-p-ne-READY c stack = rw (never_unlawful _ c.requires, ← c.progress_at-p.ensures, ne_eqb _ _ c.if-p-ne-READY.true)

pub returns-then-p : goal.returns-then-p
unfolding entry
returns-then-p c stack = rw (never_unlawful _ c.requires, ← c.progress_at-p.ensures, eq-eqb _ _ c.if-p-ne-READY.false, eq-eqb _ LAST_ENTRY c.if-p.true)

pub returns : goal.returns
unfolding entry
returns c stack = rw (never_unlawful _ c.requires, ← c.progress_at-p.ensures, eq-eqb _ _ c.if-p-ne-READY.false, ne_eqb _ LAST_ENTRY c.if-p.false)

pub progress_at-p-requires : goal.progress_at-p-requires
progress_at-p-requires c = search (whole, rules)
