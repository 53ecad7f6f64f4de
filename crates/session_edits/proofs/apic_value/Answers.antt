use borrow.Author.Tests.{eq-eqb, ne_eqb}
use Rattle.vcpu_events.specs.Access.{apic_value}
use Rattle.record.proofs.RoundTrip.{never_unlawful}
use Rattle.session_edits.proofs.Ends.{refused, edited}
use Rattle.session_edits.proofs.apic_value.Goals as goal

pub returns-then-phase-ne-WAITING : goal.returns-then-phase-ne-WAITING
unfolding apic_value
returns-then-phase-ne-WAITING c = refused (rw (never_unlawful _ c.args.b.now.accepted, ← c.phase.ensures, ne_eqb _ _ c.if-phase-ne-WAITING.true))

pub returns : goal.returns
unfolding apic_value
returns c = edited c.put_apic_value.ensures (rw (never_unlawful _ c.args.b.now.accepted, ← c.phase.ensures, eq-eqb _ _ c.if-phase-ne-WAITING.false))
