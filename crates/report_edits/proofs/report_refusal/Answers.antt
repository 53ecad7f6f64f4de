use borrow.Author.Rules.{rules}
use Rattle.bits.proofs.Tests.{answers}
use Rattle.vcpu_exit.specs.Refusal.{report_refusal}
use Rattle.record.proofs.RoundTrip.{never_unlawful}
use Rattle.record.proofs.Accepted.{whole}
use Rattle.report_edits.proofs.report_refusal.Goals as goal

pub phase_at-requires : goal.phase_at-requires
unfolding report_refusal
phase_at-requires c = search (whole, rules)

pub returns-then-phase_at-ne-RUNNING : goal.returns-then-phase_at-ne-RUNNING
unfolding report_refusal
returns-then-phase_at-ne-RUNNING c = search (answers, never_unlawful, ← c.phase_at.ensures)

pub returns-then-unknown_reason : goal.returns-then-unknown_reason
unfolding report_refusal
returns-then-unknown_reason c = search (answers, never_unlawful, ← c.phase_at.ensures, ← c.unknown_reason.ensures)

pub returns-then-is_failed : goal.returns-then-is_failed
unfolding report_refusal
returns-then-is_failed c = search (answers, never_unlawful, ← c.phase_at.ensures, ← c.unknown_reason.ensures, ← c.is_failed.ensures)

pub owned_bits_differ-requires : goal.owned_bits_differ-requires
unfolding report_refusal
owned_bits_differ-requires c = search (whole, rules)

pub returns-then-owned_bits_differ : goal.returns-then-owned_bits_differ
unfolding report_refusal
returns-then-owned_bits_differ c = search (answers, never_unlawful, ← c.phase_at.ensures, ← c.unknown_reason.ensures, ← c.is_failed.ensures, ← c.owned_bits_differ.ensures)

pub entry_pair_at-pair-requires : goal.entry_pair_at-pair-requires
unfolding report_refusal
entry_pair_at-pair-requires c = search (whole, rules)

pub w32_at-entry-requires : goal.w32_at-entry-requires
unfolding report_refusal
w32_at-entry-requires c = search (whole, rules)

pub xcr0_at-xcr0-requires : goal.xcr0_at-xcr0-requires
unfolding report_refusal
xcr0_at-xcr0-requires c = search (whole, rules)

pub returns : goal.returns
unfolding report_refusal
returns c = search (answers, never_unlawful, ← c.phase_at.ensures, ← c.unknown_reason.ensures, ← c.is_failed.ensures, ← c.owned_bits_differ.ensures, ← c.entry_pair_at-pair.ensures, ← c.w32_at-entry.ensures, ← c.xcr0_at-xcr0.ensures, ← c.exit_refusal.ensures)
