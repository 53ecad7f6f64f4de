use mathlib.Core.Path.{sym, ◌∙◌}
use Rattle.trap_sheet.proofs.SearchLaws.{passed_eight, passed_byte}
use Rattle.trap_sheet.proofs.search.passed.Goals as goal

pub returns-then-eight_are : goal.returns-then-eight_are
returns-then-eight_are c = let a = c.args in
    passed_eight a.bits.now a.v a.n c.if-k-eq0.true c.if-i-bits.true c.full_byte-other.ensures (sym c.eight_are.ensures ∙ c.if-eight_are.true)

pub returns-then-bits-i : goal.returns-then-bits-i
returns-then-bits-i c = passed_byte c.args.bits.now c.args.v c.args.n c.if-k-eq0.true c.requires c.full_byte-other.ensures c.if-bits-i.true
