use Rattle.std.proofs.Common.{◌≡◌, ℕ, Option, Some, None, MatchOption, ◌∙◌, length, unwrap_or, rules}
use lib.Dec.{eqb}
use Rattle.std.proofs.lemmas.Iterator.{YieldsList-from_slice}
use Rattle.std.proofs.lemmas.Iterator.Search.{position_from_yields_List}
use Rattle.sheet.proofs.SheetLaws.{length_found}
use Rattle.sheet.proofs.lines.line_length.Goals as goal

taken : (r : Option ℕ) (d n : ℕ) → MatchOption r (d ≡ n) (λ x. x ≡ n) → unwrap_or r d ≡ n
taken None d n h = h
taken (Some x) d n h = h

pub returns-clause-value : goal.returns-clause-value
returns-clause-value c =
    let s = c.args.s.now in
    c.unwrap_or.ensures ∙ taken _ _ _ (length_found s _ (position_from_yields_List (λ b. eqb b 10) _ _ c.position.result c.position.ensures.ran (YieldsList-from_slice s cc) (λ x b q k. search rules)))
