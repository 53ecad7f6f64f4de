use Rattle.std.proofs.Common.{◌≡◌, ℕ, ◌+◌, List, Option, Some, None, MatchOption, sym, ◌∙◌, length, position, rules, tests}
use Rattle.std.proofs.lemmas.Iterator.{YieldsList-from_slice}
use Rattle.std.proofs.lemmas.Iterator.Search.{position_from_yields_List}
use lib.Dec.{eqb}
use Rattle.replay.specs.Text.{line_end}
use Rattle.replay.proofs.LineLaws.{line_some, line_none}
use Rattle.replay.proofs.text.line_end.Goals as goal

taken : (s : List ℕ) (r : Option ℕ) (n : ℕ) → position (λ b. eqb b 10) s ≡ r → MatchOption r (n ≡ length s) (λ i. n ≡ i + 1) → n ≡ line_end s
taken s None n found h = h ∙ line_none s found
taken s (Some i) n found h = h ∙ line_some s i found

pub returns-clause-value : goal.returns-clause-value
returns-clause-value c =
    let found : c.position.result ≡ position (λ b. eqb b 10) c.args.text.now = position_from_yields_List (λ b. eqb b 10) _ _ c.position.result c.position.ensures.ran (YieldsList-from_slice _ c.iter.ensures.rest) (λ x b q k. search (rules, tests)) in
    let ends : MatchOption c.position.result (c.map_or.result ≡ length c.args.text.now) (λ i. c.map_or.result ≡ i + 1) = search rules in
    taken c.args.text.now c.position.result _ (sym found) ends
