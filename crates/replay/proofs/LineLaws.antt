-- Laws of the search for a line's end: `position` finds the first line feed. Assumes nothing.
use Rattle.std.proofs.Common.{◌≡◌, ℕ, ◌+◌, ◌≤◌, ◌<◌, List, [], ◌∷◌, length, Some, None, refl, arith, position}
use Rattle.std.proofs.lemmas.Grind.{common_steps}
use Rattle.std.specs.List.{position_or_len}
use lib.Dec.{eqb}
use Rattle.replay.specs.Text.{line_end}

ends_below : (s : List ℕ) → position_or_len (λ b. eqb b 10) s < length s → line_end s ≡ position_or_len (λ b. eqb b 10) s + 1
unfolding line_end
ends_below [] h = absurd (omega arith)
ends_below (b ∷ rest) h = grind (arith, common_steps, ends_below rest)

ends_past : (s : List ℕ) → length s ≤ position_or_len (λ b. eqb b 10) s → line_end s ≡ length s
unfolding line_end
ends_past [] h = refl
ends_past (b ∷ rest) h = grind (arith, common_steps, ends_past rest)

pub line_some : (s : List ℕ) (i : ℕ) → position (λ b. eqb b 10) s ≡ Some i → i + 1 ≡ line_end s
line_some s i e = grind (arith, common_steps, ends_below s)

pub line_none : (s : List ℕ) → position (λ b. eqb b 10) s ≡ None → length s ≡ line_end s
line_none s e = grind (arith, common_steps, ends_past s)
