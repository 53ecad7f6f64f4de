-- The numbers by which a call is refused, in the order in which they are tested. Assumes nothing.
use Rattle.std.specs.Prelude.{ℕ, ◌≡◌, cond, List, [], ◌∷◌, ◌⊎◌, eqb}

-- a number, and where it applies
pub record Rule : Type 1 where
  pub number : ℕ
  pub applies : Type 0

abbrev pub by : ℕ → Type 0 → Rule
by n P = record { number = n; applies = P }

-- the first of two numbers, where 0 is none
unfoldable pub or_else : ℕ → ℕ → ℕ
or_else first second = cond (eqb first 0) second first

-- n is the number of the first rule that applies, or 0
abbrev pub Refuses : List Rule → ℕ → Type 0
Refuses [] n = n ≡ 0
Refuses (r ∷ rs) n = (r.applies × (n ≡ r.number)) ⊎ ((r.applies → ⊥) × Refuses rs n)
