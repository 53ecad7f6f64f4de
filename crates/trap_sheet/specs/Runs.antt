-- Sets of numbered items: how many items are in a set, and the runs, which are its maximal stretches of consecutive items (document 02, N2).
-- Assumes nothing.
use Rattle.std.specs.Prelude.{ℕ, zero, suc, ◌+◌, Bool, cond, List, [], ◌∷◌, eqb}
use Rattle.bits.specs.Words.{flag}

-- how many of the k items from n on are in a set
unfoldable pub count_of : (ℕ → Bool) → ℕ → ℕ → ℕ
count_of t n zero = 0
count_of t n (suc k) = flag (t n) + count_of t (n + 1) k

pub record Run : Type 0 where
  pub first : ℕ
  pub last : ℕ

-- an item before runs: it joins the run that starts right after it, or is one by itself
abbrev pub joined : ℕ → List Run → List Run
joined n [] = record { first = n; last = n } ∷ []
joined n (r ∷ rs) = cond (eqb r.first (n + 1)) (record { first = n; last = r.last } ∷ rs) (record { first = n; last = n } ∷ (r ∷ rs))

-- the runs among the k items from n on, ascending
unfoldable pub runs_of : (ℕ → Bool) → ℕ → ℕ → List Run
runs_of t n zero = []
runs_of t n (suc k) = cond (t n) (joined n (runs_of t (n + 1) k)) (runs_of t (n + 1) k)

-- runs of items that are numbered d higher
abbrev pub shifted_by : ℕ → List Run → List Run
shifted_by d [] = []
shifted_by d (r ∷ rs) = record { first = d + r.first; last = d + r.last } ∷ shifted_by d rs
