-- The runs of a bitmap as two searches find them, and their lines. Assumes nothing.
use mathlib.Core.Path.{◌≡◌, sym, ap, ◌∙◌}
use mathlib.Core.Bool.{Bool, true, false}
use mathlib.Core.List.{List, [], ◌∷◌}
use mathlib.Core.Logic.{dite}
use Prim.Native.Nat.{ℕ, ◌+◌, ◌-◌, ◌*◌, ◌≤◌, ◌<◌}
use native.Mathlib.Nat.{sub-zero}
use native.Mathlib.Decide.{ℕ_discrete}
use native.Mathlib.Omega.{arith}
use lib.ListN.{length}
use Rattle.structs.specs.Bitmap.{bit_at}
use Rattle.trap_sheet.specs.Runs.{runs_of, shifted_by}
use Rattle.trap_sheet.specs.Search.{Next, runs_from, bit_runs}
use Rattle.trap_sheet.proofs.RunLaws.{runs_skipped, runs_taken}

module _ (base : ℕ) (xs : List ℕ) where
  pub from_all : runs_from base xs 0 ≡ bit_runs base xs
  from_all = rw (sub-zero (8 * length xs))

  pub from_end : (n : ℕ) → 8 * length xs ≤ n → runs_from base xs n ≡ []
  unfolding runs_of
  from_end n h = let z : 8 * length xs - n ≡ 0 = omega arith in rw z

  -- a search for a set bit passes no run
  pub search_skips : (n p : ℕ) → Next xs true n p → runs_from base xs n ≡ runs_from base xs p
  search_skips n p s = ap (shifted_by base) (runs_skipped (bit_at xs) (8 * length xs) n p s.after s.within s.other)

  module _ (n p : ℕ) (h : n < 8 * length xs) (e : bit_at xs n ≡ true) (s : Next xs false n p) where
    pub search_moves : n < p
    search_moves =
        dite (ℕ_discrete n p)
        (λ q. let z : ◌≡◌ {A = Bool} true false = sym e ∙ (ap (bit_at xs) q ∙ s.found (omega (arith, q))) in let o : ◌≡◌ {A = ℕ} 0 1 = cc in absurd (omega arith))
        (λ d. omega (arith, s.after))

    -- a search for a clear bit finds the end of a run
    pub search_takes : runs_from base xs n ≡ record { first = base + n; last = base + (p - 1) } ∷ runs_from base xs p
    search_takes = ap (shifted_by base) (runs_taken (bit_at xs) (8 * length xs) n p search_moves s.within s.other s.found)

-- what the iterator finds: no run is left, or the first one and those from its end on
module _ (base : ℕ) (xs : List ℕ) (n first : ℕ) (s : Next xs true n first) where
  pub none_left : 8 * length xs ≤ first → runs_from base xs n ≡ []
  none_left h = search_skips base xs n first s ∙ from_end base xs first h

  pub one_left : (stop : ℕ) → first < 8 * length xs → Next xs false first stop
      → runs_from base xs n ≡ record { first = base + first; last = base + (stop - 1) } ∷ runs_from base xs stop
  one_left stop h f = search_skips base xs n first s ∙ search_takes base xs first stop h (s.found h) f
