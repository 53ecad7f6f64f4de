-- Parts of a list, one after the other: where each stands, and the list as all of them. Assumes nothing.
use mathlib.Core.Path.{◌≡◌, refl, sym, ap, ◌∙◌}
use mathlib.Core.List.{List, [], ◌∷◌, ◌++◌, map, flatten}
use Prim.Native.Nat.{ℕ, zero, suc, ◌+◌}
use lib.ListN.{length, take, drop, length-append}
use lib.Seq.{take-add, drop_at, drop-drop, sets}
use Rattle.record.specs.Runs.{stored_at}
use Rattle.record.proofs.Stores.{sets_append}

abbrev pub total : List ℕ → ℕ
total [] = 0
total (n ∷ ns) = n + total ns

-- where parts of these lengths start, the first at `at`
abbrev pub starts : ℕ → List ℕ → List ℕ
starts at [] = []
starts at (n ∷ ns) = at ∷ starts (at + n) ns

module _ {A : Type 0} where
  -- the parts of these lengths, from `at` on
  abbrev pub cut : ℕ → List ℕ → List A → List (List A)
  cut at [] b = []
  cut at (n ∷ ns) b = take n (drop at b) ∷ cut (at + n) ns b

  pub length_flatten : (ls : List (List A)) → length (flatten ls) ≡ total (map length ls)
  unfolding flatten
  length_flatten [] = refl
  length_flatten (l ∷ ls) = rw (length-append l (flatten ls), length_flatten ls)

  -- parts stored one after the other
  pub stored_parts : (at : ℕ) (ls : List (List A)) (b : List A) → stored_at (starts at (map length ls)) ls b ≡ sets b at (flatten ls)
  unfolding flatten
  stored_parts at [] b = refl
  stored_parts at (l ∷ ls) b = stored_parts (at + length l) ls (sets b at l) ∙ sets_append b at l (flatten ls)

  -- what stands from part k on
  pub from_part : (k : ℕ) (ls : List (List A)) → drop (total (take k (map length ls))) (flatten ls) ≡ flatten (drop k ls)
  unfolding flatten
  from_part zero ls = refl
  from_part (suc k) [] = refl
  from_part (suc k) (l ∷ ls) =
      sym (drop-drop (total (take k (map length ls))) (length l) (l ++ flatten ls))
      ∙ ap (drop (total (take k (map length ls)))) (drop_at l (flatten ls) (length l) refl)
      ∙ from_part k ls

  pub joined : (at : ℕ) (ns : List ℕ) (b : List A) → flatten (cut at ns b) ≡ take (total ns) (drop at b)
  unfolding flatten
  joined at [] b = refl
  joined at (n ∷ ns) b = rw (joined (at + n) ns b, take-add n (total ns) (drop at b), drop-drop n at b)
