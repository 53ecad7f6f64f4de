-- The bits of an encoding give its place in the table: tests that antt computes over the table, and over its widths and kinds. Assumes nothing.
use mathlib.Core.Path.{◌≡◌, refl, sym, ap, ◌∙◌}
use mathlib.Core.Bool.{Bool, true, false, cond, ◌&&◌}
use mathlib.Core.Logic.{◌⊎◌, inl, inr}
use Prim.Native.Nat.{ℕ, ◌+◌, ◌*◌, ◌/◌, ◌%◌, ◌^◌, ◌≤◌, ◌<◌}
use native.Mathlib.Omega.{arith}
use lib.ListN.{get_or}
use lib.Dec.{T, eqb, leb, ltb, eqb→eq, ltb→lt}
use borrow.Author.Tests.{eqb-true, eqb-false, leb-false, ltb-true, ltb-false}
use Rattle.bits.proofs.AllBelow.{below, at}
use Rattle.bits.proofs.WordLaws.{and_l, and_r}
use Rattle.vmcs.specs.Named.{named, encodings}
use Rattle.std.specs.Prelude.{Option, Some, None}
use Rattle.vmcs.specs.Fields.{position_of, place_in_table}
use Rattle.vmcs.specs.Lookup.{start_of, count_of, lookup}
use Rattle.vmcs.proofs.Scan.{position_le}
use Rattle.vmcs.proofs.TableTest.{table, each_listed}

-- ---- at each place: its encoding leads there, and stands nowhere before

abbrev stands : ℕ → Bool
stands p = eqb (position_of encodings (get_or encodings p 0)) p

leads : T (below (λ p. eqb (lookup (get_or encodings p 0)) p) 154)
unfolding encodings named lookup start_of count_of
leads = tt

first : (p : ℕ) → p < 154 → position_of encodings (get_or encodings p 0) ≡ p
unfolding encodings named
first p h = eqb→eq _ _ (at stands 154 tt p h)

-- ---- at each index of each width and kind: the table has the encoding of these

abbrev placed : ℕ → ℕ → Bool
placed g i = ltb (start_of g + i) 154

abbrev spelled : ℕ → ℕ → Bool
spelled g i = eqb (get_or encodings (start_of g + i) 0) (g * 1024 + 2 * i)

abbrev group : ℕ → Bool
group g = below (λ i. placed g i && spelled g i) (count_of g)

held : (g i : ℕ) → g < 32 → i < count_of g → T (placed g i && spelled g i)
unfolding encodings named start_of count_of
held g i h k = at (λ i. placed g i && spelled g i) (count_of g) (at group 32 tt g h) i k

-- each start is below 256
pub start_small : (g : ℕ) → g < 32 → start_of g < 256
unfolding start_of
start_small g h = ltb→lt _ _ (at (λ g. ltb (start_of g) 256) 32 tt g h)

-- ---- so a place that the bits give holds the encoding

pub record Held (e p : ℕ) : Type 0 where
  pub within : p < 154
  pub here : get_or encodings p 0 ≡ e

-- what each test gives
abbrev answer : ℕ → Bool → Bool → Bool → Bool → ℕ
answer e p q r s = cond p 106 (cond q 154 (cond r 154 (cond s 154 (start_of (e / 2 ^ 10) + e / 2 % 512))))

module _ (e : ℕ) where
  by_index : e < 0x8000 → (e % 2 ≡ 1 → ⊥) → e / 2 % 512 < count_of (e / 2 ^ 10) → Held e (start_of (e / 2 ^ 10) + e / 2 % 512)
  by_index small even counted =
      let g = e / 2 ^ 10 in
      let i = e / 2 % 512 in
      let t = held g i (omega arith) counted in
      let sum : e / 2 ^ 10 * 1024 + 2 * (e / 2 % 512) ≡ e = omega arith in
      record { within = ltb→lt _ _ (and_l (placed g i) (spelled g i) t); here = eqb→eq _ _ (and_r (placed g i) (spelled g i) t) ∙ sum }

  special : e ≡ 0x482E → Held e 106
  unfolding encodings named
  special s = record { within = omega arith; here = sym s }

  -- 154, or the place where the table has it
  outcome : (lookup e ≡ 154) ⊎ Held e (lookup e)
  unfolding lookup
  outcome = go (eqb e 0x482E) refl (leb 0x8000 e) refl (eqb (e % 2) 1) refl (leb (count_of (e / 2 ^ 10)) (e / 2 % 512)) refl
    where
      go : (p : Bool) → eqb e 0x482E ≡ p → (q : Bool) → leb 0x8000 e ≡ q → (r : Bool) → eqb (e % 2) 1 ≡ r
          → (s : Bool) → leb (count_of (e / 2 ^ 10)) (e / 2 % 512) ≡ s → (answer e p q r s ≡ 154) ⊎ Held e (answer e p q r s)
      go true a q b r c s d = inr (special (eqb-true e 0x482E a))
      go false a true b r c s d = inl refl
      go false a false b true c s d = inl refl
      go false a false b false c true d = inl refl
      go false a false b false c false d = inr (by_index (leb-false 0x8000 e b) (eqb-false (e % 2) 1 c) (leb-false _ _ d))

  pub lookup_right : lookup e ≡ position_of encodings e
  lookup_right = go (ltb (position_of encodings e) 154) refl outcome
    where
      go : (t : Bool) → ltb (position_of encodings e) 154 ≡ t → (lookup e ≡ 154) ⊎ Held e (lookup e) → lookup e ≡ position_of encodings e
      go true a o = eqb→eq _ _ (each_listed (λ p e. eqb (lookup e) p) leads e (ltb-true _ _ a))
      go false a (inl none) =
          let most : position_of encodings e ≤ 154 = rw table.0 at (position_le encodings e) in
          omega (arith, ltb-false (position_of encodings e) 154 a)
      go false a (inr h) = sym (first (lookup e) h.within) ∙ ap (position_of encodings) h.here

-- a place that is answered is within the table, and the encoding's
pub place_known : (e p : ℕ) → Some p ≡ place_in_table e → (p < 154) × (p ≡ position_of encodings e)
unfolding place_in_table
place_known e p = go (ltb (position_of encodings e) 154) refl
  where
    go : (t : Bool) → ltb (position_of encodings e) 154 ≡ t → ◌≡◌ {A = Option ℕ} (Some p) (cond t (Some (position_of encodings e)) None) → (p < 154) × (p ≡ position_of encodings e)
    go true t h = let same : p ≡ position_of encodings e = cc in (omega (arith, ltb-true _ _ t), same)
    go false t h = cc
