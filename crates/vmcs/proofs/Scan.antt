-- The place of a number in a table, for any table: it is at most the length, and the entry at it is the number. Assumes nothing.
use mathlib.Core.Path.{◌≡◌, refl}
use mathlib.Core.Bool.{Bool, true, false, cond}
use mathlib.Core.List.{List, [], ◌∷◌}
use Prim.Native.Nat.{ℕ, zero, suc, ◌≤◌, ◌<◌}
use native.Mathlib.Nat.{not-suc-le-zero}
use native.Mathlib.Omega.{arith}
use lib.ListN.{length, get_or}
use lib.Dec.{eqb}
use borrow.Author.Tests.{eqb-true}
use Rattle.vmcs.specs.Fields.{position_of}

-- a place is at most the length
pub position_le : (es : List ℕ) (x : ℕ) → position_of es x ≤ length es
position_le [] x = omega arith
position_le (e ∷ es) x = go (position_le es x) (eqb e x)
  where
    go : position_of es x ≤ length es → (t : Bool) → cond t zero (suc (position_of es x)) ≤ suc (length es)
    go h true = omega arith
    go h false = omega arith

-- the entry at the place of x is x
pub at_position : (es : List ℕ) (x : ℕ) → position_of es x < length es → get_or es (position_of es x) 0 ≡ x
at_position [] x h = absurd (not-suc-le-zero h)
at_position (e ∷ es) x h = go (at_position es x) (eqb e x) refl h
  where
    go : (position_of es x < length es → get_or es (position_of es x) 0 ≡ x) → (t : Bool) → eqb e x ≡ t
        → cond t zero (suc (position_of es x)) < suc (length es) → get_or (e ∷ es) (cond t zero (suc (position_of es x))) 0 ≡ x
    go rest true q l = eqb-true e x q
    go rest false q l = rest (omega arith)
