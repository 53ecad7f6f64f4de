-- Lists of writes to fields: the one form in which a definition changes the VMCS. Assumes nothing.
use Rattle.std.specs.Prelude.{ℕ, Bool, cond, ◌&&◌, List, [], ◌∷◌, ◌≡◌, length, eqb}
use Rattle.vmcs.specs.Field.{Field, place_of, size_of, put}
use Rattle.vmcs.specs.declared.Vmcs.{Vmcs}

-- a value for a field
pub record Write : Type 0 where
  pub field : Field
  pub value : ℕ

infix 75 ◌≔◌
abbrev pub ◌≔◌ : Field → ℕ → Write
f ≔ x = record { field = f; value = x }

-- the fields after the writes, the first of them first
abbrev pub applied : List Write → Vmcs → Vmcs
applied [] v = v
applied (w ∷ ws) v = applied ws (put v w.field w.value)

-- each width has its own number of fields, so size and place tell fields apart
abbrev pub same_field : Field → Field → Bool
same_field f g = eqb (size_of f) (size_of g) && eqb (place_of f) (place_of g)

-- what the writes leave in a field that held x: the value of the last write of it, or x
abbrev pub last_of : List Write → Field → ℕ → ℕ
last_of [] f x = x
last_of (w ∷ ws) f x = last_of ws f (cond (same_field w.field f) w.value x)

-- the arrays have their lengths
pub record Sized (v : Vmcs) : Type 0 where
  pub w16 : length v.w16 ≡ 17
  pub w32 : length v.w32 ≡ 50
  pub w64 : length v.w64 ≡ 41
  pub natural : length v.natural ≡ 46
