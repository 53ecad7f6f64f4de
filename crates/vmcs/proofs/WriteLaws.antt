-- What a list of writes leaves in each field: the one law that reads a field after any list of writes. Assumes nothing.
use Prim.Native.Nat.{ℕ, ◌<◌}
use mathlib.Core.Path.{◌≡◌, refl, sym, ◌∙◌}
use mathlib.Core.Bool.{Bool, true, false, cond}
use mathlib.Core.List.{List, [], ◌∷◌}
use lib.ListN.{length, get_or, set, length-set}
use lib.Seq.{get_or-set_same, get_or-set_other}
use lib.Dec.{eqb}
use borrow.Author.Tests.{eqb-true, eqb-false}
use Rattle.vmcs.specs.Field.{Field, Word16, Word64, Word32, Natural, place_of, size_of, value_of, put}
use Rattle.vmcs.specs.Writes.{Write, applied, same_field, last_of, Sized}
use Rattle.vmcs.specs.declared.Vmcs.{Vmcs}

set_read : (l : List ℕ) (j k x n : ℕ) → length l ≡ n → k < n → get_or (set l j x) k 0 ≡ cond (eqb j k) x (get_or l k 0)
set_read l j k x n e h = go (eqb j k) refl
  where
    go : (t : Bool) → eqb j k ≡ t → get_or (set l j x) k 0 ≡ cond t x (get_or l k 0)
    go true t = rw (eqb-true j k t) (get_or-set_same l k x 0 (rw e h))
    go false t = get_or-set_other l j k x 0 (λ p. eqb-false j k t (sym p))

read_put : (v : Vmcs) (g f : Field) (x : ℕ) → Sized v → place_of f < size_of f → value_of (put v g x) f ≡ cond (same_field g f) x (value_of v f)
read_put v (Word16 j) (Word16 k) x s h = set_read v.w16 j k x 17 s.w16 h
read_put v (Word16 j) (Word64 k) x s h = refl
read_put v (Word16 j) (Word32 k) x s h = refl
read_put v (Word16 j) (Natural k) x s h = refl
read_put v (Word64 j) (Word16 k) x s h = refl
read_put v (Word64 j) (Word64 k) x s h = set_read v.w64 j k x 41 s.w64 h
read_put v (Word64 j) (Word32 k) x s h = refl
read_put v (Word64 j) (Natural k) x s h = refl
read_put v (Word32 j) (Word16 k) x s h = refl
read_put v (Word32 j) (Word64 k) x s h = refl
read_put v (Word32 j) (Word32 k) x s h = set_read v.w32 j k x 50 s.w32 h
read_put v (Word32 j) (Natural k) x s h = refl
read_put v (Natural j) (Word16 k) x s h = refl
read_put v (Natural j) (Word64 k) x s h = refl
read_put v (Natural j) (Word32 k) x s h = refl
read_put v (Natural j) (Natural k) x s h = set_read v.natural j k x 46 s.natural h

sized_put : (v : Vmcs) (g : Field) (x : ℕ) → Sized v → Sized (put v g x)
sized_put v (Word16 j) x s = record { w16 = length-set v.w16 j x ∙ s.w16; w64 = s.w64; w32 = s.w32; natural = s.natural }
sized_put v (Word64 j) x s = record { w16 = s.w16; w64 = length-set v.w64 j x ∙ s.w64; w32 = s.w32; natural = s.natural }
sized_put v (Word32 j) x s = record { w16 = s.w16; w64 = s.w64; w32 = length-set v.w32 j x ∙ s.w32; natural = s.natural }
sized_put v (Natural j) x s = record { w16 = s.w16; w64 = s.w64; w32 = s.w32; natural = length-set v.natural j x ∙ s.natural }

pub sized_applied : (ws : List Write) (v : Vmcs) → Sized v → Sized (applied ws v)
sized_applied [] v s = s
sized_applied (w ∷ ws) v s = sized_applied ws (put v w.field w.value) (sized_put v w.field w.value s)

-- each field, after the writes
pub read_applied : (ws : List Write) (v : Vmcs) (f : Field) → Sized v → place_of f < size_of f → value_of (applied ws v) f ≡ last_of ws f (value_of v f)
read_applied [] v f s h = refl
read_applied (w ∷ ws) v f s h =
    rw (← (read_put v w.field f w.value s h)) (read_applied ws (put v w.field w.value) f (sized_put v w.field w.value s) h)
