-- A raw write, seen at a named field: the number written where the encodings are the same, else what the field held. Assumes nothing.
use Prim.Native.Nat.{ℕ, zero, suc, ◌+◌, ◌<◌}
use mathlib.Core.Path.{◌≡◌, refl, sym, ap, ◌∙◌}
use mathlib.Core.Bool.{Bool, true, false, cond}
use mathlib.Core.List.{List, [], ◌∷◌, Memᴰ}
use native.Mathlib.Omega.{arith}
use native.Mathlib.Nat.{not-suc-le-zero}
use lib.ListN.{length, get_or}
use lib.Dec.{eqb, eqb→eq}
use borrow.Author.Tests.{eqb-true, eqb-false, eq-eqb}
use Rattle.bits.proofs.AllBelow.{at}
use Rattle.bits.proofs.Tells.{cond_all}
use Rattle.vmcs.specs.Field.{Field, Word16, Word64, Word32, Natural, place_of, size_of, value_of, put}
use Rattle.vmcs.specs.Writes.{◌≔◌, same_field, Sized}
use Rattle.vmcs.specs.Named.{encodings}
use Rattle.vmcs.specs.Fields.{position_of, field_at, field_of}
use Rattle.vmcs.specs.declared.Vmcs.{Vmcs}
use Rattle.vmcs.proofs.Scan.{at_position}
use Rattle.vmcs.proofs.TableTest.{table}
use Rattle.vmcs.proofs.WriteLaws.{read_applied}
use Rattle.calls.specs.Reference.{choose}
use Rattle.calls.proofs.Choices.{impossible}

-- the place of a field in the table
abbrev rank_of : Field → ℕ
rank_of (Word16 k) = k
rank_of (Word64 k) = 17 + k
rank_of (Word32 k) = 58 + k
rank_of (Natural k) = 108 + k

abbrev ranked : ℕ → Bool
ranked p = eqb (rank_of (field_at p)) p

rank_field : (p : ℕ) → p < 154 → rank_of (field_at p) ≡ p
unfolding field_at
rank_field p h = eqb→eq _ _ (at ranked 154 tt p h)

same_self : (f : Field) → same_field f f ≡ true
same_self f = rw (eq-eqb (size_of f) (size_of f) refl, eq-eqb (place_of f) (place_of f) refl)

same_rank : (f g : Field) → same_field f g ≡ true → rank_of f ≡ rank_of g
same_rank (Word16 j) (Word16 k) e = eqb-true j k e
same_rank (Word16 j) (Word64 k) e = impossible e
same_rank (Word16 j) (Word32 k) e = impossible e
same_rank (Word16 j) (Natural k) e = impossible e
same_rank (Word64 j) (Word16 k) e = impossible e
same_rank (Word64 j) (Word64 k) e = ap (λ n. 17 + n) (eqb-true j k e)
same_rank (Word64 j) (Word32 k) e = impossible e
same_rank (Word64 j) (Natural k) e = impossible e
same_rank (Word32 j) (Word16 k) e = impossible e
same_rank (Word32 j) (Word64 k) e = impossible e
same_rank (Word32 j) (Word32 k) e = ap (λ n. 58 + n) (eqb-true j k e)
same_rank (Word32 j) (Natural k) e = impossible e
same_rank (Natural j) (Word16 k) e = impossible e
same_rank (Natural j) (Word64 k) e = impossible e
same_rank (Natural j) (Word32 k) e = impossible e
same_rank (Natural j) (Natural k) e = ap (λ n. 108 + n) (eqb-true j k e)

-- x is the encoding of f
pub record Names (x : ℕ) (f : Field) : Type 0 where
  pub listed : position_of encodings x < 154
  pub field : field_of x ≡ f
  pub within : place_of f < size_of f

module _ (e x : ℕ) (h : position_of encodings e < 154) (l : position_of encodings x < 154) where
  same_encoding : same_field (field_of e) (field_of x) ≡ true → e ≡ x
  same_encoding t =
      let r : position_of encodings e ≡ position_of encodings x
      = sym (rank_field (position_of encodings e) h) ∙ same_rank (field_of e) (field_of x) t ∙ rank_field (position_of encodings x) l in
      sym (at_position encodings e (rw table.0 h)) ∙ ap (λ (p : ℕ). get_or encodings p 0) r ∙ at_position encodings x (rw table.0 l)

  pub other_field : (e ≡ x → ⊥) → same_field (field_of e) (field_of x) ≡ false
  other_field n = go (same_field (field_of e) (field_of x)) same_encoding
    where
      go : (t : Bool) → (t ≡ true → e ≡ x) → t ≡ false
      go true q = absurd (n (q refl))
      go false q = refl

module _ (e x : ℕ) (f : Field) (h : position_of encodings e < 154) (n : Names x f) where
  pub raw_read : (v : Vmcs) (value : ℕ) → Sized v → (d : Dec (e ≡ x)) → value_of (put v (field_of e) value) f ≡ choose d value (value_of v f)
  raw_read v value sized d = read_applied (field_of e ≔ value ∷ []) v f sized n.within ∙ go d
    where
      go : (d : Dec (e ≡ x)) → cond (same_field (field_of e) f) value (value_of v f) ≡ choose d value (value_of v f)
      go (yes q) = rw (ap (λ (y : ℕ). same_field (field_of y) f) q ∙ ap (λ (g : Field). same_field g f) n.field ∙ same_self f)
      go (no q) = rw (ap (same_field (field_of e)) (sym n.field) ∙ other_field e x h n.listed q)

-- an encoding has a place exactly where it is listed
pub placed_listed : (es : List ℕ) (x : ℕ) → position_of es x < length es → Memᴰ x es
placed_listed [] x h = absurd (not-suc-le-zero h)
placed_listed (e ∷ es) x h = go (eqb e x) refl h (placed_listed es x)
  where
    go : (t : Bool) → eqb e x ≡ t → cond t zero (suc (position_of es x)) < suc (length es) → (position_of es x < length es → Memᴰ x es)
        → Memᴰ x (e ∷ es)
    go true q l ih = Memᴰ.head (sym (eqb-true e x q))
    go false q l ih = Memᴰ.tail (ih (omega arith))

pub listed_placed : (es : List ℕ) (x : ℕ) → Memᴰ x es → position_of es x < length es
listed_placed [] x m = elim m [ ]
listed_placed (e ∷ es) x (Memᴰ.head q) = cond_all (λ (n : ℕ). n < suc (length es)) (eqb e x) _ _ (λ _. omega arith) (λ f. absurd (eqb-false e x f (sym q)))
listed_placed (e ∷ es) x (Memᴰ.tail m) =
    let l = listed_placed es x m in
    cond_all (λ (n : ℕ). n < suc (length es)) (eqb e x) _ _ (λ _. omega arith) (λ _. omega arith)
