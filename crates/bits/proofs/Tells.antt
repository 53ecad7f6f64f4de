-- Tests that tell where a rule applies, and the law by which a ladder of such tests answers the number of the first rule that applies. Assumes nothing.
use Prim.Native.Nat.{ℕ, ◌%◌, ◌≤◌, ◌<◌}
use mathlib.Core.Path.{◌≡◌, refl, sym, ◌∙◌, subst}
use mathlib.Core.Bool.{Bool, true, false, cond, not, ◌&&◌, ◌||◌, true≢false, false≢true}
use mathlib.Core.List.{List, [], ◌∷◌, ◌++◌}
use mathlib.Core.Logic.{◌⊎◌, inl, inr}
use native.Mathlib.Omega.{arith}
use lib.Dec.{eqb, leb, ltb}
use borrow.Author.Tests.{eqb-true, eqb-false, leb-true, leb-false, ltb-true, ltb-false, not-true, not-false}
use Rattle.bits.specs.Refuses.{Rule, by, or_else, Refuses}

-- ---- choices and tests joined

-- what holds of each choice, under its test, holds of the choice
pub cond_all {ℓ} : {A : Type ℓ} (P : A → Type 0) (t : Bool) (a b : A) → (t ≡ true → P a) → (t ≡ false → P b) → P (cond t a b)
cond_all P true a b p q = p refl
cond_all P false a b p q = q refl

pub both_true : (a b : Bool) → (a && b) ≡ true → (a ≡ true) × (b ≡ true)
both_true true b e = (refl, e)
both_true false b e = absurd (false≢true e)

one_true : (a b : Bool) → (a || b) ≡ true → (a ≡ true) ⊎ (b ≡ true)
one_true true b e = inl refl
one_true false b e = inr e

one_false : (a b : Bool) → (a && b) ≡ false → (a ≡ false) ⊎ (b ≡ false)
one_false true b e = inr e
one_false false b e = inl refl

pub both_false : (a b : Bool) → (a || b) ≡ false → (a ≡ false) × (b ≡ false)
both_false true b e = absurd (true≢false e)
both_false false b e = (refl, e)

-- ---- tests that tell

-- the test is true exactly where C holds
pub record Tells (t : Bool) (C : Type 0) : Type 0 where
  pub yes_so : t ≡ true → C
  pub not_so : t ≡ false → C → ⊥

pub tells_eq : (a b : ℕ) → Tells (eqb a b) (a ≡ b)
tells_eq a b = record { yes_so = eqb-true a b; not_so = eqb-false a b }

pub tells_leb : (a b : ℕ) → Tells (leb a b) (a ≤ b)
tells_leb a b = record { yes_so = leb-true a b; not_so = λ e h. omega (arith, leb-false a b e) }

pub tells_ltb : (a b : ℕ) → Tells (ltb a b) (a < b)
tells_ltb a b = record { yes_so = ltb-true a b; not_so = λ e h. omega (arith, ltb-false a b e) }

pub tells_on : (b : Bool) → Tells b (b ≡ true)
tells_on b = record { yes_so = λ e. e; not_so = λ e f. true≢false (sym f ∙ e) }

pub tells_off : (b : Bool) → Tells (not b) (b ≡ false)
tells_off b = record { yes_so = not-true b; not_so = λ e f. true≢false (sym (not-false b e) ∙ f) }

-- the lowest bit, tested for 0 and for 1
pub tells_clear : (n : ℕ) → Tells (eqb (n % 2) 0) (eqb (n % 2) 1 ≡ false)
tells_clear n =
    record {
      yes_so = λ e. rw (eqb-true (n % 2) 0 e);
      not_so = λ e f. let z = eqb-false (n % 2) 0 e in let y = eqb-false (n % 2) 1 f in omega arith;
    }

pub tells_and : {s t : Bool} {C D : Type 0} → Tells s C → Tells t D → Tells (s && t) (C × D)
tells_and {s} {t} p q =
    record {
      yes_so = λ e. let x = both_true s t e in (p.yes_so x.0, q.yes_so x.1);
      not_so = λ e c. elim (one_false s t e) [ inl x ↦ p.not_so x c.0 | inr y ↦ q.not_so y c.1 ];
    }

pub tells_or : {s t : Bool} {C D : Type 0} → Tells s C → Tells t D → Tells (s || t) (C ⊎ D)
tells_or {s} {t} p q =
    record {
      yes_so = λ e. elim (one_true s t e) [ inl x ↦ inl (p.yes_so x) | inr y ↦ inr (q.yes_so y) ];
      not_so = λ e c. let x = both_false s t e in elim c [ inl a ↦ p.not_so x.0 a | inr b ↦ q.not_so x.1 b ];
    }

pub tells_not : {t : Bool} {C : Type 0} → Tells t C → Tells (not t) (C → ⊥)
tells_not {t} p = record { yes_so = λ e. p.not_so (not-true t e); not_so = λ e c. c (p.yes_so (not-false t e)) }

pub tells_as : {t : Bool} {C D : Type 0} → Tells t C → (C → D) → (D → C) → Tells t D
tells_as p f g = record { yes_so = λ e. f (p.yes_so e); not_so = λ e d. p.not_so e (g d) }

-- the same test
pub tells_is : {s t : Bool} {C : Type 0} → s ≡ t → Tells t C → Tells s C
tells_is e p = record { yes_so = λ x. p.yes_so (sym e ∙ x); not_so = λ x. p.not_so (sym e ∙ x) }

-- ---- the ladder

-- a test, and the rule that it tells
pub record Rung : Type 1 where
  pub test : Bool
  pub rule : Rule
  pub tells : Tells test rule.applies

abbrev pub rung : {t : Bool} {C : Type 0} → ℕ → Tells t C → Rung
rung {t} {C} n p = record { test = t; rule = by n C; tells = p }

-- the number of the first test that is true, or m
abbrev pub number_on : List Rung → ℕ → ℕ
number_on [] m = m
number_on (r ∷ rs) m = cond r.test r.rule.number (number_on rs m)

abbrev pub rules_of : List Rung → List Rule → List Rule
rules_of [] rest = rest
rules_of (r ∷ rs) rest = r.rule ∷ rules_of rs rest

pub ladder : (rs : List Rung) (rest : List Rule) (m : ℕ) → Refuses rest m → Refuses (rules_of rs rest) (number_on rs m)
ladder [] rest m w = w
ladder (r ∷ rs) rest m w = go r.test r.tells (ladder rs rest m w)
  where
    go : (t : Bool) → Tells t r.rule.applies → Refuses (rules_of rs rest) (number_on rs m) → Refuses (rules_of (r ∷ rs) rest) (cond t r.rule.number (number_on rs m))
    go true p below = inl (p.yes_so refl, refl)
    go false p below = inr (p.not_so refl, below)

-- one number alone is that of the first rule that applies
pub refuses_one : (rs : List Rule) (m n : ℕ) → Refuses rs m → Refuses rs n → m ≡ n
refuses_one [] m n w v = w ∙ sym v
refuses_one (r ∷ rs) m n (inl w) (inl v) = w.1 ∙ sym v.1
refuses_one (r ∷ rs) m n (inl w) (inr v) = absurd (v.0 w.0)
refuses_one (r ∷ rs) m n (inr w) (inl v) = absurd (w.0 v.0)
refuses_one (r ∷ rs) m n (inr w) (inr v) = refuses_one rs m n w.1 v.1

-- ---- a number, or another where it is 0

pub both_zero : (a b : ℕ) → or_else a b ≡ 0 → (a ≡ 0) × (b ≡ 0)
unfolding or_else
both_zero a b = go (eqb a 0) refl
  where
    go : (t : Bool) → eqb a 0 ≡ t → cond t b a ≡ 0 → (a ≡ 0) × (b ≡ 0)
    go true t e = (eqb-true a 0 t, e)
    go false t e = absurd (eqb-false a 0 t e)

-- no rung's number is 0
abbrev pub Numbered : List Rung → Type 0
Numbered [] = Unit {0}
Numbered (r ∷ rs) = (eqb r.rule.number 0 ≡ false) × Numbered rs

-- one rung before the others
rung_then : (t : Bool) (k x y m : ℕ) → eqb k 0 ≡ false → cond (eqb x 0) m x ≡ y → cond (eqb (cond t k x) 0) m (cond t k x) ≡ cond t k y
rung_then true k x y m some e = rw some
rung_then false k x y m some e = e

numbers_then : (rs : List Rung) → Numbered rs → (m : ℕ) → cond (eqb (number_on rs 0) 0) m (number_on rs 0) ≡ number_on rs m
numbers_then [] n m = refl
numbers_then (r ∷ rs) n m = rung_then r.test r.rule.number (number_on rs 0) (number_on rs m) m n.0 (numbers_then rs n.1 m)

-- a ladder, and after it the number of other rules
pub ladder_then : (rs : List Rung) → Numbered rs → (rest : List Rule) (m : ℕ) → Refuses rest m → Refuses (rules_of rs rest) (or_else (number_on rs 0) m)
unfolding or_else
ladder_then rs n rest m w = subst (Refuses (rules_of rs rest)) (sym (numbers_then rs n m)) (ladder rs rest m w)

-- ---- rules that do not apply

-- none of these rules applies where the number is n
abbrev pub Passes : List Rule → ℕ → Type 0
Passes [] n = Unit {0}
Passes (r ∷ rs) n = (r.applies → n ≡ r.number → ⊥) × Passes rs n

pub past : (earlier later : List Rule) (n : ℕ) → Passes earlier n → Refuses (earlier ++ later) n → Refuses later n
past [] later n p w = w
past (r ∷ rs) later n p (inl w) = absurd (p.0 w.0 w.1)
past (r ∷ rs) later n p (inr w) = past rs later n p.1 w.1
