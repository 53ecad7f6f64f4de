-- Choices by a test and by a decision. Assumes nothing.
use mathlib.Core.Path.{◌≡◌, refl}
use mathlib.Core.Bool.{Bool, true, false, cond, false≢true}
use Rattle.calls.specs.Reference.{choose}

pub impossible : {A : Type 0} → false ≡ true → A
impossible e = absurd (false≢true e)

-- a test and a decision of one thing choose alike
pub chosen : {P A : Type 0} (d : Dec P) (b : Bool) (x y : A) → (b ≡ true → P) → (b ≡ false → P → ⊥) → cond b x y ≡ choose d x y
chosen (yes p) true x y f g = refl
chosen (yes p) false x y f g = absurd (g refl p)
chosen (no n) true x y f g = absurd (n (f refl))
chosen (no n) false x y f g = refl

pub choose_yes : {P A : Type 0} (d : Dec P) (x y : A) → P → choose d x y ≡ x
choose_yes (yes p) x y h = refl
choose_yes (no n) x y h = absurd (n h)

pub choose_no : {P A : Type 0} (d : Dec P) (x y : A) → (P → ⊥) → choose d x y ≡ y
choose_no (yes p) x y h = absurd (h p)
choose_no (no n) x y h = refl

pub choose_all : {P A : Type 0} (Q : A → Type 0) (d : Dec P) (x y : A) → Q x → Q y → Q (choose d x y)
choose_all Q (yes p) x y a b = a
choose_all Q (no n) x y a b = b

-- a function of a choice
pub choose_ap : {P A B : Type 0} (f : A → B) (d : Dec P) (x y : A) → f (choose d x y) ≡ choose d (f x) (f y)
choose_ap f (yes p) x y = refl
choose_ap f (no n) x y = refl
