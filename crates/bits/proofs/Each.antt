-- A proof for each element of a list, as pairs in a row. Assumes nothing.

infixr 40 ◌⊗◌
abbrev pub ◌⊗◌ : {A B : Type 0} → A → B → A × B
a ⊗ b = (a, b)
