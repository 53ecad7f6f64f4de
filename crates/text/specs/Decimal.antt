-- Numbers as decimal digits, right in columns (document 02, N2). Assumes nothing.
use Rattle.std.specs.Prelude.{ℕ, zero, suc, ◌+◌, ◌-◌, ◌*◌, ◌/◌, ◌%◌, ◌^◌, ◌≤◌, ◌<◌, ◌≡◌, ◌≢◌, cond, List, [], ◌∷◌, ◌++◌, eqb, leb, length, get_or, replicate}
use Prim.Native.Char.{code}

-- the column of a place, which is a power of ten: the digit there, or a blank where the number is below the place
unfoldable pub decimal_column : ℕ → ℕ → ℕ
decimal_column place n = cond (leb place n) (code "0" + n / place % 10) (code " ")

-- a number below 10 ^ k right in k columns; the last always has a digit
abbrev pub decimal_in : ℕ → ℕ → List ℕ
decimal_in zero n = []
decimal_in (suc k) n = cond (eqb k 0) (code "0" + n % 10) (decimal_column (10 ^ k) n) ∷ decimal_in k n

-- ---- what a reader makes of columns

-- the number that digits spell after those of acc; blanks count for nothing
unfoldable pub decimal_number : ℕ → List ℕ → ℕ
decimal_number acc [] = acc
decimal_number acc (b ∷ rest) = decimal_number (cond (eqb b (code " ")) acc (acc * 10 + (b - code "0"))) rest

-- the text has k columns: blanks, and then at least one digit, of which the first is no zero unless it is the only one; they spell n
pub record RightIn (k n : ℕ) (text : List ℕ) : Type 0 where
  pub columns : length text ≡ k
  pub spells : decimal_number 0 text ≡ n
  pub blanks : ℕ
  pub digits : List ℕ
  pub parts : text ≡ replicate blanks (code " ") ++ digits
  pub least : 1 ≤ length digits
  pub decimal : (i : ℕ) → i < length digits → (code "0" ≤ get_or digits i 0) × (get_or digits i 0 ≤ code "9")
  pub first : 1 < length digits → get_or digits 0 0 ≢ code "0"
