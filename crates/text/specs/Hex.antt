-- Numbers as small hexadecimal digits, and back (document 01, "Worked by hand"). Assumes nothing.
use Rattle.std.specs.Prelude.{ℕ, zero, suc, ◌+◌, ◌-◌, ◌*◌, ◌/◌, ◌%◌, ◌^◌, cond, List, [], ◌∷◌, ltb, leb, Option, None, Some}
use Prim.Native.Char.{code}

-- the digit of a number below 16
unfoldable pub hex_digit : ℕ → ℕ
hex_digit d = cond (ltb d 10) (code "0" + d) (code "a" + (d - 10))

-- the last k digits of a number, the highest first
abbrev pub hex_digits : ℕ → ℕ → List ℕ
hex_digits zero n = []
hex_digits (suc k) n = hex_digit (n / 16 ^ k % 16) ∷ hex_digits k n

-- the value of a digit; any other byte has none
unfoldable pub digit_value : ℕ → Option ℕ
digit_value b =
    cond (ltb b (code "0")) None
    (cond (leb b (code "9")) (Some (b - code "0"))
    (cond (ltb b (code "a")) None
    (cond (leb b (code "f")) (Some (b - code "a" + 10))
    None)))

-- goes on with a number where there is one
unfoldable pub and_then : {A : Type 0} → Option ℕ → (ℕ → Option A) → Option A
and_then None f = None
and_then (Some x) f = f x

-- the number that digits spell after those of acc
unfoldable pub hex_number : ℕ → List ℕ → Option ℕ
hex_number acc [] = Some acc
hex_number acc (b ∷ rest) = and_then (digit_value b) (λ v. hex_number (acc * 16 + v) rest)
