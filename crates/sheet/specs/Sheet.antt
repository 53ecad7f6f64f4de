-- The whole text: its lines, and what is printed for them (document 01, "Worked by hand"). Assumes nothing.
use Rattle.std.specs.Prelude.{ℕ, suc, cond, ltb, eqb, length}
use Prim.Native.Char.{code}
use mathlib.Core.List.{List, [], ◌∷◌, flat_map}
use Rattle.text.specs.Ascii.{ascii}
use Rattle.sheet.specs.Line.{printed_line}

-- the lines with a byte before the first
abbrev pub before : ℕ → List (List ℕ) → List (List ℕ)
before b [] = (b ∷ []) ∷ []
before b (line ∷ lines) = (b ∷ line) ∷ lines

-- each line ends at a line feed; the last may lack it
unfoldable pub lines_of : List ℕ → List (List ℕ)
lines_of [] = []
lines_of (b ∷ rest) = cond (eqb b (code "\n")) ([] ∷ lines_of rest) (before b (lines_of rest))

unfoldable pub printed_lines : List ℕ → List ℕ
printed_lines text = flat_map printed_line (lines_of text)

abbrev pub too_long : List ℕ
too_long = ascii "too long\n"

-- all that the program prints for a text
unfoldable pub sheet_of : List ℕ → List ℕ
sheet_of text = cond (ltb 65536 (length text)) too_long (printed_lines text)

-- how many bytes stand before the first line feed
unfoldable pub line_length : List ℕ → ℕ
line_length [] = 0
line_length (b ∷ rest) = cond (eqb b (code "\n")) 0 (suc (line_length rest))
