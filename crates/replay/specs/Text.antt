-- The text of lists: each is a comment, and then a case to a line, small hexadecimal numbers parted by blanks. Assumes nothing.
use Rattle.std.specs.Prelude.{◌≡◌, ℕ, suc, ◌+◌, ◌*◌, ◌/◌, ◌%◌, ◌^◌, ◌≤◌, min, max, cond, List, [], ◌∷◌, ltb, eqb, length, take, drop, Option, MatchOption}
use Prim.Native.Char.{code}
use Rattle.replay.specs.declared.text.Number.{Number}
use Rattle.replay.specs.declared.text.Case.{Case}
use Rattle.replay.specs.declared.text.Line.{Line}
use Rattle.replay.specs.declared.text.Lines.{Lines}

-- the value of a digit: letters, and no decimal digits, have bit 6
abbrev pub digit_value : ℕ → ℕ
digit_value b = (b % 16 + b / 64 * 9) % 16

-- the number that digits spell after those of value, and the place after them and a blank; the digits stand from a place on
unfoldable pub number_from : ℕ → ℕ → List ℕ → Number
number_from value at [] = record { value = value; next = at }
number_from value at (b ∷ rest) =
    cond (ltb b (code "0"))
    (cond (eqb b (code " ")) (record { value = value; next = at + 1 }) (record { value = value; next = at }))
    (number_from (value % 2 ^ 60 * 16 + digit_value b) (at + 1) rest)

abbrev pub number_at : List ℕ → ℕ → Number
number_at text at = number_from 0 at (drop at text)

-- the place after a byte, if the text is longer than that place
abbrev pub after_byte : ℕ → ℕ → ℕ
after_byte size at = max at (min (at + 1) size)

-- eight numbers, and the place after the byte that ends their line
unfoldable pub case_at : List ℕ → ℕ → Case
case_at text at =
    let a = number_at text at in
    let b = number_at text a.next in
    let c = number_at text b.next in
    let d = number_at text c.next in
    let e = number_at text d.next in
    let f = number_at text e.next in
    let g = number_at text f.next in
    let h = number_at text g.next in
    record {
      numbers = a.value ∷ b.value ∷ c.value ∷ d.value ∷ e.value ∷ f.value ∷ g.value ∷ h.value ∷ [];
      next = after_byte (length text) h.next;
    }

-- the place after the first line feed
unfoldable pub line_end : List ℕ → ℕ
line_end [] = 0
line_end (b ∷ rest) = cond (eqb b (code "\n")) 1 (suc (line_end rest))

-- `text[..n]` is in bounds and has n bytes
abbrev pub IsPrefixLen : ℕ → List ℕ → Type 0
IsPrefixLen n text = (n ≤ length text) × (n ≡ length (take n text))

-- the line at a place, and the place after it: a comment goes on to its line feed, and is that line; a case is its numbers
abbrev pub IsLine : List ℕ → ℕ → Line → ℕ → Type 0
IsLine text at (Line.Comment c) next = (next ≡ at + line_end (drop at text)) × (c.now ≡ take (line_end (drop at text)) (drop at text))
IsLine text at (Line.Case numbers) next = (next ≡ (case_at text at).next) × (numbers ≡ (case_at text at).numbers)

-- a call gave the line at the place, and went on to the place after it; or the text ended there
abbrev pub StepsLine : Lines → Option Line → Lines → Type 0
StepsLine old line new = MatchOption line (length old.text.now ≤ old.at) (λ l. IsLine old.text.now old.at l new.at × (new.text.now ≡ old.text.now))
