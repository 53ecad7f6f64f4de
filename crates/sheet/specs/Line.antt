-- One line: what it says, read by position, and the line that is printed for it (document 01, "Worked by hand"). Assumes nothing.
use Rattle.std.specs.Prelude.{ℕ, ◌+◌, ◌-◌, ◌%◌, Bool, true, false, cond, List, [], ◌∷◌, ◌++◌, ltb, eqb, length, get_or, take, drop, Option, None, Some, Result, Ok, Err}
use Prim.Native.Char.{code}
use Rattle.vmcs.specs.Control.{set_control}
use Rattle.text.specs.Ascii.{ascii}
use Rattle.text.specs.Hex.{hex_digits, and_then, hex_number}
use Rattle.sheet.specs.declared.line.Words.{Words}

-- small letters alone
unfoldable pub only_letters : List ℕ → Bool
only_letters [] = true
only_letters (b ∷ rest) = cond (ltb b (code "a")) false (cond (ltb (code "z") b) false (only_letters rest))

-- the word at a place: a tab and eight digits
unfoldable pub word_at : List ℕ → ℕ → Option ℕ
word_at line at = cond (eqb (get_or line at 0) (code "\t")) (hex_number 0 (take 8 (drop (at + 1) line))) None

-- the five words after a name of n bytes; a line with a malformed word is bad
unfoldable pub words_from : List ℕ → ℕ → Option Words
words_from line n =
    and_then (word_at line n) (λ allowed0.
    and_then (word_at line (n + 9)) (λ allowed1.
    and_then (word_at line (n + 18)) (λ old.
    and_then (word_at line (n + 27)) (λ set.
    and_then (word_at line (n + 36)) (λ clear.
    Some (record { name = n; allowed0 = allowed0; allowed1 = allowed1; old = old; set = set; clear = clear }))))))

-- the words take the last 45 bytes, nine each; the name, 1 to 16 letters, is what stands before them
unfoldable pub case_of : List ℕ → Option Words
case_of line =
    cond (ltb (length line) 46) None
    (cond (ltb 61 (length line)) None
    (cond (only_letters (take (length line - 45) line)) (words_from line (length line - 45))
    None))

-- after the name: a tab, and the word or `refused N`; N has one digit (`refusal_digit` of proofs/LineLaws.antt)
unfoldable pub answer_text : Result ℕ ℕ → List ℕ
answer_text (Ok w) = ascii "\t" ++ (hex_digits 8 w ++ ascii "\n")
answer_text (Err n) = ascii "\trefused " ++ ((code "0" + n % 10) ∷ ascii "\n")

abbrev pub bad_text : List ℕ
bad_text = ascii "-\tbad\n"

-- what is printed for a line that says so much
abbrev pub case_text : List ℕ → Option Words → List ℕ
case_text line (Some w) = take w.name line ++ answer_text (set_control 32 w.allowed0 w.allowed1 w.old w.set w.clear)
case_text line None = bad_text

-- what is printed for a line, with its line feed
unfoldable pub printed_line : List ℕ → List ℕ
printed_line line = case_text line (case_of line)
