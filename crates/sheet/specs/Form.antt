-- The lines that document 01 describes, and what it prints for a line ("Worked by hand"). The definitions read a line by position:
-- `prints` of proofs/FormLaws.antt shows that this is the same. Assumes nothing.
use Rattle.std.specs.Prelude.{ℕ, ◌^◌, ◌≤◌, ◌<◌, ◌≡◌, true, List, ◌++◌, length}
use Rattle.vmcs.specs.Control.{set_control}
use Rattle.text.specs.Ascii.{ascii}
use Rattle.text.specs.Hex.{hex_digits}
use Rattle.sheet.specs.Line.{only_letters, answer_text, bad_text}

-- a word of a line, after the tab that parts it from what stands before it
abbrev pub word_text : ℕ → List ℕ
word_text w = ascii "\t" ++ hex_digits 8 w

abbrev pub case_line : List ℕ → ℕ → ℕ → ℕ → ℕ → ℕ → List ℕ
case_line name allowed0 allowed1 old set clear =
    name ++ (word_text allowed0 ++ (word_text allowed1 ++ (word_text old ++ (word_text set ++ word_text clear))))

-- the line is a name of 1 to 16 small letters and five words of 32 bits
pub record IsCase (line name : List ℕ) (allowed0 allowed1 old set clear : ℕ) : Type 0 where
  pub letters : only_letters name ≡ true
  pub least : 1 ≤ length name
  pub most : length name ≤ 16
  pub words : (allowed0 < 2 ^ 32) × (allowed1 < 2 ^ 32) × (old < 2 ^ 32) × (set < 2 ^ 32) × (clear < 2 ^ 32)
  pub text : line ≡ case_line name allowed0 allowed1 old set clear

-- for such a line the name and the answer are printed, and for any other line `bad`
pub record Prints (line printed : List ℕ) : Type 0 where
  pub case : (name : List ℕ) (allowed0 allowed1 old set clear : ℕ) → IsCase line name allowed0 allowed1 old set clear
      → printed ≡ name ++ answer_text (set_control 32 allowed0 allowed1 old set clear)
  pub other : ((name : List ℕ) (allowed0 allowed1 old set clear : ℕ) → IsCase line name allowed0 allowed1 old set clear → ⊥)
      → printed ≡ bad_text
