-- What the program trapsheet prints (document 02, N2). Assumes nothing.
use Rattle.std.specs.Prelude.{ℕ, not, cond, List, eqb, length, take, drop}
use Rattle.text.specs.Ascii.{ascii}
use Rattle.trap_sheet.specs.Sheet.{sheet_of}

-- the sheet of the frames A, B and MSR, one behind the other; an input of any other length is refused
unfoldable pub printed_for : List ℕ → List ℕ
printed_for input =
    cond (not (eqb (length input) 12288)) (ascii "refused 2\n")
    (sheet_of (take 4096 input) (take 4096 (drop 4096 input)) (drop 8192 input))
