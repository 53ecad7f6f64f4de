-- The sheet of document 01's example is the one that it prints. Assumes nothing.
use mathlib.Core.Path.{◌≡◌, refl}
use mathlib.Core.List.{flat_map}
use Rattle.vmcs.specs.Control.{control_word, set_control}
use Rattle.text.specs.Hex.{hex_digit, digit_value, and_then, hex_number}
use Rattle.sheet.specs.Line.{only_letters, word_at, words_from, case_of, answer_text, printed_line}
use Rattle.sheet.specs.Sheet.{lines_of, printed_lines, sheet_of}
use Rattle.sheet.specs.Example.{example_input, example_output}

pub example : sheet_of example_input ≡ example_output
unfolding sheet_of printed_lines lines_of flat_map printed_line answer_text case_of words_from and_then word_at only_letters hex_number digit_value hex_digit set_control control_word
example = refl
