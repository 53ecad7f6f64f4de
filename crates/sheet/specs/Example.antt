-- The example of document 01: P1 and P2, named pin and clash. proofs/Example.antt shows that the sheet of the one is the other.
-- Assumes nothing.
use Rattle.std.specs.Prelude.{ℕ, List, ◌++◌}
use Rattle.text.specs.Ascii.{ascii}

abbrev pub example_input : List ℕ
example_input =
    ascii "pin\t00000016\t0000007f\t00000016\t00000009\t00000000\n"
    ++ ascii "clash\t00000016\t0000007f\t00000016\t00000001\t00000001\n"

abbrev pub example_output : List ℕ
example_output = ascii "pin\t0000001f\n" ++ ascii "clash\trefused 7\n"
