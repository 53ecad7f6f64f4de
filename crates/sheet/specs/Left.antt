-- What the iterator of lines has left. Assumes nothing.
use Rattle.std.specs.Prelude.{ℕ, List}
use Rattle.sheet.specs.declared.lines.Lines.{Lines}
use Rattle.sheet.specs.Sheet.{lines_of}

abbrev pub left : Lines → List (List ℕ)
left s = lines_of s.rest.now
