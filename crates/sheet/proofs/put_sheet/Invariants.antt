use mathlib.Core.List.{flat_map}
use Rattle.text.proofs.WritingLaws.{Putting}
use Rattle.sheet.specs.Line.{printed_line}
use Rattle.sheet.specs.Sheet.{sheet_of}
use Rattle.sheet.specs.Left.{left}
use Rattle.sheet.proofs.put_sheet.Given as goal

-- what is printed for the lines that the iterator has left is still to be put
abbrev pub invariant-loop-line : goal.invariant-loop-line
invariant-loop-line l = Putting (sheet_of l.input) (flat_map printed_line (left l.line-iterator)) l.fn.output l.output
