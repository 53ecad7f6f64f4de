-- An input that is longer than the frames is refused. Assumes nothing.
use Rattle.std.proofs.Common.{◌≡◌, ℕ, ◌≤◌, List, arith, length}
use borrow.Author.Tests.{ne_eqb}
use Rattle.text.specs.Ascii.{ascii}
use Rattle.trap_sheet_io.specs.Printed.{printed_for}

pub longer_refused : (input : List ℕ) → 12289 ≤ length input → printed_for input ≡ ascii "refused 2\n"
unfolding printed_for
longer_refused input h = let other : length input ≡ 12288 → ⊥ = λ e. omega arith in rw (ne_eqb (length input) 12288 other)
