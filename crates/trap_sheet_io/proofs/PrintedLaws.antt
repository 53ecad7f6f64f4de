-- What is printed for an input that has the frames' length, and for any other. Assumes nothing.
use Prim.Native.Nat.{ℕ, ◌+◌, ◌≤◌}
use mathlib.Core.Path.{◌≡◌, ap}
use mathlib.Core.List.{List, ◌++◌}
use mathlib.Core.Logic.{◌≢◌}
use native.Mathlib.Omega.{arith}
use borrow.Author.Tests.{eq-eqb, ne_eqb}
use lib.ListN.{length, take, drop, length-take, length-drop}
use Rattle.std.proofs.Common.{sym}
use lib.Seq.{drop-drop}
use Rattle.text.specs.Ascii.{ascii}
use Rattle.text.specs.Put.{put_at}
use Rattle.text.proofs.PutLaws.{put_first}
use Rattle.trap_sheet.specs.Sheet.{sheet_of}
use Rattle.trap_sheet.proofs.LineLaws.{sheet_most}
use Rattle.trap_sheet_io.specs.Printed.{printed_for}

-- r bytes of d₁ are the text, and the others are those of d
abbrev Printed : List ℕ → List ℕ → List ℕ → ℕ → Type 0
Printed text d d₁ r = (r ≡ length text) × (d₁ ≡ text ++ drop r d)

pub printed_refused : (s d d₁ : List ℕ) (r : ℕ) → length s ≢ 12288 → r ≡ 0 + length (ascii "refused 2\n") → d₁ ≡ put_at d 0 (ascii "refused 2\n") → Printed (printed_for s) d d₁ r
unfolding printed_for
printed_refused s d d₁ r h l p = rw (ne_eqb (length s) 12288 h) (put_first d d₁ (ascii "refused 2\n") r l p)

-- the frames as parts of the input: they have their lengths, the output has room, and their sheet is what is printed
module _ (s d a b msr : List ℕ) (h : length s ≡ 12288) (l : length d ≡ 2015355) (p : a ≡ take 4096 s) (q : b ≡ take 4096 (drop 4096 s)) (r : msr ≡ drop 4096 (drop 4096 s)) where
  pub a_length : length a ≡ 4096
  a_length = rw (p, length-take 4096 s) (omega arith)

  pub b_length : length b ≡ 4096
  b_length = rw (q, length-take 4096 (drop 4096 s), length-drop 4096 s) (omega arith)

  pub msr_length : length msr ≡ 4096
  msr_length = rw (r, length-drop 4096 (drop 4096 s), length-drop 4096 s) (omega arith)

  pub room : length (sheet_of a b msr) ≤ length d
  room = omega (arith, sheet_most a b msr)

  pub printed_sheet : printed_for s ≡ sheet_of a b msr
  unfolding printed_for
  printed_sheet = rw (eq-eqb (length s) 12288 h, p, q, r) (ap (sheet_of (take 4096 s) (take 4096 (drop 4096 s))) (sym (drop-drop 4096 4096 s)))
