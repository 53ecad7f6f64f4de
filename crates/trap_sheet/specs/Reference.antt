-- The trap sheet as a reader takes it: which lists of runs are those of the frames, in ≤ and ≡ alone; what a line says, by its columns; and what the call answers for
-- such lists. It shares with `trap_sheet` the intercepts, `Run`, the record of the answer and `ascii`, and nothing of runs, totals and lines. The call answers so
-- (`answers` of proofs/AnswerLaws.antt), and one answer alone is so (proofs/OnlyAnswer.antt). Assumes nothing.
use Rattle.std.specs.Prelude.{ℕ, ◌+◌, ◌-◌, ◌*◌, ◌≤◌, ◌<◌, ◌≡◌, Bool, true, false, cond, Some, List, [], ◌∷◌, leb, length, take, drop, replicate}
use Prim.Native.Char.{code}
use Rattle.structs.specs.Frames.{port_intercept, msr_intercept}
use Rattle.structs.specs.Numbers.{IsPort, IsMsr}
use Rattle.structs.specs.declared.Access.TheVariants.{Read, Write}
use Rattle.text.specs.Ascii.{ascii}
use Rattle.text.specs.Hex.{hex_number}
use Rattle.text.specs.Decimal.{RightIn}
use Rattle.trap_sheet.specs.Runs.{Run}
use Rattle.trap_sheet.specs.Sheet.{TrapSheet}

-- ---- runs

-- how many of the runs hold item n
abbrev pub holding : ℕ → List Run → ℕ
holding n [] = 0
holding n (r ∷ rs) = cond (leb r.first n) (cond (leb n r.last) 1 0) 0 + holding n rs

-- each run starts at or past `from` and is not empty; the next one starts at least two past its last item
abbrev pub Ascending : ℕ → List Run → Type 0
Ascending from [] = Unit {0}
Ascending from (r ∷ rs) = (from ≤ r.first) × (r.first ≤ r.last) × Ascending (r.last + 2) rs

-- rs are the runs of the items within the ranges that are trapped: each lies in exactly one run and nothing else in any, and no two runs are adjacent.
-- One list alone is so (`only` of proofs/RangeLaws.antt)
pub record IsRuns (Item : ℕ → Type 0) (trapped : ℕ → Bool) (rs : List Run) : Type 0 where
  pub set : (n : ℕ) → Item n → trapped n ≡ true → holding n rs ≡ 1
  pub clear : (n : ℕ) → Item n → trapped n ≡ false → holding n rs ≡ 0
  pub outside : (n : ℕ) → (Item n → ⊥) → holding n rs ≡ 0
  pub ascending : Ascending 0 rs

-- p, r and w are the runs of ports, of reads and of writes of MSRs that the frames trap
pub record FrameRuns (a b msr : List ℕ) (p r w : List Run) : Type 0 where
  pub ports : IsRuns IsPort (port_intercept a b) p
  pub reads : IsRuns IsMsr (msr_intercept msr Read) r
  pub writes : IsRuns IsMsr (msr_intercept msr Write) w

-- how many items runs hold
abbrev pub items_of : List Run → ℕ
items_of [] = 0
items_of (r ∷ rs) = r.last - r.first + 1 + items_of rs

-- ---- lines

-- k columns of a line, from column i on
abbrev pub columns : ℕ → ℕ → List ℕ → List ℕ
columns i k line = take k (drop i line)

-- kind, first, last and length, each in its columns
pub record RunText (name : List ℕ) (r : Run) (line : List ℕ) : Type 0 where
  pub kind : columns 0 4 line ≡ name
  pub blanks : (columns 4 2 line ≡ ascii "  ") × (columns 14 2 line ≡ ascii "  ") × (columns 24 2 line ≡ ascii "  ")
  pub first : hex_number 0 (columns 6 8 line) ≡ Some r.first
  pub last : hex_number 0 (columns 16 8 line) ≡ Some r.last
  pub count : RightIn 14 (r.last - r.first + 1) (columns 26 14 line)
  pub feed : drop 40 line ≡ ascii "\n"

-- kind and number alone
pub record TotalText (name : List ℕ) (n : ℕ) (line : List ℕ) : Type 0 where
  pub kind : columns 0 4 line ≡ name
  pub blanks : columns 4 22 line ≡ replicate 22 (code " ")
  pub count : RightIn 14 n (columns 26 14 line)
  pub feed : drop 40 line ≡ ascii "\n"

-- ---- the call

abbrev pub line_at : ℕ → List ℕ → List ℕ
line_at i text = columns (41 * i) 41 text

-- from line `from` on a text has a line for each run, in order
abbrev pub RunsAt : List ℕ → ℕ → List Run → List ℕ → Type 0
RunsAt name from [] text = Unit {0}
RunsAt name from (r ∷ rs) text = RunText name r (line_at from text) × RunsAt name (from + 1) rs text

abbrev pub FrameLengths : List ℕ → List ℕ → List ℕ → Type 0
FrameLengths a b msr = (length a ≡ 4096) × (length b ≡ 4096) × (length msr ≡ 4096)

-- three lines, and one for each run of ports (p), of reads (r) and of writes (w)
abbrev pub sheet_length : List Run → List Run → List Run → ℕ
sheet_length p r w = 41 * (3 + length p + length r + length w)

-- an accepted call
pub record Accepted (output : List ℕ) (p r w : List Run) (answer : TrapSheet) : Type 0 where
  pub number : answer.refusal ≡ 0
  pub size : answer.size ≡ sheet_length p r w
  pub most : answer.size ≤ 2015355
  pub length_kept : length answer.output ≡ length output
  pub bytes_kept : drop answer.size answer.output ≡ drop answer.size output
  pub total_ports : TotalText (ascii "port") (items_of p) (line_at 0 answer.output)
  pub total_reads : TotalText (ascii "read") (items_of r) (line_at 1 answer.output)
  pub total_writes : TotalText (ascii "writ") (items_of w) (line_at 2 answer.output)
  pub ports : RunsAt (ascii "port") 3 p answer.output
  pub reads : RunsAt (ascii "read") (3 + length p) r answer.output
  pub writes : RunsAt (ascii "writ") (3 + length p + length r) w answer.output

-- the call on frames whose ports, reads and writes have the runs p, r, w
pub record Answers (a b msr output : List ℕ) (size : ℕ) (p r w : List Run) (answer : TrapSheet) : Type 0 where
  pub frames : (FrameLengths a b msr → ⊥) → answer ≡ record { refusal = 2; output = output; size = size }
  pub room : FrameLengths a b msr → length output < sheet_length p r w → answer ≡ record { refusal = 24; output = output; size = size }
  pub accepted : FrameLengths a b msr → sheet_length p r w ≤ length output → Accepted output p r w answer
