-- The trap sheet (document 02, N2): which ports and which accesses to MSRs the three frames trap, as text. The intercepts are those that the edits of
-- `structs` write. Assumes nothing.
use Rattle.std.specs.Prelude.{ℕ, ◌+◌, ◌-◌, Bool, not, cond, eqb, ltb, length, drop, replicate}
use Prim.Native.Char.{code}
use mathlib.Core.List.{List, [], ◌∷◌, ◌++◌, flat_map}
use Rattle.structs.specs.Frames.{port_intercept, msr_intercept}
use Rattle.structs.specs.declared.Access.TheVariants.{Read, Write}
use Rattle.text.specs.Ascii.{ascii}
use Rattle.text.specs.Decimal.{decimal_in}
use Rattle.text.specs.Hex.{hex_digits}
use Rattle.trap_sheet.specs.Runs.{Run, count_of, runs_of}

-- ---- what is on the sheet

-- items that are numbered one after the other
pub record Range : Type 0 where
  pub first : ℕ
  pub count : ℕ

-- a kind of items: its name on the sheet, whether an item is trapped, and the ranges of its items
pub record Kind : Type 0 where
  pub name : List ℕ
  pub trapped : ℕ → Bool
  pub ranges : List Range

-- ports are one range over both I/O frames; the low and the high MSRs are two
abbrev pub ports : List Range
ports = record { first = 0; count = 0x1_0000 } ∷ []

abbrev pub msrs : List Range
msrs = record { first = 0; count = 0x2000 } ∷ record { first = 0xC000_0000; count = 0x2000 } ∷ []

abbrev pub port_kind : List ℕ → List ℕ → Kind
port_kind a b = record { name = ascii "port"; trapped = port_intercept a b; ranges = ports }

abbrev pub read_kind : List ℕ → Kind
read_kind msr = record { name = ascii "read"; trapped = msr_intercept msr Read; ranges = msrs }

abbrev pub write_kind : List ℕ → Kind
write_kind msr = record { name = ascii "writ"; trapped = msr_intercept msr Write; ranges = msrs }

-- the kinds in the order of the sheet
abbrev pub kinds : List ℕ → List ℕ → List ℕ → List Kind
kinds a b msr = port_kind a b ∷ read_kind msr ∷ write_kind msr ∷ []

-- how many items of a kind are trapped
abbrev pub total_in : (ℕ → Bool) → List Range → ℕ
total_in t [] = 0
total_in t (r ∷ rs) = count_of t r.first r.count + total_in t rs

-- the runs of trapped items; a run lies in one range
abbrev pub runs_in : (ℕ → Bool) → List Range → List Run
runs_in t [] = []
runs_in t (r ∷ rs) = runs_of t r.first r.count ++ runs_in t rs

abbrev pub kind_total : Kind → ℕ
kind_total k = total_in k.trapped k.ranges

abbrev pub kind_runs : Kind → List Run
kind_runs k = runs_in k.trapped k.ranges

-- ---- its lines: 40 columns and a line feed

-- an item in 8 hexadecimal digits
abbrev pub item_text : ℕ → List ℕ
item_text n = ascii "  " ++ hex_digits 8 n

-- a number right in 14 columns, the last ones
abbrev pub number_text : ℕ → List ℕ
number_text n = ascii "  " ++ decimal_in 14 n ++ ascii "\n"

abbrev pub total_line : List ℕ → ℕ → List ℕ
total_line name n = name ++ replicate 20 (code " ") ++ number_text n

abbrev pub run_line : List ℕ → Run → List ℕ
run_line name r = name ++ item_text r.first ++ item_text r.last ++ number_text (r.last - r.first + 1)

abbrev pub total_line_of : Kind → List ℕ
total_line_of k = total_line k.name (kind_total k)

abbrev pub run_lines_of : Kind → List ℕ
run_lines_of k = flat_map (run_line k.name) (kind_runs k)

abbrev pub total_lines : List ℕ → List ℕ → List ℕ → List ℕ
total_lines a b msr = flat_map total_line_of (kinds a b msr)

-- the totals of all kinds, and then the runs of each
unfoldable pub sheet_of : List ℕ → List ℕ → List ℕ → List ℕ
sheet_of a b msr = total_lines a b msr ++ flat_map run_lines_of (kinds a b msr)

-- ---- the call

-- the number, the output and the length as the call leaves them
pub record TrapSheet : Type 0 where
  pub refusal : ℕ
  pub output : List ℕ
  pub size : ℕ

-- 2: a frame is not 4,096 bytes. 24: the output is shorter than the sheet. Accepted, the sheet stands at the output's start, and every byte past it is kept
unfoldable pub trap_sheet : List ℕ → List ℕ → List ℕ → List ℕ → ℕ → TrapSheet
trap_sheet a b msr output size =
    cond (not (eqb (length a) 4096)) (record { refusal = 2; output = output; size = size })
    (cond (not (eqb (length b) 4096)) (record { refusal = 2; output = output; size = size })
    (cond (not (eqb (length msr) 4096)) (record { refusal = 2; output = output; size = size })
    (cond (ltb (length output) (length (sheet_of a b msr))) (record { refusal = 24; output = output; size = size })
    (record { refusal = 0; output = sheet_of a b msr ++ drop (length (sheet_of a b msr)) output; size = length (sheet_of a b msr) }))))
