-- Laws of the sheet's lines: each has 41 bytes, and says its kind and numbers in their columns; how long a sheet is. Assumes nothing.
use Prim.Native.Nat.{ℕ, ◌+◌, ◌-◌, ◌*◌, ◌^◌, ◌≤◌, ◌<◌}
use native.Mathlib.Omega.{arith}
use mathlib.Core.Path.{◌≡◌, refl, sym, ap, ◌∙◌}
use mathlib.Core.Bool.{Bool}
use mathlib.Core.List.{List, [], ◌∷◌, ◌++◌, flat_map, append_assoc, append-nil}
use lib.ListN.{length, length-append}
use Rattle.structs.specs.Frames.{port_intercept, msr_intercept}
use Rattle.structs.specs.declared.Access.TheVariants.{Read, Write}
use Rattle.text.specs.Hex.{hex_digits, hex_number}
use Rattle.std.proofs.Common.{Some}
use Rattle.text.proofs.HexLaws.{number_digits}
use Rattle.text.proofs.DecimalLaws.{right_in}
use Rattle.trap_sheet.specs.Runs.{Run, runs_of}
use Rattle.trap_sheet.specs.Sheet.{Kind, kind_total, kind_runs, ports, msrs, port_kind, read_kind, write_kind, runs_in, total_line, total_line_of, run_line, run_lines_of, sheet_of}
use Rattle.trap_sheet.specs.Reference.{RunText, TotalText}
use Rattle.trap_sheet.proofs.RunLaws.{most}

-- ---- one line

-- a line's columns past the kind
pub run_columns : (kind : List ℕ) (r : Run) → length (run_line kind r) ≡ length kind + 37
run_columns kind r = simp length-append (omega arith)

pub total_columns : (kind : List ℕ) (n : ℕ) → length (total_line kind n) ≡ length kind + 37
total_columns kind n = simp length-append (omega arith)

-- what holds of each kind of four bytes
four : (P : List ℕ → Type 0) → ((a b c d : ℕ) → P (a ∷ b ∷ c ∷ d ∷ [])) → (kind : List ℕ) → length kind ≡ 4 → P kind
four P f [] h = absurd (omega arith)
four P f (a ∷ []) h = absurd (omega arith)
four P f (a ∷ b ∷ []) h = absurd (omega arith)
four P f (a ∷ b ∷ c ∷ []) h = absurd (omega arith)
four P f (a ∷ b ∷ c ∷ d ∷ []) h = f a b c d
four P f (a ∷ b ∷ c ∷ d ∷ e ∷ rest) h = absurd (omega arith)

word_back : (n : ℕ) → n < 2 ^ 32 → hex_number 0 (hex_digits 8 n) ≡ Some n
word_back n h = number_digits 8 0 n ∙ ap Some (omega arith)

module _ (r : Run) where
  pub run_length : (kind : List ℕ) → length kind ≡ 4 → length (run_line kind r) ≡ 41
  run_length kind h = omega (arith, run_columns kind r)

  pub run_text : r.first < 2 ^ 32 → r.last < 2 ^ 32 → (kind : List ℕ) → length kind ≡ 4 → RunText kind r (run_line kind r)
  run_text f l = four (λ kind. RunText kind r (run_line kind r)) (λ a b c d. record {
    kind = refl;
    blanks = (refl, refl, refl);
    first = word_back r.first f;
    last = word_back r.last l;
    count = right_in 14 (r.last - r.first + 1) (omega arith) (omega arith);
    feed = refl;
  })

module _ (k : Kind) where
  abbrev named : List ℕ → Kind
  named name = record { name = name; trapped = k.trapped; ranges = k.ranges }

  pub total_length : length k.name ≡ 4 → length (total_line_of k) ≡ 41
  total_length h = omega (arith, total_columns k.name (kind_total k))

  pub total_text : kind_total k < 10 ^ 14 → length k.name ≡ 4 → TotalText k.name (kind_total k) (total_line_of k)
  total_text h = four (λ name. TotalText name (kind_total k) (total_line_of (named name))) (λ a b c d. record {
    kind = refl;
    blanks = refl;
    count = right_in 14 (kind_total k) (omega arith) h;
    feed = refl;
  }) k.name

-- ---- the sheet

pub lines_length : (kind : List ℕ) → length kind ≡ 4 → (rs : List Run) → length (flat_map (run_line kind) rs) ≡ 41 * length rs
unfolding flat_map
lines_length kind h [] = refl
lines_length kind h (r ∷ rs) =
    omega (arith, length-append (run_line kind r) (flat_map (run_line kind) rs), run_length r kind h, lines_length kind h rs)

module _ (a b msr : List ℕ) where
  abbrev port : Kind
  port = port_kind a b

  abbrev read : Kind
  read = read_kind msr

  abbrev write : Kind
  write = write_kind msr

  -- the lines of the sheet, and what stands after it
  pub sheet_lines : (rest : List ℕ) → sheet_of a b msr ++ rest
      ≡ total_line_of port ++ (total_line_of read ++ (total_line_of write ++ (run_lines_of port ++ (run_lines_of read ++ (run_lines_of write ++ rest)))))
  unfolding sheet_of flat_map
  sheet_lines rest = regroup (total_line_of port) (total_line_of read) (total_line_of write) (run_lines_of port) (run_lines_of read) (run_lines_of write)
    where
      regroup : (s t u p r w : List ℕ) → s ++ (t ++ (u ++ [])) ++ (p ++ (r ++ (w ++ []))) ++ rest ≡ s ++ (t ++ (u ++ (p ++ (r ++ (w ++ rest)))))
      regroup s t u p r w = simp append_assoc

  pub sheet_length_lem : length (sheet_of a b msr) ≡ 41 * (3 + length (kind_runs port) + length (kind_runs read) + length (kind_runs write))
  sheet_length_lem =
      ap length (sym (append-nil (sheet_of a b msr)) ∙ sheet_lines [])
      ∙ lengths (total_line_of port) (total_line_of read) (total_line_of write) (run_lines_of port) (run_lines_of read) (run_lines_of write)
      ∙ omega (
        arith,
        total_length port refl,
        total_length read refl,
        total_length write refl,
        lines_length port.name refl (kind_runs port),
        lines_length read.name refl (kind_runs read),
        lines_length write.name refl (kind_runs write),
      )
    where
      lengths : (s t u p r w : List ℕ) → length (s ++ (t ++ (u ++ (p ++ (r ++ (w ++ [])))))) ≡ length s + length t + length u + length p + length r + length w
      lengths s t u p r w = simp length-append (omega arith)

  -- the largest sheet
  pub sheet_most : length (sheet_of a b msr) ≤ 2015355
  sheet_most = omega (arith, sheet_length_lem, ports_most (port_intercept a b), msrs_most (msr_intercept msr Read), msrs_most (msr_intercept msr Write))
    where
      ports_most : (t : ℕ → Bool) → length (runs_in t ports) ≤ 32768
      ports_most t = omega (arith, length-append (runs_of t 0 0x1_0000) [], most t 0 0x1_0000)

      msrs_most : (t : ℕ → Bool) → length (runs_in t msrs) ≤ 8192
      msrs_most t =
          let high : List Run = runs_of t 0xC000_0000 0x2000 in
          omega (arith, length-append (runs_of t 0 0x2000) (high ++ []), length-append high [], most t 0 0x2000, most t 0xC000_0000 0x2000)
