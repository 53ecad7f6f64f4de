-- The sheet as the call makes it: from the bits of slices. Assumes nothing.
use mathlib.Core.Path.{◌≡◌, refl, sym, ap, ap₂, ◌∙◌}
use mathlib.Core.List.{List, [], ◌++◌, flat_map, append-nil, append_assoc}
use Prim.Native.Nat.{ℕ, ◌+◌, ◌*◌, ◌≤◌}
use native.Mathlib.Omega.{arith}
use borrow.Author.Tests.{le-ltb, eq-eqb}
use lib.ListN.{length, take, drop, length-append}
use Rattle.text.specs.Ascii.{ascii}
use Rattle.text.specs.Put.{put_at}
use Rattle.text.proofs.PutLaws.{put_first}
use Rattle.trap_sheet.specs.Runs.{Run}
use Rattle.trap_sheet.specs.Sheet.{port_kind, read_kind, write_kind, total_line, run_line, run_lines_of, total_lines, sheet_of, trap_sheet}
use Rattle.trap_sheet.specs.Search.{run_lines, bit_count, bit_runs, bit_lines, access_runs, access_lines}
use Rattle.trap_sheet.proofs.LineLaws.{sheet_length_lem}
use Rattle.trap_sheet.proofs.FrameLaws.{port_runs, port_total, read_runs, read_total, write_runs, write_total}

-- three lines
pub totals_length : (a b msr : List ℕ) → length (total_lines a b msr) ≡ 123
unfolding flat_map
totals_length a b msr = refl

module _ (a b msr : List ℕ) (la : length a ≡ 4096) (lb : length b ≡ 4096) (lm : length msr ≡ 4096) where
  pub size : {p r w : ℕ} → p ≡ length (bit_runs 0 (a ++ b)) → r ≡ length (access_runs (take 2048 msr)) → w ≡ length (access_runs (drop 2048 msr))
      → 41 * (3 + p + r + w) ≡ length (sheet_of a b msr)
  size p r w =
      omega (arith, sheet_length_lem a b msr, p, r, w, ap length (port_runs a b la lb), ap length (read_runs msr lm), ap length (write_runs msr lm))

  -- the totals as they are put, one after the other
  pub total_parts : {p r w : ℕ} → p ≡ bit_count a + bit_count b → r ≡ bit_count (take 2048 msr) → w ≡ bit_count (drop 2048 msr)
      → total_lines a b msr ≡ total_line (ascii "port") p ++ total_line (ascii "read") r ++ total_line (ascii "writ") w
  unfolding flat_map
  total_parts p r w =
      let k = port_total a b la lb ∙ sym p in
      let m = read_total msr lm ∙ sym r in
      let n = write_total msr lm ∙ sym w in
      rw (k, m, n)

  -- the whole
  pub sheet_parts : sheet_of a b msr ≡ total_lines a b msr ++ bit_lines (ascii "port") 0 (a ++ b) ++ access_lines (ascii "read") (take 2048 msr) ++ access_lines (ascii "writ") (drop 2048 msr)
  unfolding sheet_of flat_map
  sheet_parts =
      regroup (total_lines a b msr) (run_lines_of (port_kind a b)) (run_lines_of (read_kind msr)) (run_lines_of (write_kind msr))
      ∙ ap₂ ◌++◌
      (ap₂ ◌++◌ (ap (λ (rs : List Run). total_lines a b msr ++ flat_map (run_line (ascii "port")) rs) (port_runs a b la lb)) (ap (flat_map (run_line (ascii "read"))) (read_runs msr lm)))
      (ap (flat_map (run_line (ascii "writ"))) (write_runs msr lm))
    where
      regroup : (t p r w : List ℕ) → t ++ (p ++ (r ++ (w ++ []))) ≡ t ++ p ++ r ++ w
      regroup t p r w = rw (append-nil w, append_assoc (t ++ p) r w, append_assoc t p (r ++ w))

  -- the same by the parts that the code puts
  module _ (rs : List Run) (reads writes : List ℕ) (p : rs ≡ bit_runs 0 (a ++ b)) (r : reads ≡ take 2048 msr) (w : writes ≡ drop 2048 msr) where
    pub sheet_put : sheet_of a b msr ≡ total_lines a b msr ++ run_lines (ascii "port") rs ++ access_lines (ascii "read") reads ++ access_lines (ascii "writ") writes
    sheet_put = rw (p, r, w) sheet_parts

    pub sheet_columns : length (sheet_of a b msr)
        ≡ length (total_lines a b msr) + length (run_lines (ascii "port") rs) + length (access_lines (ascii "read") reads) + length (access_lines (ascii "writ") writes)
    sheet_columns = ap length sheet_put ∙ lengths (total_lines a b msr) (run_lines (ascii "port") rs) (access_lines (ascii "read") reads) (access_lines (ascii "writ") writes)
      where
        lengths : (t p r w : List ℕ) → length (t ++ p ++ r ++ w) ≡ length t + length p + length r + length w
        lengths t p r w = simp length-append (omega arith)

  -- an accepted call
  pub sheet_accepted : (d : List ℕ) (m : ℕ) → length (sheet_of a b msr) ≤ length d
      → trap_sheet a b msr d m ≡ record { refusal = 0; output = sheet_of a b msr ++ drop (length (sheet_of a b msr)) d; size = length (sheet_of a b msr) }
  unfolding trap_sheet
  sheet_accepted d m h =
      let e = eq-eqb (length a) 4096 la in
      let f = eq-eqb (length b) 4096 lb in
      let g = eq-eqb (length msr) 4096 lm in
      let l = le-ltb (length d) (length (sheet_of a b msr)) h in
      rw (e, f, g, l)

  -- the code's answer: the sheet was put into a new writer
  pub sheet_answer : (d d₁ : List ℕ) (m n : ℕ) → n ≡ length (sheet_of a b msr) → n ≤ length d → d₁ ≡ put_at d 0 (sheet_of a b msr)
      → record { refusal = 0; output = d₁; size = n } ≡ trap_sheet a b msr d m
  sheet_answer d d₁ m n e h p =
      let q = put_first d d₁ (sheet_of a b msr) n (omega (arith, e)) p in
      rw (sheet_accepted d m (omega (arith, e, h)), q.1, e)
