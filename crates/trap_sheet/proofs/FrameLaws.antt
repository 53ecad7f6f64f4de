-- The intercepts of the frames are bits of slices: those of ports the bits of both I/O frames, those of an access to MSRs the bits of a half of the
-- MSR frame. Assumes nothing.
use mathlib.Core.Path.{◌≡◌, refl, sym, ap, ap₂, ◌∙◌}
use mathlib.Core.List.{List, [], ◌∷◌, ◌++◌, flat_map, append-nil, append_assoc}
use Prim.Native.Nat.{ℕ, ◌+◌, ◌-◌, ◌*◌, ◌/◌, ◌%◌, ◌≤◌, ◌<◌}
use native.Mathlib.Nat.{add-zero, zero-add}
use native.Mathlib.Omega.{arith}
use lib.ListN.{length, take, drop, length-append, length-take, length-drop}
use lib.Seq.{get_or-drop, get_or-take}
use Rattle.bits.specs.Words.{bit}
use Rattle.structs.specs.Bitmap.{bit_at}
use Rattle.structs.specs.Frames.{port_intercept, msr_intercept}
use Rattle.structs.proofs.BitmapLaws.{part_is_drop}
use Rattle.structs.proofs.PortLaws.{port_in_a, port_in_b, port_bit}
use Rattle.structs.proofs.MsrLaws.{low_index, high_index}
use Rattle.structs.specs.declared.Access.{Access}
use Rattle.structs.specs.declared.Access.TheVariants.{Read, Write}
use Rattle.trap_sheet.specs.Runs.{Run, count_of, runs_of}
use Rattle.trap_sheet.specs.Sheet.{ports, msrs, total_in, runs_in, run_line}
use Rattle.trap_sheet.specs.Search.{run_lines, bit_count, bit_runs, bit_lines, access_runs, access_lines}
use Rattle.trap_sheet.proofs.RunLaws.{most, shifted_length, runs_shifted, count_same}
use Rattle.trap_sheet.proofs.OnesLaws.{count_add}

-- ---- parts of a list

bit_taken : (xs : List ℕ) (k i : ℕ) → i < 8 * k → bit_at (take k xs) i ≡ bit_at xs i
bit_taken xs k i h = ap (bit (i % 8)) (get_or-take k xs (i / 8) 0 (omega arith))

bit_dropped : (xs : List ℕ) (k i : ℕ) → bit_at (drop k xs) i ≡ bit_at xs (8 * k + i)
bit_dropped xs k i =
    let q : (8 * k + i) / 8 ≡ k + i / 8 = omega arith in
    let r : (8 * k + i) % 8 ≡ i % 8 = omega arith in
    rw (q, r) (ap (bit (i % 8)) (get_or-drop k xs (i / 8) 0))

-- ---- ports

module _ (a b : List ℕ) (la : length a ≡ 4096) (lb : length b ≡ 4096) where
  pub port_runs : runs_in (port_intercept a b) ports ≡ bit_runs 0 (a ++ b)
  port_runs =
      let n : 8 * length (a ++ b) ≡ 0x1_0000 = rw (length-append a b) (omega arith) in
      append-nil (runs_of (port_intercept a b) 0 0x1_0000) ∙ rw n (runs_shifted (port_intercept a b) (bit_at (a ++ b)) 0 0 0x1_0000 (λ i _. rw (zero-add i) (port_bit a b la i)))

  pub port_total : total_in (port_intercept a b) ports ≡ bit_count a + bit_count b
  port_total =
      let p : 8 * length a ≡ 0x8000 = omega arith in
      let q : 8 * length b ≡ 0x8000 = omega arith in
      let t = port_intercept a b in
      rw (p, q, add-zero (count_of t 0 0x1_0000))
      (count_add t 0 0x8000 0x8000
      ∙ ap₂ ◌+◌
      (count_same t (bit_at a) 0 0 0x8000 (λ i l. rw (zero-add i) (port_in_a a b i l)))
      (count_same t (bit_at b) 0x8000 0 0x8000 (λ i l. rw (zero-add i) (port_in_b a b i))))

-- ---- accesses to MSRs

module _ (msr half : List ℕ) (x : Access) (l : length half ≡ 2048) (low : (i : ℕ) → i < 0x2000 → msr_intercept msr x i ≡ bit_at half i)
    (high : (i : ℕ) → i < 0x2000 → msr_intercept msr x (0xC000_0000 + i) ≡ bit_at half (0x2000 + i)) where
  half_runs : runs_in (msr_intercept msr x) msrs ≡ access_runs half
  half_runs =
      let t = msr_intercept msr x in
      let m : 8 * length (take 1024 half) ≡ 0x2000 = rw (length-take 1024 half) (omega arith) in
      let n : 8 * length (drop 1024 half) ≡ 0x2000 = rw (length-drop 1024 half) (omega arith) in
      rw (m, n, append-nil (runs_of t 0xC000_0000 0x2000))
      (ap₂ ◌++◌
      (runs_shifted t (bit_at (take 1024 half)) 0 0 0x2000 (λ i h. rw (zero-add i) (low i h ∙ sym (bit_taken half 1024 i (omega arith)))))
      (runs_shifted t (bit_at (drop 1024 half)) 0xC000_0000 0 0x2000 (λ i h. rw (zero-add i) (high i h ∙ sym (bit_dropped half 1024 i)))))

  half_total : total_in (msr_intercept msr x) msrs ≡ bit_count half
  half_total =
      let t = msr_intercept msr x in
      let n : 8 * length half ≡ 0x4000 = omega arith in
      rw (n, add-zero (count_of t 0xC000_0000 0x2000))
      (sym (count_add (bit_at half) 0 0x2000 0x2000
      ∙ ap₂ ◌+◌
      (sym (count_same t (bit_at half) 0 0 0x2000 (λ i h. rw (zero-add i) (low i h))))
      (sym (count_same t (bit_at half) 0xC000_0000 0x2000 0x2000 (λ i h. high i h)))))

module _ (msr : List ℕ) (l : length msr ≡ 4096) where
  read_low : (i : ℕ) → i < 0x2000 → msr_intercept msr Read i ≡ bit_at (take 2048 msr) i
  read_low i h = ap (bit_at msr) (low_index Read i (omega arith) ∙ omega arith) ∙ sym (bit_taken msr 2048 i (omega arith))

  read_high : (i : ℕ) → i < 0x2000 → msr_intercept msr Read (0xC000_0000 + i) ≡ bit_at (take 2048 msr) (0x2000 + i)
  read_high i h = ap (bit_at msr) (high_index Read (0xC000_0000 + i) (omega arith) ∙ omega arith) ∙ sym (bit_taken msr 2048 (0x2000 + i) (omega arith))

  write_low : (i : ℕ) → i < 0x2000 → msr_intercept msr Write i ≡ bit_at (drop 2048 msr) i
  write_low i h = ap (bit_at msr) (low_index Write i (omega arith) ∙ omega arith) ∙ sym (bit_dropped msr 2048 i)

  write_high : (i : ℕ) → i < 0x2000 → msr_intercept msr Write (0xC000_0000 + i) ≡ bit_at (drop 2048 msr) (0x2000 + i)
  write_high i h = ap (bit_at msr) (high_index Write (0xC000_0000 + i) (omega arith) ∙ omega arith) ∙ sym (bit_dropped msr 2048 (0x2000 + i))

  front : length (take 2048 msr) ≡ 2048
  front = rw (length-take 2048 msr) (omega arith)

  back : length (drop 2048 msr) ≡ 2048
  back = rw (length-drop 2048 msr) (omega arith)

  pub read_runs : runs_in (msr_intercept msr Read) msrs ≡ access_runs (take 2048 msr)
  read_runs = half_runs msr (take 2048 msr) Read front read_low read_high

  pub read_total : total_in (msr_intercept msr Read) msrs ≡ bit_count (take 2048 msr)
  read_total = half_total msr (take 2048 msr) Read front read_low read_high

  pub write_runs : runs_in (msr_intercept msr Write) msrs ≡ access_runs (drop 2048 msr)
  write_runs = half_runs msr (drop 2048 msr) Write back write_low write_high

  pub write_total : total_in (msr_intercept msr Write) msrs ≡ bit_count (drop 2048 msr)
  write_total = half_total msr (drop 2048 msr) Write back write_low write_high

-- ---- the parts that a function is given: a quarter with no slice behind it

abbrev pub low_part : List ℕ → List ℕ
low_part half = take 1024 half ++ []

abbrev pub high_part : List ℕ → List ℕ
high_part half = take (length half - 1024) (drop 1024 half) ++ []

low_part_lem : (half : List ℕ) → low_part half ≡ take 1024 half
low_part_lem half = append-nil (take 1024 half)

high_part_lem : (half : List ℕ) → high_part half ≡ drop 1024 half
high_part_lem half = append-nil (take (length half - 1024) (drop 1024 half)) ∙ part_is_drop half 1024

-- at most half of the bits start a run
pub runs_most : (base : ℕ) (xs : List ℕ) → 2 * length (bit_runs base xs) ≤ 8 * length xs + 1
runs_most base xs = rw (shifted_length base (runs_of (bit_at xs) 0 (8 * length xs))) (most (bit_at xs) 0 (8 * length xs))

pub access_most : (half : List ℕ) → length half ≡ 2048 → length (access_runs half) ≤ 8192
access_most half l =
    let m = runs_most 0 (take 1024 half) in
    let n = runs_most 0xC000_0000 (drop 1024 half) in
    rw (length-append (bit_runs 0 (take 1024 half)) (bit_runs 0xC000_0000 (drop 1024 half)))
    (omega (arith, m, n, length-take 1024 half, length-drop 1024 half))

-- the lines of some runs, and then of others
pub lines_append : (kind : List ℕ) (rs qs : List Run) → run_lines kind (rs ++ qs) ≡ run_lines kind rs ++ run_lines kind qs
unfolding flat_map
lines_append kind [] qs = refl
lines_append kind (r ∷ rs) qs = ap (λ (l : List ℕ). run_line kind r ++ l) (lines_append kind rs qs) ∙ sym (append_assoc (run_line kind r) (run_lines kind rs) (run_lines kind qs))

pub access_lines_lem : (kind half : List ℕ) → access_lines kind half ≡ bit_lines kind 0 (low_part half) ++ bit_lines kind 0xC000_0000 (high_part half)
access_lines_lem kind half =
    lines_append kind (bit_runs 0 (take 1024 half)) (bit_runs 0xC000_0000 (drop 1024 half))
    ∙ ap₂ ◌++◌ (ap (bit_lines kind 0) (sym (low_part_lem half))) (ap (bit_lines kind 0xC000_0000) (sym (high_part_lem half)))
