-- What the functions below the call promise: the set bits of bitmaps and their runs, and the next bit. Assumes nothing.
use Rattle.std.specs.Prelude.{ℕ, zero, suc, ◌+◌, ◌-◌, ◌*◌, ◌≤◌, ◌<◌, ◌≡◌, Bool, true, not, ◌&&◌, eqb, length, get_or, take, drop}
use mathlib.Core.List.{List, ◌++◌, flat_map}
use Rattle.structs.specs.Bitmap.{bit_at}
use Rattle.trap_sheet.specs.Runs.{Run, count_of, runs_of, shifted_by}
use Rattle.trap_sheet.specs.Sheet.{run_line}

-- how many bits of a bitmap are set
abbrev pub bit_count : List ℕ → ℕ
bit_count xs = count_of (bit_at xs) 0 (8 * length xs)

-- the runs of set bits from bit n on, bit 0 being item `base`
abbrev pub runs_from : ℕ → List ℕ → ℕ → List Run
runs_from base xs n = shifted_by base (runs_of (bit_at xs) n (8 * length xs - n))

-- the lines of runs
abbrev pub run_lines : List ℕ → List Run → List ℕ
run_lines name rs = flat_map (run_line name) rs

-- the runs of all set bits, and their lines
abbrev pub bit_runs : ℕ → List ℕ → List Run
bit_runs base xs = shifted_by base (runs_of (bit_at xs) 0 (8 * length xs))

abbrev pub bit_lines : List ℕ → ℕ → List ℕ → List ℕ
bit_lines name base xs = run_lines name (bit_runs base xs)

-- the runs of one access to MSRs, and their lines: in its half of the MSR frame the low MSRs come before the high ones
abbrev pub access_runs : List ℕ → List Run
access_runs half = bit_runs 0 (take 1024 half) ++ bit_runs 0xC000_0000 (drop 1024 half)

abbrev pub access_lines : List ℕ → List ℕ → List ℕ
access_lines name half = run_lines name (access_runs half)

-- the k bytes from byte i on are all x
unfoldable pub all_are : List ℕ → ℕ → ℕ → ℕ → Bool
all_are xs i x zero = true
all_are xs i x (suc k) = all_are xs i x k && eqb (get_or xs (i + k) 0) x

-- r bits from bit n on are other than v; where r is 0, bit n is v
pub record Passed (xs : List ℕ) (v : Bool) (n r : ℕ) : Type 0 where
  pub within : n + r ≤ 8 * length xs
  pub found : r ≡ 0 → bit_at xs n ≡ v
  pub other : (m : ℕ) → n ≤ m → m < n + r → bit_at xs m ≡ not v

-- r is the first bit from `from` on that is v, or one past the last
pub record Next (xs : List ℕ) (v : Bool) (from r : ℕ) : Type 0 where
  pub after : from ≤ r
  pub within : r ≤ 8 * length xs
  pub other : (m : ℕ) → from ≤ m → m < r → bit_at xs m ≡ not v
  pub found : r < 8 * length xs → bit_at xs r ≡ v
