-- The call answers as a reader takes it (specs/Reference.antt), for whatever lists are the runs of the frames. Assumes nothing.
use Prim.Native.Nat.{ℕ, ◌+◌, ◌*◌, ◌^◌, ◌≤◌, ◌<◌}
use native.Mathlib.Decide.{dec_le, ℕ_discrete}
use native.Mathlib.Omega.{arith}
use mathlib.Core.Path.{◌≡◌, refl, sym, subst, ◌∙◌}
use mathlib.Core.Bool.{Bool}
use mathlib.Core.Logic.{inl, inr, dite}
use mathlib.Core.List.{List, [], ◌∷◌, ◌++◌, flat_map, append_assoc}
use borrow.Author.Tests.{lt-ltb, le-ltb, eq-eqb, ne_eqb}
use lib.ListN.{length, drop, length-append, length-drop}
use lib.Seq.{drop-drop, take_at, drop_at}
use Rattle.structs.specs.Frames.{port_intercept, msr_intercept}
use Rattle.structs.specs.Numbers.{IsPort, IsMsr}
use Rattle.structs.specs.declared.Access.TheVariants.{Read, Write}
use Rattle.trap_sheet.specs.Runs.{Run}
use Rattle.trap_sheet.specs.Sheet.{Kind, ports, msrs, port_kind, read_kind, write_kind, runs_in, kind_total, kind_runs, total_line_of, run_line, run_lines_of, sheet_of, trap_sheet}
use Rattle.trap_sheet.specs.Reference.{holding, Ascending, FrameRuns, RunText, TotalText, line_at, RunsAt, FrameLengths, Accepted, Answers}
use Rattle.trap_sheet.proofs.RunLaws.{ends, count_most}
use Rattle.trap_sheet.proofs.RangeLaws.{totals, ports_are_runs, msrs_are_runs, only, msr?}
use Rattle.trap_sheet.proofs.LineLaws.{run_length, run_text, total_length, total_text, lines_length, sheet_lines, sheet_length_lem, sheet_most}

-- ---- lines by their place: what a text has from line i on

module _ (text : List ℕ) (i : ℕ) (line tail : List ℕ) (e : drop (41 * i) text ≡ line ++ tail) where
  line_here : length line ≡ 41 → line_at i text ≡ line
  line_here h = rw e (take_at line tail 41 h)

  lines_after : (j : ℕ) → length line ≡ 41 * j → drop (41 * (i + j)) text ≡ tail
  lines_after j h =
      let s : 41 * (i + j) ≡ 41 * i + 41 * j = omega arith in
      rw (s, ← (drop-drop (41 * j) (41 * i) text), e) (drop_at line tail (41 * j) h)

runs_at : (kind : List ℕ) → length kind ≡ 4 → (rs : List Run) (f : ℕ) → Ascending f rs → ((m : ℕ) → 2 ^ 32 ≤ m → holding m rs ≡ 0)
    → (text tail : List ℕ) (from : ℕ) → drop (41 * from) text ≡ flat_map (run_line kind) rs ++ tail → RunsAt kind from rs text
unfolding flat_map
runs_at kind h [] f a o text tail from e = tt
runs_at kind h (r ∷ rs) f a o text tail from e =
    let line : List ℕ = run_line kind r in
    let after : List ℕ = flat_map (run_line kind) rs in
    let g : drop (41 * from) text ≡ line ++ (after ++ tail) = e ∙ append_assoc line after tail in
    let k : length line ≡ 41 = run_length r kind h in
    let l : r.last < 2 ^ 32 = ends (2 ^ 32) r rs a.1 o in (
      subst (λ (x : List ℕ). RunText kind r x) (sym (line_here text from line (after ++ tail) g k)) (run_text r (omega (arith, a.1)) l kind h),
      runs_at kind h rs (r.last + 2) a.2 (λ m b. omega (arith, o m b)) text tail (from + 1) (lines_after text from line (after ++ tail) g 1 k),
    )

-- ---- the lines of a kind within a text

record Fits (k : Kind) : Type 0 where
  four_bytes : length k.name ≡ 4
  total : kind_total k < 10 ^ 14
  words : (m : ℕ) → 2 ^ 32 ≤ m → holding m (kind_runs k) ≡ 0
  ascending : Ascending 0 (kind_runs k)

total_at : (k : Kind) → Fits k → (text tail : List ℕ) (i : ℕ) → drop (41 * i) text ≡ total_line_of k ++ tail
    → TotalText k.name (kind_total k) (line_at i text) × (drop (41 * (i + 1)) text ≡ tail)
total_at k f text tail i e =
    let l : length (total_line_of k) ≡ 41 = total_length k f.four_bytes in (
      subst (λ (x : List ℕ). TotalText k.name (kind_total k) x) (sym (line_here text i (total_line_of k) tail e l)) (total_text k f.total f.four_bytes),
      lines_after text i (total_line_of k) tail e 1 l,
    )

runs_from : (k : Kind) → Fits k → (text tail : List ℕ) (i : ℕ) → drop (41 * i) text ≡ run_lines_of k ++ tail
    → RunsAt k.name i (kind_runs k) text × (drop (41 * (i + length (kind_runs k))) text ≡ tail)
runs_from k f text tail i e = (
  runs_at k.name f.four_bytes (kind_runs k) 0 f.ascending f.words text tail i e,
  lines_after text i (run_lines_of k) tail e (length (kind_runs k)) (lines_length k.name f.four_bytes (kind_runs k)),
)

-- ---- the three kinds

module _ (name : List ℕ) (t : ℕ → Bool) (four : length name ≡ 4) where
  port_fits : Fits (record { name = name; trapped = t; ranges = ports })
  port_fits = record {
    four_bytes = four;
    total = omega (arith, count_most t 0 0x1_0000);
    words = λ m h. (ports_are_runs t).outside m (λ w. omega arith);
    ascending = (ports_are_runs t).ascending;
  }

  past_msrs : (m : ℕ) → 2 ^ 32 ≤ m → IsMsr m → ⊥
  past_msrs m h (inl w) = omega arith
  past_msrs m h (inr w) = omega arith

  msr_fits : Fits (record { name = name; trapped = t; ranges = msrs })
  msr_fits = record {
    four_bytes = four;
    total = omega (arith, count_most t 0 0x2000, count_most t 0xC000_0000 0x2000);
    words = λ m h. (msrs_are_runs t).outside m (past_msrs m h);
    ascending = (msrs_are_runs t).ascending;
  }

-- ---- the call

module _ (a b msr output : List ℕ) (size : ℕ) where
  abbrev own_ports : List Run
  own_ports = runs_in (port_intercept a b) ports

  abbrev own_reads : List Run
  own_reads = runs_in (msr_intercept msr Read) msrs

  abbrev own_writes : List Run
  own_writes = runs_in (msr_intercept msr Write) msrs

  own_frames : (FrameLengths a b msr → ⊥) → trap_sheet a b msr output size ≡ record { refusal = 2; output = output; size = size }
  unfolding trap_sheet
  own_frames n =
      dite (ℕ_discrete (length a) 4096)
      (λ x. rw (eq-eqb (length a) 4096 x) (dite (ℕ_discrete (length b) 4096)
      (λ y. rw (eq-eqb (length b) 4096 y) (dite (ℕ_discrete (length msr) 4096)
      (λ z. absurd (n (x, y, z)))
      (λ z. rw (ne_eqb (length msr) 4096 z))))
      (λ y. rw (ne_eqb (length b) 4096 y))))
      (λ x. rw (ne_eqb (length a) 4096 x))

  module _ (f : FrameLengths a b msr) where
    own_room : length output < length (sheet_of a b msr) → trap_sheet a b msr output size ≡ record { refusal = 24; output = output; size = size }
    unfolding trap_sheet
    own_room l = rw (eq-eqb (length a) 4096 f.0, eq-eqb (length b) 4096 f.1, eq-eqb (length msr) 4096 f.2, lt-ltb (length output) (length (sheet_of a b msr)) l)

    own_answer : length (sheet_of a b msr) ≤ length output
        → trap_sheet a b msr output size ≡ record { refusal = 0; output = sheet_of a b msr ++ drop (length (sheet_of a b msr)) output; size = length (sheet_of a b msr) }
    unfolding trap_sheet
    own_answer l = rw (eq-eqb (length a) 4096 f.0, eq-eqb (length b) 4096 f.1, eq-eqb (length msr) 4096 f.2, le-ltb (length output) (length (sheet_of a b msr)) l)

  own_sheet : length (sheet_of a b msr) ≤ length output → Accepted output own_ports own_reads own_writes
      (record { refusal = 0; output = sheet_of a b msr ++ drop (length (sheet_of a b msr)) output; size = length (sheet_of a b msr) })
  own_sheet l =
      let s : List ℕ = sheet_of a b msr in
      let d : List ℕ = drop (length s) output in
      let x = port_kind a b in
      let y = read_kind msr in
      let z = write_kind msr in
      let fx = port_fits x.name x.trapped refl in
      let fy = msr_fits y.name y.trapped refl in
      let fz = msr_fits z.name z.trapped refl in
      let t₀ = total_at x fx (s ++ d) _ 0 (sheet_lines a b msr d) in
      let t₁ = total_at y fy (s ++ d) _ 1 t₀.1 in
      let t₂ = total_at z fz (s ++ d) _ 2 t₁.1 in
      let r₀ = runs_from x fx (s ++ d) _ 3 t₂.1 in
      let r₁ = runs_from y fy (s ++ d) _ (3 + length own_ports) r₀.1 in
      let r₂ = runs_from z fz (s ++ d) _ (3 + length own_ports + length own_reads) r₁.1 in
      record {
        number = refl;
        size = sheet_length_lem a b msr;
        most = sheet_most a b msr;
        length_kept = omega (arith, length-append s d, length-drop (length s) output);
        bytes_kept = drop_at s d (length s) refl;
        total_ports = rw (totals (port_intercept a b) ports) at t₀.0;
        total_reads = rw (totals (msr_intercept msr Read) msrs) at t₁.0;
        total_writes = rw (totals (msr_intercept msr Write) msrs) at t₂.0;
        ports = r₀.0;
        reads = r₁.0;
        writes = r₂.0;
      }

  own_answers : Answers a b msr output size own_ports own_reads own_writes (trap_sheet a b msr output size)
  own_answers = record {
    frames = own_frames;
    room = λ f l. own_room f (omega (arith, sheet_length_lem a b msr));
    accepted = λ f l.
        let m : length (sheet_of a b msr) ≤ length output = omega (arith, sheet_length_lem a b msr) in
        rw (own_answer f m) (own_sheet m);
  }

-- the runs on the sheet are those of the intercepts
pub sheet_runs : (a b msr : List ℕ) → FrameRuns a b msr (own_ports a b msr [] 0) (own_reads a b msr [] 0) (own_writes a b msr [] 0)
sheet_runs a b msr = record { ports = ports_are_runs (port_intercept a b); reads = msrs_are_runs (msr_intercept msr Read); writes = msrs_are_runs (msr_intercept msr Write) }

pub answers : (a b msr output : List ℕ) (size : ℕ) (p r w : List Run) → FrameRuns a b msr p r w → Answers a b msr output size p r w (trap_sheet a b msr output size)
answers a b msr output size p r w f =
    let own = sheet_runs a b msr in
    let x : p ≡ runs_in (port_intercept a b) ports = only IsPort (λ n. dec_le n 0xFFFF) (port_intercept a b) p _ f.ports own.ports in
    let y : r ≡ runs_in (msr_intercept msr Read) msrs = only IsMsr msr? (msr_intercept msr Read) r _ f.reads own.reads in
    let z : w ≡ runs_in (msr_intercept msr Write) msrs = only IsMsr msr? (msr_intercept msr Write) w _ f.writes own.writes in
    rw (x, y, z) (own_answers a b msr output size)
