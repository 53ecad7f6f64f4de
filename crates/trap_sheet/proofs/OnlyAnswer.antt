-- One answer alone meets `Answers` for given arguments and runs: the statement fixes every byte. Assumes nothing.
use Prim.Native.Nat.{ℕ, ◌+◌, ◌*◌, ◌≤◌, ◌<◌}
use native.Mathlib.Nat.{add-zero}
use native.Mathlib.Decide.{dec_le, ℕ_discrete}
use native.Mathlib.Omega.{arith}
use mathlib.Core.Path.{◌≡◌, sym, ap, ap₂, ◌∙◌}
use mathlib.Core.Logic.{◌⊎◌, inl, inr, dite}
use mathlib.Core.List.{List, [], ◌∷◌, ◌++◌}
use lib.ListN.{length, drop, length-take, length-drop, take-append-drop}
use lib.Seq.{drop-drop}
use Rattle.text.specs.Hex.{hex_digits, hex_number}
use Rattle.std.proofs.Common.{Some}
use Rattle.text.proofs.HexLaws.{digits_number}
use Rattle.text.proofs.DecimalLaws.{right_only}
use Rattle.trap_sheet.specs.Runs.{Run}
use Rattle.trap_sheet.specs.Sheet.{TrapSheet}
use Rattle.trap_sheet.specs.Reference.{columns, RunText, TotalText, line_at, RunsAt, FrameLengths, Accepted, Answers}

-- texts that agree in k columns from i on, and after these, agree from i on
part : (s t : List ℕ) (i k : ℕ) → columns i k s ≡ columns i k t → drop (i + k) s ≡ drop (i + k) t → drop i s ≡ drop i t
part s t i k p q = sym (take-append-drop k (drop i s)) ∙ ap₂ ◌++◌ p (drop-drop k i s ∙ q ∙ sym (drop-drop k i t)) ∙ take-append-drop k (drop i t)

-- eight digits are determined by what they spell
digits_only : (s t : List ℕ) (i n : ℕ) → i ≤ 32 → length (drop 40 s) ≡ 1 → length (drop 40 t) ≡ 1 → hex_number 0 (columns i 8 s) ≡ Some n → hex_number 0 (columns i 8 t) ≡ Some n
    → columns i 8 s ≡ columns i 8 t
digits_only s t i n h x y p q =
    let l : length (columns i 8 s) ≡ length (columns i 8 t) =
    omega (arith, h, x, y, length-drop 40 s, length-drop 40 t, length-take 8 (drop i s), length-take 8 (drop i t), length-drop i s, length-drop i t) in
    sym (digits_number (columns i 8 s) 0 n p).1 ∙ ap (λ (k : ℕ). hex_digits k n) l ∙ (digits_number (columns i 8 t) 0 n q).1

run_only : (name : List ℕ) (r : Run) (s t : List ℕ) → RunText name r s → RunText name r t → s ≡ t
run_only name r s t x y =
    let d = digits_only s t in
    let u = ap length x.feed in
    let v = ap length y.feed in
    part s t 0 4 (x.kind ∙ sym y.kind)
    (part s t 4 2 (x.blanks.0 ∙ sym y.blanks.0)
    (part s t 6 8 (d 6 r.first (omega arith) u v x.first y.first)
    (part s t 14 2 (x.blanks.1 ∙ sym y.blanks.1)
    (part s t 16 8 (d 16 r.last (omega arith) u v x.last y.last)
    (part s t 24 2 (x.blanks.2 ∙ sym y.blanks.2)
    (part s t 26 14 (right_only _ _ _ _ x.count y.count)
    (x.feed ∙ sym y.feed)))))))

total_only : (name : List ℕ) (n : ℕ) (s t : List ℕ) → TotalText name n s → TotalText name n t → s ≡ t
total_only name n s t x y =
    part s t 0 4 (x.kind ∙ sym y.kind)
    (part s t 4 22 (x.blanks ∙ sym y.blanks)
    (part s t 26 14 (right_only _ _ _ _ x.count y.count)
    (x.feed ∙ sym y.feed)))

module _ (s t : List ℕ) where
  line : (i : ℕ) → line_at i s ≡ line_at i t → drop (41 * (i + 1)) s ≡ drop (41 * (i + 1)) t → drop (41 * i) s ≡ drop (41 * i) t
  line i p q = let e : 41 * (i + 1) ≡ 41 * i + 41 = omega arith in part s t (41 * i) 41 p (rw e at q)

  runs_only : (name : List ℕ) (from : ℕ) (rs : List Run) → RunsAt name from rs s → RunsAt name from rs t
      → drop (41 * (from + length rs)) s ≡ drop (41 * (from + length rs)) t → drop (41 * from) s ≡ drop (41 * from) t
  runs_only name from [] x y q = rw (add-zero from) at q
  runs_only name from (r ∷ rs) x y q =
      let e : from + length (r ∷ rs) ≡ from + 1 + length rs = omega arith in
      line from (run_only name r _ _ x.0 y.0) (runs_only name (from + 1) rs x.1 y.1 (rw e at q))

same_answer : (x y : TrapSheet) → x.refusal ≡ y.refusal → x.output ≡ y.output → x.size ≡ y.size → x ≡ y
same_answer x y n o s = λ i. record { refusal = n i; output = o i; size = s i }

sheet_only : (output : List ℕ) (p r w : List Run) (x y : TrapSheet) → Accepted output p r w x → Accepted output p r w y → x ≡ y
sheet_only output p r w x y f g =
    let s = x.output in
    let t = y.output in
    let e : x.size ≡ y.size = f.size ∙ sym g.size in
    let k : drop x.size s ≡ drop x.size t = f.bytes_kept ∙ ap (λ (n : ℕ). drop n output) e ∙ sym g.bytes_kept ∙ ap (λ (n : ℕ). drop n t) (sym e) in
    let z = rw f.size at k in
    let o = line s t 0 (total_only _ _ _ _ f.total_ports g.total_ports)
    (line s t 1 (total_only _ _ _ _ f.total_reads g.total_reads)
    (line s t 2 (total_only _ _ _ _ f.total_writes g.total_writes)
    (runs_only s t _ 3 p f.ports g.ports
    (runs_only s t _ (3 + length p) r f.reads g.reads
    (runs_only s t _ (3 + length p + length r) w f.writes g.writes z))))) in
    same_answer x y (f.number ∙ sym g.number) o e

pub answer_only : (a b msr output : List ℕ) (size : ℕ) (p r w : List Run) (x y : TrapSheet) → Answers a b msr output size p r w x → Answers a b msr output size p r w y → x ≡ y
answer_only a b msr output size p r w x y f g = go known
  where
    known : FrameLengths a b msr ⊎ (FrameLengths a b msr → ⊥)
    known =
        dite (ℕ_discrete (length a) 4096)
        (λ i. dite (ℕ_discrete (length b) 4096)
        (λ j. dite (ℕ_discrete (length msr) 4096) (λ k. inl (i, j, k)) (λ k. inr (λ h. k h.2)))
        (λ j. inr (λ h. j h.1)))
        (λ i. inr (λ h. i h.0))

    go : FrameLengths a b msr ⊎ (FrameLengths a b msr → ⊥) → x ≡ y
    go (inr n) = f.frames n ∙ sym (g.frames n)
    go (inl h) =
        dite (dec_le (41 * (3 + length p + length r + length w)) (length output))
        (λ l. sheet_only output p r w x y (f.accepted h l) (g.accepted h l))
        (λ d. let l : length output < 41 * (3 + length p + length r + length w) = omega (arith, d) in f.room h l ∙ sym (g.room h l))
