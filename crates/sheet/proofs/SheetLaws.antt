-- Laws of the lines of a text, and of the whole sheet. Assumes nothing.
use Prim.Native.Nat.{ℕ, suc, ◌+◌, ◌-◌, ◌*◌, ◌≤◌, ◌<◌}
use native.Mathlib.Nat.{not-suc-le-zero, le_trans}
use native.Mathlib.Omega.{arith}
use mathlib.Core.Path.{◌≡◌, refl}
use mathlib.Core.Bool.{Bool, true, false, cond}
use mathlib.Core.List.{List, [], ◌∷◌, flat_map}
use borrow.Author.Tests.{lt-ltb, le-ltb, ltb-false}
use lib.ListN.{length, take, drop, length-append, length-drop, drop_of_length-le}
use lib.Dec.{eqb, ltb}
use lib.Seq.{take_all}
use Rattle.std.proofs.Common.{min, not, ap, sym, ◌∙◌, Option, None, Some, MatchOption}
use Rattle.std.specs.List.{position_or_len}
use Rattle.std.proofs.lemmas.List.Sums.{prefix_len-le-length}
use native.Mathlib.Decide.{dec_lt}
use mathlib.Core.Logic.{dite}
use Rattle.sheet.specs.Line.{printed_line}
use Rattle.sheet.specs.Sheet.{before, lines_of, printed_lines, too_long, sheet_of, line_length}
use Rattle.sheet.proofs.LineLaws.{line_room}

-- ---- the first line's length, as a chain of iterators finds it

length_first : (t : Bool) (m n : ℕ) → m ≡ n → cond (not t) (1 + m) 0 ≡ cond t 0 (suc n)
length_first true m n e = refl
length_first false m n e = omega (arith, e)

length_from : (s : List ℕ) → position_or_len (λ b. eqb b 10) s ≡ line_length s
unfolding line_length
length_from [] = refl
length_from (b ∷ rest) = length_first (eqb b 10) _ _ (length_from rest)

-- where it found a place, and where it found none
found : (t : Bool) (m k : ℕ) → m ≤ k → ltb m k ≡ t → (r : Option ℕ) → r ≡ cond t (Some m) None → MatchOption r (k ≡ m) (λ n. n ≡ m)
found true m k l h None e = cc
found true m k l h (Some n) e = let q : n ≡ m = cc in q
found false m k l h None e = omega (arith, ltb-false m k h)
found false m k l h (Some n) e = cc

pub length_found : (s : List ℕ) (r : Option ℕ) → r ≡ cond (ltb (position_or_len (λ b. eqb b 10) s) (length s)) (Some (position_or_len (λ b. eqb b 10) s)) None
    → MatchOption r (length s ≡ line_length s) (λ n. n ≡ line_length s)
length_found s r e = rw (← (length_from s)) (found _ _ _ (prefix_len-le-length _ s) refl r e)

-- ---- the first line, and the lines after it

first_line_at : (t : Bool) (b : ℕ) (rest : List ℕ) → (0 < length rest → lines_of rest ≡ take (line_length rest) rest ∷ lines_of (drop (suc (line_length rest)) rest))
    → cond t ([] ∷ lines_of rest) (before b (lines_of rest)) ≡ take (cond t 0 (suc (line_length rest))) (b ∷ rest) ∷ lines_of (drop (suc (cond t 0 (suc (line_length rest)))) (b ∷ rest))
unfolding lines_of line_length
first_line_at true b rest ih = refl
first_line_at false b [] ih = refl
first_line_at false b (x ∷ rest) ih = rw (ih (omega arith))

pub first_line : (s : List ℕ) → 0 < length s → lines_of s ≡ take (line_length s) s ∷ lines_of (drop (suc (line_length s)) s)
unfolding lines_of line_length
first_line [] h = absurd (not-suc-le-zero h)
first_line (b ∷ rest) h = first_line_at (eqb b 10) b rest (first_line rest)

pub lines_none : (s : List ℕ) → length s ≡ 0 → lines_of s ≡ []
unfolding lines_of
lines_none [] h = refl
lines_none (b ∷ rest) h = absurd (omega (arith, h))

behind : (s : List ℕ) (n m : ℕ) → m ≡ min (length s) (n + 1) → drop (suc n) s ≡ drop m s
behind s n m f =
    dite (dec_lt n (length s))
    (λ l. let k : m ≡ suc n = omega (arith, f) in ap (λ x. drop x s) (sym k))
    (λ l. drop_of_length-le s {i = suc n} (omega arith) ∙ sym (drop_of_length-le s {i = m} (omega (arith, f))))

-- the first line of n bytes, and the lines behind it and its line feed, from byte m on
pub lines_next : (s : List ℕ) (n m : ℕ) → 0 < length s → n ≡ line_length s → m ≡ min (length s) (n + 1)
    → lines_of s ≡ take n s ∷ lines_of (take (length s - m) (drop m s))
lines_next s n m h e f =
    let w : take (length s - m) (drop m s) ≡ drop m s = take_all (length s - m) (drop m s) (simp length-drop (omega arith)) in
    first_line s h ∙ rw (w, ← e) (ap (λ rest. take n s ∷ lines_of rest) (behind s n m f))

-- ---- six bytes of output for each byte of input are enough

-- for each line six, and one for each of its bytes after the first
room : List (List ℕ) → ℕ
room [] = 0
room (line ∷ lines) = 6 + (length line - 1) + room lines

room_enough : (lines : List (List ℕ)) → length (flat_map printed_line lines) ≤ room lines
unfolding room flat_map
room_enough [] = omega arith
room_enough (line ∷ lines) = rw length-append (omega (arith, line_room line, room_enough lines))

room_before : (b m : ℕ) (lines : List (List ℕ)) → room lines ≤ m → room (before b lines) ≤ 6 + m
unfolding room
room_before b m [] h = omega arith
room_before b m (line ∷ lines) h = omega arith

room_cond : (t : Bool) (b m : ℕ) (lines : List (List ℕ)) → room lines ≤ m → room (cond t ([] ∷ lines) (before b lines)) ≤ 6 + m
unfolding room
room_cond true b m lines h = omega arith
room_cond false b m lines h = room_before b m lines h

room_lines : (s : List ℕ) → room (lines_of s) ≤ 6 * length s
unfolding room lines_of
room_lines [] = omega arith
room_lines (b ∷ rest) =
    let h : room (cond (eqb b 10) ([] ∷ lines_of rest) (before b (lines_of rest))) ≤ 6 + 6 * length rest = room_cond (eqb b 10) b (6 * length rest) (lines_of rest) (room_lines rest) in
    omega arith

pub printed_room : (s : List ℕ) → length (printed_lines s) ≤ 6 * length s
unfolding printed_lines
printed_room s = le_trans (room_enough (lines_of s)) (room_lines s)

-- ---- the whole sheet

pub sheet_long : (s : List ℕ) → 65536 < length s → sheet_of s ≡ too_long
unfolding sheet_of
sheet_long s h = rw (lt-ltb 65536 (length s))

pub sheet_lines : (s : List ℕ) → length s ≤ 65536 → sheet_of s ≡ printed_lines s
unfolding sheet_of
sheet_lines s h = rw (le-ltb 65536 (length s))

-- for each byte of a text of which lines are printed, and for a longer one
pub sheet_room : (s : List ℕ) → length (sheet_of s) ≤ 393216
sheet_room s =
    dite (dec_lt 65536 (length s))
    (λ l. omega (arith, ap length (sheet_long s l)))
    (λ l. let h : length s ≤ 65536 = omega arith in omega (arith, ap length (sheet_lines s h), printed_room s))
