-- Laws of a line as it is read by position, and of the line that is printed for it. Assumes nothing.
use Prim.Native.Nat.{ℕ, ◌+◌, ◌-◌, ◌≤◌, ◌<◌, zero-le}
use native.Mathlib.Omega.{arith}
use mathlib.Core.Path.{◌≡◌, refl, sym, ◌∙◌, subst}
use mathlib.Core.Bool.{Bool, true, false, cond, not}
use mathlib.Core.List.{List, [], ◌∷◌, ◌++◌}
use borrow.Author.Rules.{rules}
use borrow.Author.Tests.{ltb-false, lt-ltb, le-ltb, lt-leb, le-leb, eq-eqb, ne_eqb}
use lib.ListN.{length, get_or, take, drop, length-append, length-take}
use lib.Bits.{bit_and}
use lib.Dec.{ltb, eqb}
use Rattle.vmcs.specs.Control.{control_word, set_control}
use Rattle.std.specs.Prelude.{Result, Ok, Err}
use Rattle.std.proofs.Common.{Option, None, Some, ◌&&◌}
use Rattle.std.specs.Char.{is_ascii_lowercase}
use Rattle.std.specs.List.{list_all}
use native.Mathlib.Decide.{dec_lt}
use mathlib.Core.Logic.{dite}
use Rattle.text.specs.Hex.{and_then, hex_number}
use Rattle.sheet.specs.Line.{only_letters, word_at, words_from, case_of, answer_text, bad_text, case_text, printed_line}
use Rattle.sheet.specs.declared.line.Words.{Words}

-- ---- letters, as a chain of iterators tests them

letter_first : (b : ℕ) (rest : List ℕ) (t : Bool) → t ≡ only_letters rest → (is_ascii_lowercase b && t) ≡ only_letters (b ∷ rest)
unfolding only_letters
letter_first b rest t e =
    dite (dec_lt b 97)
    (λ l. rw (lt-ltb b 97 l, lt-leb 97 b l))
    (λ l. dite (dec_lt 122 b)
    (λ m. rw (le-ltb b 97 (omega arith), lt-ltb 122 b m, le-leb 97 b (omega arith), lt-leb b 122 m))
    (λ m. rw (le-ltb b 97 (omega arith), le-ltb 122 b (omega arith), le-leb 97 b (omega arith), le-leb b 122 (omega arith)) e))

pub letters_all : (s : List ℕ) → list_all is_ascii_lowercase s ≡ only_letters s
unfolding only_letters
letters_all [] = refl
letters_all (b ∷ rest) = letter_first b rest (list_all is_ascii_lowercase rest) (letters_all rest)

-- ---- one word: a tab with eight digits behind it, or no tab

pub word_tab : (line : List ℕ) (at : ℕ) (r : Option ℕ) → get_or line at 0 ≡ 9 → r ≡ hex_number 0 (take (at + 9 - (at + 1)) (drop (at + 1) line)) → r ≡ word_at line at
unfolding word_at
word_tab line at r t e =
    let n : at + 9 - (at + 1) ≡ 8 = omega arith in
    rw (e, n, eq-eqb (get_or line at 0) 9)

pub word_none : (line : List ℕ) (at : ℕ) → (get_or line at 0 ≡ 9 → ⊥) → ◌≡◌ {A = Option ℕ} None (word_at line at)
unfolding word_at
word_none line at t = rw (ne_eqb (get_or line at 0) 9)

-- ---- five words: what `search` is handed where a word was read; r is the answer of the call that read w

pub word_read : (r w : Option ℕ) (x : ℕ) (f : ℕ → Option Words) (k : Option Words) → r ≡ w → r ≡ Some x → k ≡ f x → k ≡ and_then w f
unfolding and_then
word_read r w x f k e g h = rw (← e, g) h

pub no_word : (r w : Option ℕ) (f : ℕ → Option Words) → r ≡ w → r ≡ None → ◌≡◌ {A = Option Words} None (and_then w f)
unfolding and_then
no_word r w f e g = rw (← e, g)

pub ruleset words = (word_read, no_word, rules)

-- ---- what holds of a bad line, and of five words after a name, holds of each line's case

abbrev pub IsWords : List ℕ → ℕ → ℕ → ℕ → ℕ → ℕ → ℕ → Type 0
IsWords line n a b c d e =
    (word_at line n ≡ Some a) × (word_at line (n + 9) ≡ Some b) × (word_at line (n + 18) ≡ Some c) × (word_at line (n + 27) ≡ Some d) × (word_at line (n + 36) ≡ Some e)

abbrev pub words_of : ℕ → ℕ → ℕ → ℕ → ℕ → ℕ → Words
words_of n a b c d e = record { name = n; allowed0 = a; allowed1 = b; old = c; set = d; clear = e }

module _ (P : Option Words → Type 0) (bad : P None) where
  then_ind : (w : Option ℕ) (f : ℕ → Option Words) → ((x : ℕ) → w ≡ Some x → P (f x)) → P (and_then w f)
  unfolding and_then
  then_ind (Some x) f h = h x refl
  then_ind None f h = bad

  words_ind : (line : List ℕ) (n : ℕ) → ((a b c d e : ℕ) → IsWords line n a b c d e → P (Some (words_of n a b c d e))) → P (words_from line n)
  unfolding words_from
  words_ind line n h =
      then_ind _ _ (λ a p. then_ind _ _ (λ b q. then_ind _ _ (λ c r. then_ind _ _ (λ d s. then_ind _ _ (λ e t. h a b c d e (p, q, r, s, t))))))

  cond_ind : (t : Bool) (x y : Option Words) → (t ≡ true → P x) → (t ≡ false → P y) → P (cond t x y)
  cond_ind true x y p q = p refl
  cond_ind false x y p q = q refl

  pub case_ind : (line : List ℕ)
      → (46 ≤ length line → length line ≤ 61 → only_letters (take (length line - 45) line) ≡ true → (a b c d e : ℕ) → IsWords line (length line - 45) a b c d e → P (Some (words_of (length line - 45) a b c d e)))
      → P (case_of line)
  unfolding case_of
  case_ind line h =
      let n : ℕ = length line - 45 in
      let last : Option Words = cond (only_letters (take n line)) (words_from line n) None in
      cond_ind (ltb (length line) 46) None (cond (ltb 61 (length line)) None last) (λ f. bad)
      (λ f. cond_ind (ltb 61 (length line)) None last (λ g. bad)
      (λ g. cond_ind (only_letters (take n line)) (words_from line n) None
      (λ i. words_ind line n (h (ltb-false (length line) 46 f) (ltb-false 61 (length line) g) i)) (λ i. bad)))

-- ---- what is printed for a line, where r is the answer of the call that read it

NameWithin : List ℕ → Option Words → Type 0
NameWithin line (Some w) = w.name ≤ length line
NameWithin line None = 0 ≤ 0

module _ (line : List ℕ) (r : Option Words) (e : r ≡ case_of line) where
  pub name_within : (w : Words) → r ≡ Some w → w.name ≤ length line
  unfolding NameWithin
  name_within w g =
      subst (NameWithin line) (sym e ∙ g) (case_ind (NameWithin line) zero-le line (λ h k i a b c d e w. omega arith))

  pub line_words : (w : Words) (k : Result ℕ ℕ) → r ≡ Some w → k ≡ set_control 32 w.allowed0 w.allowed1 w.old w.set w.clear → printed_line line ≡ take w.name line ++ answer_text k
  unfolding printed_line
  line_words w k g s = rw (← e, g, s)

  pub line_bad : r ≡ None → printed_line line ≡ bad_text
  unfolding printed_line
  line_bad g = rw (← e, g)

-- the number of a refusal is one decimal digit, as `answer_text` takes it
pub refusal_digit : (w a b c d e n : ℕ) → set_control w a b c d e ≡ Err n → n < 10
unfolding set_control
refusal_digit w a b c d e n =
    digit (not (eqb (bit_and a b) a)) (not (eqb (bit_and d e) 0)) (not (eqb (bit_and d b) d)) (not (eqb (bit_and a e) 0)) (control_word w a b c d e)
  where
    digit : (six seven eight nine : Bool) (word : ℕ)
        → cond {A = Result ℕ ℕ} six (Err 6) (cond seven (Err 7) (cond eight (Err 8) (cond nine (Err 9) (Ok word)))) ≡ Err n → n < 10
    digit true seven eight nine word e = let f : 6 ≡ n = cc in omega arith
    digit false true eight nine word e = let f : 7 ≡ n = cc in omega arith
    digit false false true nine word e = let f : 8 ≡ n = cc in omega arith
    digit false false false true word e = let f : 9 ≡ n = cc in omega arith
    digit false false false false word e = let z : ◌≡◌ {A = ℕ} 0 1 = cc in omega arith

-- ---- how long the printed line is at most

answer_room : (k : Result ℕ ℕ) → length (answer_text k) ≤ 11
unfolding answer_text
answer_room (Ok w) = omega arith
answer_room (Err n) = omega arith

pub line_room : (line : List ℕ) → length (printed_line line) ≤ 6 + (length line - 1)
unfolding printed_line
line_room line =
    case_ind (λ k. length (case_text line k) ≤ 6 + (length line - 1)) (omega arith) line
    (λ h k i a b c d e w. simp (length-append, length-take) (omega (arith, answer_room (set_control 32 a b c d e))))
