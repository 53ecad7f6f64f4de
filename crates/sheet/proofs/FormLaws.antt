-- The reading by position is document 01's form: a line is read as a case exactly where it has that form, and what is printed for it
-- is as document 01 says. Assumes nothing.
use Prim.Native.Nat.{ℕ, ◌+◌, ◌-◌, ◌^◌, ◌≤◌, ◌<◌}
use native.Mathlib.Numerals.{add-one}
use native.Mathlib.Omega.{arith}
use mathlib.Core.Path.{◌≡◌, refl, sym, ap, subst, ◌∙◌}
use mathlib.Core.Bool.{Bool, true, false, cond}
use mathlib.Core.List.{List, [], ◌∷◌, ◌++◌, append_assoc}
use borrow.Author.Tests.{eqb-true, eq-eqb, le-ltb}
use lib.Dec.{eqb}
use lib.ListN.{length, get_or, take, drop, length-append, length-take, length-drop, take-append-drop, drop_of_length-le}
use lib.Seq.{drop-cons, drop-drop, take_at, drop_at, get_or_at}
use Rattle.text.specs.Hex.{hex_digits, and_then, hex_number}
use Rattle.sheet.specs.Line.{only_letters, word_at, words_from, case_of, bad_text, case_text, printed_line}
use Rattle.sheet.specs.Form.{word_text, IsCase, Prints}
use Rattle.std.proofs.Common.{Option, None, Some}
use Rattle.sheet.specs.declared.line.Words.{Words}
use Rattle.text.proofs.HexLaws.{number_digits, digits_number}
use Rattle.sheet.proofs.LineLaws.{IsWords, words_of, case_ind, name_within}

-- ---- one word

-- a word's text is read as the word
word_here : (front rest : List ℕ) (w at : ℕ) → length front ≡ at → w < 2 ^ 32 → word_at (front ++ (word_text w ++ rest)) at ≡ Some w
unfolding word_at
word_here front rest w at l h =
    let line : List ℕ = front ++ (word_text w ++ rest) in
    let t : get_or line at 0 ≡ 9 = get_or_at front 9 (hex_digits 8 w ++ rest) 0 at l in
    let k : length (front ++ (9 ∷ [])) ≡ at + 1 = simp length-append (omega arith) in
    let d : drop (at + 1) line ≡ hex_digits 8 w ++ rest = rw (← (append_assoc front (9 ∷ []) (hex_digits 8 w ++ rest))) (drop_at (front ++ (9 ∷ [])) (hex_digits 8 w ++ rest) (at + 1) k) in
    let n : hex_number 0 (hex_digits 8 w) ≡ Some w = number_digits 8 0 w ∙ ap Some (omega arith) in
    rw (d, eq-eqb (get_or line at 0) 9 t) n

-- what is read as a word is the word's text
tab_case : (t : Bool) (x : Option ℕ) (w : ℕ) → cond t x None ≡ Some w → (t ≡ true) × (x ≡ Some w)
tab_case true x w e = (refl, e)
tab_case false x w e = cc

word_text_lem : (line : List ℕ) (at w next : ℕ) → next ≡ at + 9 → next ≤ length line → word_at line at ≡ Some w
    → (drop at line ≡ word_text w ++ drop next line) × (w < 2 ^ 32)
unfolding word_at
word_text_lem line at w next q h e =
    let D : List ℕ = drop (at + 1) line in
    let c = tab_case (eqb (get_or line at 0) 9) (hex_number 0 (take 8 D)) w e in
    let t : get_or line at 0 ≡ 9 = eqb-true (get_or line at 0) 9 c.0 in
    let l : length (take 8 D) ≡ 8 = simp (length-take, length-drop) (omega arith) in
    let x = rw l at (digits_number (take 8 D) 0 w c.1) in
    let k : at < length line = omega arith in
    let s : at + 1 + 8 ≡ next = omega arith in
    let f : drop at line ≡ 9 ∷ D = rw (drop-cons line at 0 k, t, add-one) in
    let r : drop 8 D ≡ drop next line = drop-drop 8 (at + 1) line ∙ ap (λ (m : ℕ). drop m line) s in (
      f ∙ ap (λ (y : List ℕ). 9 ∷ y) (sym (take-append-drop 8 D) ∙ ap (λ (y : List ℕ). y ++ drop 8 D) (sym x.1) ∙ ap (λ (y : List ℕ). hex_digits 8 w ++ y) r),
      omega (arith, x.0),
    )

-- ---- a line that is read as a case has the form

CaseForm : List ℕ → Option Words → Type 0
CaseForm line (Some w) = IsCase line (take w.name line) w.allowed0 w.allowed1 w.old w.set w.clear
CaseForm line None = 0 ≤ 0

pub read_form : (line : List ℕ) (w : Words) → case_of line ≡ Some w → (w.name ≤ length line) × IsCase line (take w.name line) w.allowed0 w.allowed1 w.old w.set w.clear
unfolding CaseForm
read_form line w r =
    (name_within line (case_of line) refl w r, subst (CaseForm line) r (case_ind (CaseForm line) (omega arith) line form))
  where
    form : 46 ≤ length line → length line ≤ 61 → only_letters (take (length line - 45) line) ≡ true → (a b c d e : ℕ)
        → IsWords line (length line - 45) a b c d e → CaseForm line (Some (words_of (length line - 45) a b c d e))
    form h k i a b c d e w =
        let n : ℕ = length line - 45 in
        let z : drop (n + 45) line ≡ [] = drop_of_length-le line {i = n + 45} (omega arith) in
        let wa = word_text_lem line n a (n + 9) refl (omega arith) w.0 in
        let wb = word_text_lem line (n + 9) b (n + 18) (omega arith) (omega arith) w.1 in
        let wc = word_text_lem line (n + 18) c (n + 27) (omega arith) (omega arith) w.2 in
        let wd = word_text_lem line (n + 27) d (n + 36) (omega arith) (omega arith) w.3 in
        let we = word_text_lem line (n + 36) e (n + 45) (omega arith) (omega arith) w.4 in
        record {
          letters = i;
          least = simp length-take (omega arith);
          most = simp length-take (omega arith);
          words = (wa.1, wb.1, wc.1, wd.1, we.1);
          text = sym (take-append-drop n line) ∙ ap (λ (r : List ℕ). take n line ++ r)
              (wa.0 ∙ ap (λ (r : List ℕ). word_text a ++ r)
              (wb.0 ∙ ap (λ (r : List ℕ). word_text b ++ r)
              (wc.0 ∙ ap (λ (r : List ℕ). word_text c ++ r)
              (wd.0 ∙ ap (λ (r : List ℕ). word_text d ++ r)
              (we.0 ∙ ap (λ (r : List ℕ). word_text e ++ r) z)))));
        }

-- ---- a line of the form is read as its case

read_words : (line : List ℕ) (n a b c d e : ℕ) → length line ≡ n + 45 → 1 ≤ n → n ≤ 16 → only_letters (take n line) ≡ true → IsWords line n a b c d e
    → case_of line ≡ Some (words_of n a b c d e)
unfolding case_of words_from and_then
read_words line n a b c d e l lo hi i w =
    let m : length line - 45 ≡ n = omega arith in
    rw (le-ltb (length line) 46 (omega arith), le-ltb 61 (length line) (omega arith), m, i, w.0, w.1, w.2, w.3, w.4)

module _ (line name : List ℕ) (a b c d e : ℕ) (is : IsCase line name a b c d e) where
  name_first : take (length name) line ≡ name
  name_first = rw is.text (take_at name (word_text a ++ (word_text b ++ (word_text c ++ (word_text d ++ word_text e)))) (length name) refl)

  pub form_read : case_of line ≡ Some (words_of (length name) a b c d e)
  form_read =
      let n : ℕ = length name in
      let f₁ = name ++ word_text a in
      let f₂ = f₁ ++ word_text b in
      let f₃ = f₂ ++ word_text c in
      let f₄ = f₃ ++ word_text d in
      let l₁ : length f₁ ≡ n + 9 = length-append name (word_text a) in
      let l₂ : length f₂ ≡ n + 18 = length-append f₁ (word_text b) ∙ omega arith in
      let l₃ : length f₃ ≡ n + 27 = length-append f₂ (word_text c) ∙ omega arith in
      let l₄ : length f₄ ≡ n + 36 = length-append f₃ (word_text d) ∙ omega arith in
      let e₀ = is.text in
      let e₁ = e₀ ∙ sym (append_assoc name (word_text a) (word_text b ++ (word_text c ++ (word_text d ++ word_text e)))) in
      let e₂ = e₁ ∙ sym (append_assoc f₁ (word_text b) (word_text c ++ (word_text d ++ word_text e))) in
      let e₃ = e₂ ∙ sym (append_assoc f₂ (word_text c) (word_text d ++ word_text e)) in
      let e₄ = e₃ ∙ sym (append_assoc f₃ (word_text d) (word_text e)) in
      let l : length line ≡ n + 45 = rw e₄ (length-append f₄ (word_text e) ∙ omega arith) in
      read_words line n a b c d e l is.least is.most (ap only_letters name_first ∙ is.letters) (
        ap (λ (x : List ℕ). word_at x n) e₀ ∙ word_here name (word_text b ++ (word_text c ++ (word_text d ++ word_text e))) a n refl is.words.0,
        ap (λ (x : List ℕ). word_at x (n + 9)) e₁ ∙ word_here f₁ (word_text c ++ (word_text d ++ word_text e)) b (n + 9) l₁ is.words.1,
        ap (λ (x : List ℕ). word_at x (n + 18)) e₂ ∙ word_here f₂ (word_text d ++ word_text e) c (n + 18) l₂ is.words.2,
        ap (λ (x : List ℕ). word_at x (n + 27)) e₃ ∙ word_here f₃ (word_text e) d (n + 27) l₃ is.words.3,
        ap (λ (x : List ℕ). word_at x (n + 36)) e₄ ∙ word_here f₄ [] e (n + 36) l₄ is.words.4,
      )

-- ---- what is printed

other_text : (line : List ℕ) → ((name : List ℕ) (a b c d e : ℕ) → IsCase line name a b c d e → ⊥) → (k : Option Words) → case_of line ≡ k → case_text line k ≡ bad_text
other_text line never (Some w) r = absurd (never (take w.name line) w.allowed0 w.allowed1 w.old w.set w.clear (read_form line w r).1)
other_text line never None r = refl

pub prints : (line : List ℕ) → Prints line (printed_line line)
unfolding printed_line
prints line =
    record {
      case = λ name a b c d e is. rw (form_read line name a b c d e is, name_first line name a b c d e is);
      other = λ never. other_text line never (case_of line) refl;
    }
