-- Laws of texts put into a buffer. Assumes nothing.
use Prim.Native.Nat.{ℕ, ◌+◌, ◌≤◌}
use native.Mathlib.Nat.{add-zero}
use native.Mathlib.Omega.{arith}
use mathlib.Core.Path.{◌≡◌, sym, ap, ◌∙◌}
use mathlib.Core.List.{List, [], ◌++◌, append_assoc}
use lib.ListN.{length, take, drop, length-append, length-take, length-drop, take-append-drop}
use lib.Seq.{paste, drop-drop, take-length, take_at, drop_at, length-take-le}
use Rattle.text.specs.Put.{put_at}

-- all of a text, pasted byte by byte
pub paste_all : (d : List ℕ) (at : ℕ) (text : List ℕ) → paste d at text (length text) ≡ put_at d at text
unfolding put_at
paste_all d at text = rw (take-length text, append_assoc)

-- no text put
pub put_none : (d : List ℕ) (at : ℕ) → put_at d at [] ≡ d
unfolding put_at
put_none d at = rw add-zero (take-append-drop at d)

pub put_length : (d : List ℕ) (at : ℕ) (text : List ℕ) → at + length text ≤ length d → length (put_at d at text) ≡ length d
unfolding put_at
put_length d at text h = simp (length-append, length-take, length-drop) (omega arith)

-- a text put after another is both put at once
pub put_put : (d : List ℕ) (at : ℕ) (a b : List ℕ) → at + length a ≤ length d → put_at (put_at d at a) (at + length a) b ≡ put_at d at (a ++ b)
unfolding put_at
put_put d at a b h =
    let k : at ≤ length d = omega arith in
    let e : length (take at d ++ a) ≡ at + length a = simp (length-append, length-take-le) in
    let D : List ℕ = drop (at + length a) d in
    let w : take at d ++ (a ++ D) ≡ take at d ++ a ++ D = sym (append_assoc (take at d) a D) in
    let t : take (at + length a) (take at d ++ (a ++ D)) ≡ take at d ++ a = rw w (take_at (take at d ++ a) D (at + length a) e) in
    let u : drop (at + length a + length b) (take at d ++ (a ++ D)) ≡ drop (at + length a + length b) d =
    rw (w, ← (drop-drop (length b) (at + length a) (take at d ++ a ++ D)), drop_at (take at d ++ a) D (at + length a) e) (drop-drop (length b) (at + length a) d) in
    let n : at + length (a ++ b) ≡ at + length a + length b = simp length-append (omega arith) in
    rw (t, u, n) (simp append_assoc)

-- the first part of a text is put, and the rest is still to be put after it
pub one_put : (d d₁ a b text : List ℕ) (at r : ℕ) → at + length text ≤ length d → text ≡ a ++ b
    → (r ≡ at + length a) × (d₁ ≡ put_at d at a) → (r + length b ≡ at + length text) × (put_at d₁ r b ≡ put_at d at text)
one_put d d₁ a b text at r h t p =
    let l : length text ≡ length a + length b = rw t (length-append a b) in
    let k : at + length a ≤ length d = omega arith in
    (omega (arith, p.0), rw (p.1, p.0, t) (put_put d at a b k))

-- two texts put one after the other
pub two_puts : (d d₁ d₂ a b text : List ℕ) (at r₁ r₂ : ℕ) → at + length text ≤ length d → text ≡ a ++ b
    → (r₁ ≡ at + length a) × (d₁ ≡ put_at d at a) → (r₂ ≡ r₁ + length b) × (d₂ ≡ put_at d₁ r₁ b) → (r₂ ≡ at + length text) × (d₂ ≡ put_at d at text)
two_puts d d₁ d₂ a b text at r₁ r₂ h t p q =
    let o = one_put d d₁ a b text at r₁ h t p in
    (q.0 ∙ o.0, q.1 ∙ o.1)

-- a text that was put at the start
pub put_first : (d d₁ text : List ℕ) (r : ℕ) → r ≡ 0 + length text → d₁ ≡ put_at d 0 text → (r ≡ length text) × (d₁ ≡ text ++ drop r d)
unfolding put_at
put_first d d₁ text r l p =
    let z : 0 + length text ≡ length text = omega arith in
    let k : r ≡ length text = rw z at l in
    (k, rw k (rw z at p))

-- a text at a buffer's start is within it
pub first_within : (d d₁ text : List ℕ) (r : ℕ) → r ≡ length text → d₁ ≡ text ++ drop r d → r ≤ length d₁
first_within d d₁ text r e p = omega (arith, e, ap length p ∙ length-append text (drop r d))
