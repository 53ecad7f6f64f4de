-- Lists of edits: lists with nothing in common, however they are shuffled, and the last accepted edit that covers an item. Assumes nothing.
use Prim.Native.Nat.{ℕ}
use mathlib.Core.Path.{◌≡◌, refl, sym, ap, ◌∙◌}
use mathlib.Core.Bool.{Bool, true, false, cond, ◌&&◌}
use mathlib.Core.List.{List, [], ◌∷◌, ◌++◌, Memᴰ}
use lib.Dec.{T, eqb}
use borrow.Author.Tests.{eq-eqb, ne_eqb}
use Rattle.intercepts.specs.Edits.{Frames, lengths_of, Edit, edited, after, Item, Real, trapped, covers, asked, log, last_asked}
use Rattle.intercepts.specs.TwoHands.{Disjoint, DisjointLists, Shuffle, none, first, second, Bytes, Untouched}
use Rattle.intercepts.proofs.EditLaws.{lengths_kept, bytes_kept, alike, told, bit_after, either_order}

-- ---- at every place of a list

pub lengths : (f : Frames) (es : List Edit) → lengths_of (after f es) ≡ lengths_of f
lengths f [] = refl
lengths f (e ∷ es) = lengths (edited f e).frames es ∙ lengths_kept f e

pub stay_bytes : (f : Frames) (es : List Edit) → Bytes f → Bytes (after f es)
stay_bytes f [] w = w
stay_bytes f (e ∷ es) w = stay_bytes (edited f e).frames es (bytes_kept f e w)

pub anywhere : (f : Frames) (es : List Edit) (e : Edit) → (edited (after f es) e).refusal ≡ (edited f e).refusal
anywhere f es e = alike f (after f es) (lengths f es) e

after_append : (f : Frames) (xs ys : List Edit) → after f (xs ++ ys) ≡ after (after f xs) ys
after_append f [] ys = refl
after_append f (x ∷ xs) ys = after_append (edited f x).frames xs ys

-- ---- lists with nothing in common

-- an edit before a list or after it
past : (f : Frames) (d : Edit) (es : List Edit) → ((e : Edit) → Memᴰ e es → Disjoint d e) → after (edited f d).frames es ≡ (edited (after f es) d).frames
past f d [] apart = refl
past f d (e ∷ es) apart =
    ap (λ (g : Frames). after g es) (either_order f d e (apart e (Memᴰ.head refl))) ∙ past (edited f e).frames d es (λ c m. apart c (Memᴰ.tail m))

pub shuffled : (f : Frames) {xs ys zs : List Edit} → Shuffle xs ys zs → DisjointLists xs ys → after f zs ≡ after (after f xs) ys
shuffled f none apart = refl
shuffled f (first {e} s) apart = shuffled (edited f e).frames s (λ c d m n. apart c d (Memᴰ.tail m) n)
shuffled f (second {e} {xs} {ys} s) apart =
    shuffled (edited f e).frames s (λ c d m n. apart c d m (Memᴰ.tail n))
    ∙ ap (λ (g : Frames). after g ys) (past f e xs (λ d m i r t u. apart d e m (Memᴰ.head refl) i r u t))

-- one list after the other is a shuffle
alone : (xs : List Edit) → Shuffle xs [] xs
alone [] = none
alone (x ∷ xs) = first (alone xs)

behind : (xs ys : List Edit) → Shuffle xs ys (ys ++ xs)
behind xs [] = alone xs
behind xs (y ∷ ys) = second (behind xs ys)

pub two_lists : (f : Frames) (xs ys : List Edit) → DisjointLists xs ys → after (after f xs) ys ≡ after (after f ys) xs
two_lists f xs ys apart = sym (shuffled f (behind xs ys) apart) ∙ after_append f ys xs

-- ---- the last word

pub last_decides : (f : Frames) (es : List Edit) (i : Item) → Real i → trapped (after f es) i ≡ last_asked (log f es) i (trapped f i)
last_decides f [] i r = refl
last_decides f (e ∷ es) i r = last_decides (edited f e).frames es i r ∙ ap (last_asked (log (edited f e).frames es) i) (bit_after f e i r)

kept : (n : ℕ) (c v w : Bool) → (n ≡ 0 → T c → ⊥) → cond (eqb n 0 && c) v w ≡ w
kept n true v w out = rw (ne_eqb n 0 (λ e. out e tt))
kept n false v w out = sym (told n false v w (λ _. refl) (λ _. refl))

made : (n : ℕ) (c v w : Bool) → n ≡ 0 → T c → cond (eqb n 0 && c) v w ≡ v
made n true v w e t = rw (eq-eqb n 0 e)
made n false v w e t = absurd t

pub untouched : (f : Frames) (es : List Edit) (i : Item) → Real i → Untouched f es i → trapped (after f es) i ≡ trapped f i
untouched f [] i r out = refl
untouched f (e ∷ es) i r out =
    untouched (edited f e).frames es i r (λ d m z t. out d (Memᴰ.tail m) (sym (alike f (edited f e).frames (lengths_kept f e) d) ∙ z) t)
    ∙ bit_after f e i r ∙ kept _ (covers e i) _ _ (out e (Memᴰ.head refl))

pub decided : (f : Frames) (earlier : List Edit) (e : Edit) (later : List Edit) (i : Item) → Real i
    → (edited f e).refusal ≡ 0 → T (covers e i) → Untouched f later i → trapped (after f (earlier ++ (e ∷ later))) i ≡ asked e
decided f earlier e later i r z t out =
    ap (λ (g : Frames). trapped g i) (after_append f earlier (e ∷ later))
    ∙ untouched (edited g e).frames later i r (λ d m y. out d m (sym (alike f (edited g e).frames (lengths_kept g e ∙ lengths f earlier) d) ∙ y))
    ∙ bit_after g e i r ∙ made _ (covers e i) _ _ (anywhere f earlier e ∙ z) t
  where
    g : Frames
    g = after f earlier
