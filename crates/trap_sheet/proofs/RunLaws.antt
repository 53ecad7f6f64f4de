-- Laws of the runs of one range: each item of the set lies in exactly one, and nothing else in any; how many there are; what the next run is. Assumes nothing.
use mathlib.Core.Path.{◌≡◌, refl, sym, ap, ap₂, ◌∙◌}
use mathlib.Core.Bool.{Bool, true, false, cond}
use mathlib.Core.List.{List, [], ◌∷◌}
use mathlib.Core.Logic.{dite}
use Prim.Native.Nat.{ℕ, zero, suc, ◌+◌, ◌-◌, ◌*◌, ◌≤◌, ◌<◌}
use native.Mathlib.Nat.{add-zero, zero-add}
use native.Mathlib.Decide.{dec_lt, ℕ_discrete}
use native.Mathlib.Omega.{arith}
use borrow.Author.Tests.{le-leb, lt-leb, eq-eqb, ne_eqb}
use lib.ListN.{length}
use Rattle.bits.specs.Words.{flag}
use Rattle.trap_sheet.specs.Runs.{Run, count_of, joined, runs_of, shifted_by}
use Rattle.trap_sheet.specs.Reference.{holding, Ascending, items_of}

-- ---- runs are ascending

pub weaker : (n m : ℕ) (rs : List Run) → n ≤ m → Ascending m rs → Ascending n rs
weaker n m [] h a = tt
weaker n m (r ∷ rs) h a = (omega (arith, a.0), a.1, a.2)

joined_ascending : (n : ℕ) (rs : List Run) → Ascending (n + 1) rs → Ascending n (joined n rs)
joined_ascending n [] a = (omega arith, omega arith, tt)
joined_ascending n (r ∷ rs) a =
    dite (ℕ_discrete r.first (n + 1))
    (λ e. simp (eq-eqb r.first (n + 1) e) (omega arith, omega (arith, a.1), a.2))
    (λ d. simp (ne_eqb r.first (n + 1) d) (omega arith, omega arith, (omega (arith, a.0), a.1, a.2)))

pub ascending : (t : ℕ → Bool) (n k : ℕ) → Ascending n (runs_of t n k)
unfolding runs_of
ascending t n zero = tt
ascending t n (suc k) = go (t n) (runs_of t (n + 1) k) (ascending t (n + 1) k)
  where
    go : (b : Bool) (rs : List Run) → Ascending (n + 1) rs → Ascending n (cond b (joined n rs) rs)
    go true rs a = joined_ascending n rs a
    go false rs a = weaker n (n + 1) rs (omega arith) a

-- ---- each item in exactly one run

pub none_below : (m from : ℕ) (rs : List Run) → m < from → Ascending from rs → holding m rs ≡ 0
none_below m from [] h a = refl
none_below m from (r ∷ rs) h a =
    let l : m < r.first = omega (arith, a.0) in
    let z = none_below m (r.last + 2) rs (omega (arith, a.1)) a.2 in
    rw (lt-leb r.first m l) (omega (arith, z))

-- an item put before runs changes nothing for those after it
joined_after : (n m : ℕ) (rs : List Run) → n < m → Ascending (n + 1) rs → holding m (joined n rs) ≡ holding m rs
joined_after n m [] h a = rw (le-leb n m (omega arith), lt-leb m n h) (omega arith)
joined_after n m (r ∷ rs) h a =
    dite (ℕ_discrete r.first (n + 1))
    (λ e. rw (eq-eqb r.first (n + 1) e, le-leb n m (omega arith), le-leb r.first m (omega (arith, e))))
    (λ d. rw (ne_eqb r.first (n + 1) d, le-leb n m (omega arith), lt-leb m n h) (omega arith))

joined_self : (n : ℕ) (rs : List Run) → Ascending (n + 1) rs → holding n (joined n rs) ≡ 1
joined_self n [] a = rw (le-leb n n (omega arith)) (omega arith)
joined_self n (r ∷ rs) a =
    dite (ℕ_discrete r.first (n + 1))
    (λ e. let z = none_below n (r.last + 2) rs (omega (arith, a.1, e)) a.2 in
    rw (eq-eqb r.first (n + 1) e, le-leb n n (omega arith), le-leb n r.last (omega (arith, e, a.1))) (omega (arith, z)))
    (λ d. let z = none_below n (n + 1) (r ∷ rs) (omega arith) a in
    rw (ne_eqb r.first (n + 1) d, le-leb n n (omega arith)) (omega (arith, z)))

held_joined : (n m : ℕ) (b : Bool) (rs : List Run) → n < m → Ascending (n + 1) rs → holding m (cond b (joined n rs) rs) ≡ holding m rs
held_joined n m true rs h a = joined_after n m rs h a
held_joined n m false rs h a = refl

pub exactly_one : (t : ℕ → Bool) (n k m : ℕ) → n ≤ m → m < n + k → holding m (runs_of t n k) ≡ flag (t m)
unfolding runs_of
exactly_one t n zero m l h = absurd (omega arith)
exactly_one t n (suc k) m l h =
    dite (ℕ_discrete m n)
    (λ e. rw e (here (t n) (runs_of t (n + 1) k) (ascending t (n + 1) k)))
    (λ d. held_joined n m (t n) (runs_of t (n + 1) k) (omega arith) (ascending t (n + 1) k) ∙ exactly_one t (n + 1) k m (omega arith) (omega arith))
  where
    here : (b : Bool) (rs : List Run) → Ascending (n + 1) rs → holding n (cond b (joined n rs) rs) ≡ flag b
    here true rs a = joined_self n rs a
    here false rs a = none_below n (n + 1) rs (omega arith) a

-- ---- outside of the range

pub none_past : (t : ℕ → Bool) (n k m : ℕ) → n + k ≤ m → holding m (runs_of t n k) ≡ 0
unfolding runs_of
none_past t n zero m l = refl
none_past t n (suc k) m l = held_joined n m (t n) (runs_of t (n + 1) k) (omega arith) (ascending t (n + 1) k) ∙ none_past t (n + 1) k m (omega arith)

pub runs_outside : (t : ℕ → Bool) (n k m : ℕ) → (n ≤ m → m < n + k → ⊥) → holding m (runs_of t n k) ≡ 0
runs_outside t n k m h =
    dite (dec_lt m n)
    (λ l. none_below m n (runs_of t n k) l (ascending t n k))
    (λ d. none_past t n k m (dite (dec_lt m (n + k)) (λ l. absurd (h (omega arith) l)) (λ g. omega arith)))

-- ---- how many runs, and how many items

pub held : (m : ℕ) (r : Run) (rs : List Run) → r.first ≤ m → m ≤ r.last → holding m (r ∷ rs) ≡ 1 + holding m rs
held m r rs h k = rw (le-leb r.first m, le-leb m r.last)

-- runs that hold nothing from e on end before it
pub ends : (e : ℕ) (r : Run) (rs : List Run) → r.first ≤ r.last → ((m : ℕ) → e ≤ m → holding m (r ∷ rs) ≡ 0) → r.last < e
ends e r rs h o =
    dite (dec_lt r.last e) (λ l. l)
    (λ d. let k : e ≤ r.last = omega arith in
    let z : r.last ≤ r.last = omega arith in
    absurd (omega (arith, o r.last k, held r.last r rs h z)))

room : (f e : ℕ) (rs : List Run) → f ≤ e + 1 → Ascending f rs → ((m : ℕ) → e ≤ m → holding m rs ≡ 0) → 2 * length rs + f ≤ e + 1
room f e [] h a o = omega arith
room f e (r ∷ rs) h a o =
    let l : r.last < e = ends e r rs a.1 o in
    omega (arith, a.0, a.1, room (r.last + 2) e rs (omega arith) a.2 (λ m g. omega (arith, o m g)))

pub most : (t : ℕ → Bool) (n k : ℕ) → 2 * length (runs_of t n k) ≤ k + 1
most t n k = omega (arith, room n (n + k) (runs_of t n k) (omega arith) (ascending t n k) (none_past t n k))

items_joined : (n : ℕ) (rs : List Run) → Ascending (n + 1) rs → items_of (joined n rs) ≡ 1 + items_of rs
items_joined n [] a = omega arith
items_joined n (r ∷ rs) a =
    dite (ℕ_discrete r.first (n + 1))
    (λ e. rw (eq-eqb r.first (n + 1) e) (omega (arith, e, a.1)))
    (λ d. rw (ne_eqb r.first (n + 1) d) (omega arith))

-- the items of a set are those that its runs hold
pub counted : (t : ℕ → Bool) (n k : ℕ) → count_of t n k ≡ items_of (runs_of t n k)
unfolding count_of runs_of
counted t n zero = refl
counted t n (suc k) = go (t n) (count_of t (n + 1) k) (runs_of t (n + 1) k) (ascending t (n + 1) k) (counted t (n + 1) k)
  where
    go : (b : Bool) (c : ℕ) (rs : List Run) → Ascending (n + 1) rs → c ≡ items_of rs → flag b + c ≡ items_of (cond b (joined n rs) rs)
    go true c rs a e = omega (arith, items_joined n rs a)
    go false c rs a e = omega arith

pub count_most : (t : ℕ → Bool) (n k : ℕ) → count_of t n k ≤ k
unfolding count_of
count_most t n zero = omega arith
count_most t n (suc k) = go (t n) (count_of t (n + 1) k) (count_most t (n + 1) k)
  where
    go : (b : Bool) (c : ℕ) → c ≤ k → flag b + c ≤ suc k
    go true c h = omega arith
    go false c h = omega arith

-- ---- the same set, d higher

joined_shifted : (d n : ℕ) (rs : List Run) → joined (d + n) (shifted_by d rs) ≡ shifted_by d (joined n rs)
joined_shifted d n [] = refl
joined_shifted d n (r ∷ rs) =
    dite (ℕ_discrete r.first (n + 1))
    (λ e. rw (eq-eqb r.first (n + 1) e, eq-eqb (d + r.first) (d + n + 1) (omega (arith, e))))
    (λ x. rw (ne_eqb r.first (n + 1) x, ne_eqb (d + r.first) (d + n + 1) (λ e. x (omega (arith, e)))))

pub shifted_length : (d : ℕ) (rs : List Run) → length (shifted_by d rs) ≡ length rs
shifted_length d [] = refl
shifted_length d (r ∷ rs) = ap suc (shifted_length d rs)

-- two tests that agree from n and from m on
module _ (t u : ℕ → Bool) (n m k : ℕ) (h : (i : ℕ) → i < suc k → t (n + i) ≡ u (m + i)) where
  here_same : t n ≡ u m
  here_same = ap t (sym (add-zero n)) ∙ h 0 (omega arith) ∙ ap u (add-zero m)

  later_same : (i : ℕ) → i < k → t (n + 1 + i) ≡ u (m + 1 + i)
  later_same i l =
      let e : n + 1 + i ≡ n + suc i = omega arith in
      let f : m + 1 + i ≡ m + suc i = omega arith in
      rw (e, f) (h (suc i) (omega arith))

pub count_same : (t u : ℕ → Bool) (n m k : ℕ) → ((i : ℕ) → i < k → t (n + i) ≡ u (m + i)) → count_of t n k ≡ count_of u m k
unfolding count_of
count_same t u n m zero h = refl
count_same t u n m (suc k) h = rw (here_same t u n m k h, count_same t u (n + 1) (m + 1) k (later_same t u n m k h))

pub runs_shifted : (t u : ℕ → Bool) (d n k : ℕ) → ((i : ℕ) → i < k → t (d + n + i) ≡ u (n + i)) → runs_of t (d + n) k ≡ shifted_by d (runs_of u n k)
unfolding runs_of
runs_shifted t u d n zero h = refl
runs_shifted t u d n (suc k) h =
    let e : d + n + 1 ≡ d + (n + 1) = omega arith in
    let later : (i : ℕ) → i < k → t (d + (n + 1) + i) ≡ u (n + 1 + i) = λ i l. rw (← e) (later_same t u (d + n) n k h i l) in
    rw (here_same t u (d + n) n k h, e, runs_shifted t u d (n + 1) k later) (go (u n) (runs_of u (n + 1) k))
  where
    go : (b : Bool) (rs : List Run) → cond b (joined (d + n) (shifted_by d rs)) (shifted_by d rs) ≡ shifted_by d (cond b (joined n rs) rs)
    go true rs = joined_shifted d n rs
    go false rs = refl

-- ---- the next run

-- items that are not in the set
skipped : (t : ℕ → Bool) (n j k : ℕ) → ((m : ℕ) → n ≤ m → m < n + j → t m ≡ false) → runs_of t n (j + k) ≡ runs_of t (n + j) k
unfolding runs_of
skipped t n zero k h = rw (zero-add k, add-zero n)
skipped t n (suc j) k h =
    let s : suc j + k ≡ suc (j + k) = omega arith in
    let e : n + 1 + j ≡ n + suc j = omega arith in
    rw (s, h n (omega arith) (omega arith)) (skipped t (n + 1) j k (λ m (a : n + 1 ≤ m) (b : m < n + 1 + j). h m (omega arith) (omega arith)) ∙ ap (λ (x : ℕ). runs_of t x k) e)

-- an item alone before runs that start at least two after it
alone : (n : ℕ) (rs : List Run) → Ascending (n + 2) rs → joined n rs ≡ record { first = n; last = n } ∷ rs
alone n [] a = refl
alone n (r ∷ rs) a = simp (ne_eqb r.first (n + 1) (λ e. omega (arith, a.0, e)))

ended : (t : ℕ → Bool) (n k : ℕ) → (0 < k → t (n + 1) ≡ false) → Ascending (n + 2) (runs_of t (n + 1) k)
unfolding runs_of
ended t n zero h = tt
ended t n (suc k) h = rw (h (omega arith)) (weaker (n + 2) (n + 1 + 1) (runs_of t (n + 1 + 1) k) (omega arith) (ascending t (n + 1 + 1) k))

taken : (t : ℕ → Bool) (n j k : ℕ) → ((m : ℕ) → n ≤ m → m < n + suc j → t m ≡ true) → (0 < k → t (n + suc j) ≡ false)
    → runs_of t n (suc j + k) ≡ record { first = n; last = n + j } ∷ runs_of t (n + suc j) k
unfolding runs_of
taken t n zero k h f =
    let s : 1 + k ≡ suc k = omega arith in
    rw (s, h n (omega arith) (omega arith), add-zero n) (alone n (runs_of t (n + 1) k) (ended t n k f))
taken t n (suc j) k h f =
    let s : suc (suc j) + k ≡ suc (suc j + k) = omega arith in
    let e : n + 1 + suc j ≡ n + suc (suc j) = omega arith in
    let l : n + 1 + j ≡ n + suc j = omega arith in
    let ih = taken t (n + 1) j k (λ m (a : n + 1 ≤ m) (b : m < n + 1 + suc j). h m (omega arith) (omega arith)) (λ p. ap t e ∙ f p) in
    rw (s, h n (omega arith) (omega arith), ih, e, l) (simp (eq-eqb (n + 1) (n + 1) refl))

-- as a search by places finds them: `e` is one past the last item
module _ (t : ℕ → Bool) (e n p : ℕ) where
  pub runs_skipped : n ≤ p → p ≤ e → ((m : ℕ) → n ≤ m → m < p → t m ≡ false) → runs_of t n (e - n) ≡ runs_of t p (e - p)
  runs_skipped h k f =
      let q : e - n ≡ (p - n) + (e - p) = omega arith in
      let r : n + (p - n) ≡ p = omega arith in
      rw q (skipped t n (p - n) (e - p) (λ m (a : n ≤ m) (b : m < n + (p - n)). f m a (omega arith)) ∙ ap (λ (x : ℕ). runs_of t x (e - p)) r)

  pub runs_taken : n < p → p ≤ e → ((m : ℕ) → n ≤ m → m < p → t m ≡ true) → (p < e → t p ≡ false)
      → runs_of t n (e - n) ≡ record { first = n; last = p - 1 } ∷ runs_of t p (e - p)
  runs_taken h k f g =
      let q : e - n ≡ suc (p - n - 1) + (e - p) = omega arith in
      let r : n + suc (p - n - 1) ≡ p = omega arith in
      let s : n + (p - n - 1) ≡ p - 1 = omega arith in
      rw q (taken t n (p - n - 1) (e - p) (λ m (a : n ≤ m) (b : m < n + suc (p - n - 1)). f m a (omega arith)) (λ (z : 0 < e - p). ap t r ∙ g (omega arith))
      ∙ ap₂ (λ (x y : ℕ). record { first = n; last = x } ∷ runs_of t y (e - p)) s r)
