-- The runs of a kind, over its ranges: they are those of the trapped items, which one list alone is, and their lengths add up to the total. Assumes nothing.
use mathlib.Core.Path.{◌≡◌, refl, sym, ap, ap₂, ◌∙◌}
use mathlib.Core.Bool.{Bool, true, false}
use mathlib.Core.List.{List, [], ◌∷◌, ◌++◌, append-nil}
use mathlib.Core.Logic.{inl, inr, ⊎_elim, dite}
use Prim.Native.Nat.{ℕ, ◌+◌, ◌≤◌, ◌<◌}
use native.Mathlib.Nat.{add-zero, zero-add}
use native.Mathlib.Decide.{dec_le, dec_lt}
use native.Mathlib.Omega.{arith}
use borrow.Author.Tests.{le-leb, lt-leb}
use Rattle.bits.specs.Words.{flag}
use Rattle.structs.specs.Numbers.{IsPort, IsMsr}
use Rattle.trap_sheet.proofs.RunLaws.{weaker, ascending, none_below, none_past, exactly_one, runs_outside, held, ends, counted}
use Rattle.trap_sheet.specs.Runs.{Run, runs_of}
use Rattle.trap_sheet.specs.Sheet.{Range, ports, msrs, total_in, runs_in}
use Rattle.trap_sheet.specs.Reference.{holding, Ascending, IsRuns, items_of}

-- ---- the runs of several ranges

holding_append : (m : ℕ) (rs qs : List Run) → holding m (rs ++ qs) ≡ holding m rs + holding m qs
holding_append m [] qs = omega arith
holding_append m (r ∷ rs) qs = omega (arith, holding_append m rs qs)

items_append : (rs qs : List Run) → items_of (rs ++ qs) ≡ items_of rs + items_of qs
items_append [] qs = omega arith
items_append (r ∷ rs) qs = omega (arith, items_append rs qs)

ascending_append : (f e : ℕ) (rs qs : List Run) → f ≤ e + 1 → Ascending f rs → ((m : ℕ) → e ≤ m → holding m rs ≡ 0) → Ascending (e + 1) qs → Ascending f (rs ++ qs)
ascending_append f e [] qs h a o b = weaker f (e + 1) qs h b
ascending_append f e (r ∷ rs) qs h a o b =
    let l : r.last < e = ends e r rs a.1 o in
    (a.0, a.1, ascending_append (r.last + 2) e rs qs (omega arith) a.2 (λ m g. omega (arith, o m g)) b)

-- the total of a kind is the sum of the lengths of its runs
pub totals : (t : ℕ → Bool) (ranges : List Range) → total_in t ranges ≡ items_of (runs_in t ranges)
totals t [] = refl
totals t (r ∷ rs) =
    omega (arith, counted t r.first r.count, totals t rs, items_append (runs_of t r.first r.count) (runs_in t rs))

module _ (Item : ℕ → Type 0) (t : ℕ → Bool) (rs : List Run) where
  pub are_runs : ((n : ℕ) → Item n → holding n rs ≡ flag (t n)) → ((n : ℕ) → (Item n → ⊥) → holding n rs ≡ 0) → Ascending 0 rs → IsRuns Item t rs
  are_runs inside outside a = record {
    set = λ n w e. inside n w ∙ ap flag e;
    clear = λ n w e. inside n w ∙ ap flag e;
    outside = outside;
    ascending = a;
  }

pub ports_are_runs : (t : ℕ → Bool) → IsRuns IsPort t (runs_in t ports)
ports_are_runs t =
    let rs : List Run = runs_of t 0 0x1_0000 in
    rw (append-nil rs) (are_runs IsPort t rs
    (λ n w. exactly_one t 0 0x1_0000 n (omega arith) (omega arith))
    (λ n o. runs_outside t 0 0x1_0000 n (λ a b. o (omega arith)))
    (ascending t 0 0x1_0000))

module _ (t : ℕ → Bool) where
  abbrev low : List Run
  low = runs_of t 0 0x2000

  abbrev high : List Run
  high = runs_of t 0xC000_0000 0x2000

  msr_inside : (n : ℕ) → IsMsr n → holding n (low ++ high) ≡ flag (t n)
  msr_inside n (inl w) =
      let x : holding n high ≡ 0 = runs_outside t 0xC000_0000 0x2000 n (λ a b. omega arith) in
      let y : holding n low ≡ flag (t n) = exactly_one t 0 0x2000 n (omega arith) (omega arith) in
      rw (holding_append n low high, x, y) (add-zero (flag (t n)))
  msr_inside n (inr w) =
      let x : holding n low ≡ 0 = runs_outside t 0 0x2000 n (λ a b. omega arith) in
      let y : holding n high ≡ flag (t n) = exactly_one t 0xC000_0000 0x2000 n (omega arith) (omega arith) in
      rw (holding_append n low high, x, y) (zero-add (flag (t n)))

  msr_outside : (n : ℕ) → (IsMsr n → ⊥) → holding n (low ++ high) ≡ 0
  msr_outside n o =
      let x : holding n low ≡ 0 = runs_outside t 0 0x2000 n (λ a b. o (inl (omega arith))) in
      let y : holding n high ≡ 0 = runs_outside t 0xC000_0000 0x2000 n (λ a b. o (inr (omega arith))) in
      rw (holding_append n low high, x, y)

  pub msrs_are_runs : IsRuns IsMsr t (runs_in t msrs)
  msrs_are_runs = rw (append-nil high) (are_runs IsMsr t (low ++ high) msr_inside msr_outside
      (ascending_append 0 0x2000 low high (omega arith) (ascending t 0 0x2000) (none_past t 0 0x2000)
      (weaker 0x2001 0xC000_0000 high (omega arith) (ascending t 0xC000_0000 0x2000))))

-- ---- one list alone is the runs of a set

module _ (f g : ℕ) (r q : Run) (rs qs : List Run) (h : (n : ℕ) → holding n (r ∷ rs) ≡ holding n (q ∷ qs)) (a : Ascending f (r ∷ rs)) (b : Ascending g (q ∷ qs)) where
  first_least : q.first ≤ r.first
  first_least =
      dite (dec_lt r.first q.first)
      (λ l. let s : q.first ≤ q.first = omega arith in
      let k : r.first ≤ r.first = omega arith in
      absurd (omega (arith, h r.first, none_below r.first q.first (q ∷ qs) l (s, b.1, b.2), held r.first r rs k a.1)))
      (λ d. omega arith)

  last_least : q.first ≤ r.first → q.last ≤ r.last
  last_least e =
      dite (dec_lt r.last q.last)
      (λ l. let m : ℕ = r.last + 1 in
      let z : holding m (r ∷ rs) ≡ holding m rs = rw (le-leb r.first m (omega (arith, a.1)), lt-leb m r.last (omega arith)) (omega arith) in
      absurd (omega (arith, h m, z, none_below m (r.last + 2) rs (omega arith) a.2, held m q qs (omega (arith, a.1)) (omega arith))))
      (λ d. omega arith)

same_runs : (f g : ℕ) (rs qs : List Run) → ((n : ℕ) → holding n rs ≡ holding n qs) → Ascending f rs → Ascending g qs → rs ≡ qs
same_runs f g [] [] h a b = refl
same_runs f g [] (q ∷ qs) h a b = absurd (omega (arith, h q.first, held q.first q qs (omega arith) b.1))
same_runs f g (r ∷ rs) [] h a b = absurd (omega (arith, h r.first, held r.first r rs (omega arith) a.1))
same_runs f g (r ∷ rs) (q ∷ qs) h a b =
    let i : (n : ℕ) → holding n (q ∷ qs) ≡ holding n (r ∷ rs) = λ n. sym (h n) in
    let x : q.first ≤ r.first = first_least f g r q rs qs h a b in
    let y : r.first ≤ q.first = first_least g f q r qs rs i b a in
    let z : q.last ≤ r.last = last_least f g r q rs qs h a b x in
    let w : r.last ≤ q.last = last_least g f q r qs rs i b a y in
    let e : r ≡ q = same_run r.first r.last q.first q.last (omega arith) (omega arith) in
    let k : (n : ℕ) → holding n rs ≡ holding n qs = λ n. rest n r q rs qs e (h n) in
    ap₂ (λ (p : Run) (ps : List Run). p ∷ ps) e (same_runs (r.last + 2) (q.last + 2) rs qs k a.2 b.2)
  where
    same_run : (i j k l : ℕ) → i ≡ k → j ≡ l → ◌≡◌ {A = Run} (record { first = i; last = j }) (record { first = k; last = l })
    same_run i j k l e d = ap₂ (λ (x y : ℕ). record { first = x; last = y }) e d

    rest : (n : ℕ) (r q : Run) (rs qs : List Run) → r ≡ q → holding n (r ∷ rs) ≡ holding n (q ∷ qs) → holding n rs ≡ holding n qs
    rest n r q rs qs e d =
        let s : holding n (r ∷ []) ≡ holding n (q ∷ []) = ap (λ (x : Run). holding n (x ∷ [])) e in
        omega (arith, s, d)

pub only : (Item : ℕ → Type 0) → ((n : ℕ) → Dec (Item n)) → (t : ℕ → Bool) (rs qs : List Run) → IsRuns Item t rs → IsRuns Item t qs → rs ≡ qs
only Item item? t rs qs i j = same_runs 0 0 rs qs (λ n. go n (item? n) (t n) refl) i.ascending j.ascending
  where
    go : (n : ℕ) → Dec (Item n) → (b : Bool) → t n ≡ b → holding n rs ≡ holding n qs
    go n (yes w) true e = i.set n w e ∙ sym (j.set n w e)
    go n (yes w) false e = i.clear n w e ∙ sym (j.clear n w e)
    go n (no o) b e = i.outside n o ∙ sym (j.outside n o)

-- a number is an MSR's or not
pub msr? : (n : ℕ) → Dec (IsMsr n)
msr? n =
    dite (dec_le (n + 1) 0x2000) (λ l. yes (inl l))
    (λ d. dite (dec_le 0xC000_0000 n)
    (λ l. dite (dec_le (n + 1) 0xC000_2000) (λ h. yes (inr (l, h))) (λ h. no (⊎_elim d (λ a. h a.1))))
    (λ l. no (⊎_elim d (λ a. l a.0))))
