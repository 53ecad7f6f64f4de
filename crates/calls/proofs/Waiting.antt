-- The law on waiting, over moves: one invariant of the events that wait and the tally, kept by each move. Assumes nothing.
use Prim.Native.Nat.{ℕ, zero, suc, ◌+◌, ◌≤◌}
use mathlib.Core.Path.{◌≡◌, refl, sym, ap, ◌∙◌}
use mathlib.Core.List.{List, [], ◌∷◌, ◌++◌, append-nil, append_assoc}
use native.Mathlib.Omega.{arith}
use lib.ListN.{length, drop, length-append, drop_of_length-le}
use lib.Seq.{drop_at, drop-append-le}
use Rattle.calls.specs.Moves.{Move, queues, finds_none, holds, writes, exits, fails, rests, moved, Tally, begun, tallied}

module _ {E : Type 0} where
  -- the moves that events that wait allow: an entry finds none where none waits, and writes the front
  abbrev pub Can : List E → Move E → Type 0
  Can w (queues e) = Unit {0}
  Can w finds_none = w ≡ []
  Can w holds = Unit {0}
  Can w (writes e) = w ≡ e ∷ drop 1 w
  Can w exits = Unit {0}
  Can w fails = Unit {0}
  Can w rests = Unit {0}

  -- since `ahead` and x waited: x is the event that is looked at, or nothing
  pub record Kept (ahead x w : List E) (t : Tally E) : Type 0 where
    pub order : t.injected ++ w ≡ ahead ++ (x ++ t.queued)
    -- the entries that found none: not before x was injected
    pub idle : ℕ
    pub count : t.entries ≡ t.held + (length t.injected + idle)
    pub late : 1 ≤ idle → length ahead + length x ≤ length t.injected

  pub begins : (ahead x : List E) → Kept ahead x (ahead ++ x) begun
  begins ahead x = record { order = ap (λ (l : List E). ahead ++ l) (sym (append-nil x)); idle = 0; count = refl; late = λ h. absurd (omega arith) }

  module _ {ahead x w : List E} {t : Tally E} (k : Kept ahead x w t) where
    lengths : length t.injected + length w ≡ length ahead + (length x + length t.queued)
    lengths =
        let z = ap length k.order in
        let a = length-append t.injected w in
        let b = length-append ahead (x ++ t.queued) in
        let c = length-append x t.queued in
        omega arith

    pub keeps : (m : Move E) → Can w m → Kept ahead x (moved w m) (tallied t m)
    keeps (queues e) can =
        record {
          order = sym (append_assoc t.injected w (e ∷ [])) ∙ ap (λ (l : List E). l ++ (e ∷ [])) k.order
              ∙ append_assoc ahead (x ++ t.queued) (e ∷ []) ∙ ap (λ (l : List E). ahead ++ l) (append_assoc x t.queued (e ∷ []));
          idle = k.idle;
          count = k.count;
          late = k.late;
        }
    keeps finds_none can =
        record {
          order = k.order;
          idle = k.idle + 1;
          count = let c = k.count in omega arith;
          late = λ _. let l = lengths in let p = ap length can in omega arith;
        }
    keeps holds can = record { order = k.order; idle = k.idle; count = let c = k.count in omega arith; late = k.late }
    keeps (writes e) can =
        let long = length-append t.injected (e ∷ []) in
        record {
          order = append_assoc t.injected (e ∷ []) (drop 1 w) ∙ ap (λ (l : List E). t.injected ++ l) (sym can) ∙ k.order;
          idle = k.idle;
          count = let c = k.count in omega arith;
          late = λ h. let l = k.late h in omega arith;
        }
    keeps exits can = k
    keeps fails can = k
    keeps rests can = k

    pub counted : t.held ≤ t.entries
    counted = let c = k.count in omega arith

  -- ---- one event

  module _ (e : E) {ahead w : List E} {t : Tally E} (k : Kept ahead (e ∷ []) w t) where
    -- no entry has found the queue empty while it waits
    all_injected : (n : ℕ) → t.entries ≡ t.held + n → n ≤ length ahead → length t.injected ≡ n
    all_injected n made few = go k.idle k.count k.late
      where
        go : (i : ℕ) → t.entries ≡ t.held + (length t.injected + i) → (1 ≤ i → length ahead + 1 ≤ length t.injected) → length t.injected ≡ n
        go zero c f = omega arith
        go (suc i) c f = let l = f (omega arith) in absurd (omega arith)

    pub waits : (n : ℕ) → t.entries ≡ t.held + n → n ≤ length ahead → w ≡ drop n ahead ++ (e ∷ t.queued)
    waits n made few = sym (drop_at t.injected w n (all_injected n made few)) ∙ ap (drop n) k.order ∙ drop-append-le n ahead (e ∷ t.queued) few

    pub injects : (m : Move E) → Can w m → (n : ℕ) → t.entries ≡ t.held + n → n ≤ length ahead
        → (tallied t m).entries ≡ (tallied t m).held + (length ahead + 1) → m ≡ writes e
    injects (queues f) can n made few full = absurd (omega arith)
    injects finds_none can n made few full =
        absurd (let z = ap length (sym can ∙ waits n made few) in let l = length-append (drop n ahead) (e ∷ t.queued) in omega arith)
    injects holds can n made few full = absurd (omega arith)
    injects (writes f) can n made few full =
        let all : drop n ahead ≡ [] = drop_of_length-le ahead {i = n} (omega arith) in
        let line : f ∷ drop 1 w ≡ e ∷ t.queued = sym can ∙ waits n made few ∙ ap (λ (l : List E). l ++ (e ∷ t.queued)) all in
        ap writes (cc)
    injects exits can n made few full = absurd (omega arith)
    injects fails can n made few full = absurd (omega arith)
    injects rests can n made few full = absurd (omega arith)
