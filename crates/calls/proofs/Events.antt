-- The events of the queue's arrays and of the word that says which have a code: one stored, the front taken off, how many there are. Assumes nothing.
use Prim.Native.Nat.{ℕ, zero, suc, ◌-◌, ◌/◌, ◌<◌, ◌≤◌}
use mathlib.Core.Path.{◌≡◌, refl, ap}
use mathlib.Core.Bool.{Bool}
use mathlib.Core.List.{List, [], ◌∷◌, ◌++◌}
use native.Mathlib.Omega.{arith}
use native.Mathlib.Nat.{not-suc-le-zero}
use native.Mathlib.Numerals.{sub-one}
use lib.ListN.{length, get_or, take, drop, set}
use Rattle.bits.specs.Words.{bit, with_bit}
use Rattle.bits.proofs.WithBit.{bit_written, bit_kept, half_written, half_kept}
use Rattle.vcpu_events.specs.Queue.{shifted}
use Rattle.calls.specs.Calls.{event_of, events_of}

pub events_set : (vs : List ℕ) (w : ℕ) (cs : List ℕ) (n v : ℕ) (b : Bool) (c : ℕ)
    → events_of (set vs n v) (with_bit n b w) (set cs n c) ≡ set (events_of vs w cs) n (event_of v b c)
events_set [] w cs n v b c = refl
events_set (x ∷ vs) w [] zero v b c = refl
events_set (x ∷ vs) w [] (suc n) v b c = refl
events_set (x ∷ vs) w (z ∷ cs) zero v b c = rw (bit_written 0 b w, half_written b w)
events_set (x ∷ vs) w (z ∷ cs) (suc n) v b c = rw (bit_kept (suc n) b w 0 (λ e. omega arith), half_kept n b w, events_set vs (w / 2) cs n v b c)

pub events_long : (vs : List ℕ) (w : ℕ) (cs : List ℕ) → length cs ≡ length vs → length (events_of vs w cs) ≡ length vs
events_long [] w cs a = refl
events_long (x ∷ vs) w [] a = absurd (omega arith)
events_long (x ∷ vs) w (z ∷ cs) a = ap suc (events_long vs (w / 2) cs (omega arith))

-- the first n events are those of the first n places
events_first : (n : ℕ) (vs : List ℕ) (w : ℕ) (cs us ds : List ℕ) → length cs ≡ length vs → n ≤ length vs
    → take n (events_of (take n vs ++ us) w (take n cs ++ ds)) ≡ take n (events_of vs w cs)
events_first zero vs w cs us ds a h = refl
events_first (suc n) [] w cs us ds a h = absurd (not-suc-le-zero h)
events_first (suc n) (x ∷ vs) w [] us ds a h = absurd (omega arith)
events_first (suc n) (x ∷ vs) w (z ∷ cs) us ds a h = rw (events_first n vs (w / 2) cs us ds (omega arith) (omega arith))

-- what waits once the front is taken off: the arrays and the word moved down
pub events_shifted : (n : ℕ) (vs : List ℕ) (w : ℕ) (cs : List ℕ) → length cs ≡ length vs → n ≤ length vs
    → take (n - 1) (events_of (shifted (n - 1) 0 vs) (w / 2) (shifted (n - 1) 0 cs)) ≡ drop 1 (take n (events_of vs w cs))
unfolding shifted
events_shifted zero vs w cs a h = refl
events_shifted (suc n) [] w cs a h = absurd (not-suc-le-zero h)
events_shifted (suc n) (x ∷ vs) w [] a h = absurd (omega arith)
events_shifted (suc n) (x ∷ vs) w (z ∷ cs) a h = rw (sub-one (suc n)) (events_first n vs (w / 2) cs _ _ (omega arith) (omega arith))

-- where one waits, it is at the front
pub events_front : (n : ℕ) (vs : List ℕ) (w : ℕ) (cs : List ℕ) → length cs ≡ length vs → 0 < n → 0 < length vs
    → take n (events_of vs w cs) ≡ event_of (get_or vs 0 0) (bit 0 w) (get_or cs 0 0) ∷ drop 1 (take n (events_of vs w cs))
events_front zero vs w cs a h l = absurd (not-suc-le-zero h)
events_front (suc n) [] w cs a h l = absurd (not-suc-le-zero l)
events_front (suc n) (x ∷ vs) w [] a h l = absurd (omega arith)
events_front (suc n) (x ∷ vs) w (z ∷ cs) a h l = refl
