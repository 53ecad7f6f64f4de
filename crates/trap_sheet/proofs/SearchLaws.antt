-- A search passes whole bytes, and no bit that it looks for. Assumes nothing.
use mathlib.Core.Path.{◌≡◌, ap, ◌∙◌}
use mathlib.Core.Bool.{Bool, true, false, not}
use mathlib.Core.List.{List, ◌++◌}
use mathlib.Core.Logic.{dite}
use Prim.Native.Nat.{ℕ, zero, suc, ◌+◌, ◌-◌, ◌*◌, ◌/◌, ◌%◌, ◌^◌, ◌≤◌, ◌<◌}
use native.Mathlib.Decide.{dec_lt, ℕ_discrete}
use native.Mathlib.Omega.{arith}
use borrow.Author.Tests.{eq-eqb, ne_eqb, eqb-true}
use lib.Dec.{eqb}
use lib.ListN.{length, get_or, length-append}
use Rattle.bits.specs.Words.{flag}
use Rattle.bits.proofs.Tells.{both_true}
use Rattle.structs.specs.Bitmap.{full_byte, bit_at}
use Rattle.structs.proofs.BitmapLaws.{bit_at_first, bit_at_second, bit_full_byte}
use Rattle.trap_sheet.specs.Search.{all_are, Passed, Next}

-- ---- bytes that are all the same

each_is : (xs : List ℕ) (i x k : ℕ) → all_are xs i x k ≡ true → (j : ℕ) → i ≤ j → j < i + k → get_or xs j 0 ≡ x
unfolding all_are
each_is xs i x zero e j h l = absurd (omega arith)
each_is xs i x (suc k) e j h l =
    let b = both_true (all_are xs i x k) (eqb (get_or xs (i + k) 0) x) e in
    dite (ℕ_discrete j (i + k))
    (λ q. rw q (eqb-true (get_or xs (i + k) 0) x b.1))
    (λ d. each_is xs i x k b.0 j h (omega arith))

-- ---- a step of the search

module _ (xs : List ℕ) (v : Bool) (n : ℕ) where
  -- the bits of a byte that has none that is v
  no_bit : (m : ℕ) → get_or xs (m / 8) 0 ≡ full_byte (not v) → bit_at xs m ≡ not v
  no_bit m e = rw e (bit_full_byte (not v) (m % 8) (omega arith))

  pub passed_eight : {x : ℕ} → n % 8 ≡ 0 → n / 8 + 8 ≤ length xs → x ≡ full_byte (not v) → all_are xs (n / 8) x 8 ≡ true → Passed xs v n 64
  passed_eight z h q e =
      record {
        within = omega arith;
        found = λ (f : ◌≡◌ {A = ℕ} 64 0). absurd (omega arith);
        other = λ m (a : n ≤ m) (b : m < n + 64). no_bit m (each_is xs (n / 8) _ 8 e (m / 8) (omega arith) (omega arith) ∙ q);
      }

  pub passed_byte : {x : ℕ} → n % 8 ≡ 0 → n < 8 * length xs → x ≡ full_byte (not v) → get_or xs (n / 8) 0 ≡ x → Passed xs v n 8
  passed_byte z h q e =
      record {
        within = omega arith;
        found = λ (f : ◌≡◌ {A = ℕ} 8 0). absurd (omega arith);
        other = λ m (a : n ≤ m) (b : m < n + 8). let w : m / 8 ≡ n / 8 = omega arith in no_bit m (ap (λ (i : ℕ). get_or xs i 0) w ∙ e ∙ q);
      }

  pub passed_none : n < 8 * length xs → get_or xs (n / 8) 0 / 2 ^ (n % 8) % 2 ≡ flag v → Passed xs v n 0
  passed_none h e =
      record {
        within = omega arith;
        found = λ _. is_bit v (get_or xs (n / 8) 0 / 2 ^ (n % 8) % 2) e;
        other = λ m (a : n ≤ m) (b : m < n + 0). absurd (omega arith);
      }
    where
      is_bit : (v : Bool) (x : ℕ) → x ≡ flag v → eqb x 1 ≡ v
      is_bit true x f = eq-eqb x 1 f
      is_bit false x f = ne_eqb x 1 (λ (g : x ≡ 1). omega (arith, f, g))

  pub passed_one : n < 8 * length xs → (get_or xs (n / 8) 0 / 2 ^ (n % 8) % 2 ≡ flag v → ⊥) → Passed xs v n 1
  passed_one h e =
      record {
        within = omega arith;
        found = λ (f : ◌≡◌ {A = ℕ} 1 0). absurd (omega arith);
        other = λ m (a : n ≤ m) (b : m < n + 1). let w : m ≡ n = omega arith in rw w (other_bit v (get_or xs (n / 8) 0 / 2 ^ (n % 8) % 2) (omega arith) e);
      }
    where
      other_bit : (v : Bool) (x : ℕ) → x < 2 → (x ≡ flag v → ⊥) → eqb x 1 ≡ not v
      other_bit true x l f = ne_eqb x 1 f
      other_bit false x l f = eq-eqb x 1 (dite (ℕ_discrete x 0) (λ z. absurd (f z)) (λ z. omega arith))

-- what holds of each item from `from` on below n, and from n on below p, holds below p
pub on : (P : ℕ → Type 0) (from n p : ℕ) → ((m : ℕ) → from ≤ m → m < n → P m) → ((m : ℕ) → n ≤ m → m < p → P m) → (m : ℕ) → from ≤ m → m < p → P m
on P from n p f g m a b = dite (dec_lt m n) (λ l. f m a l) (λ l. g m (omega arith) b)

-- ---- two slices, the one behind the other

module _ (xs ys : List ℕ) where
  bit_past : (n : ℕ) → 8 * length xs ≤ n → bit_at (xs ++ ys) n ≡ bit_at ys (n - 8 * length xs)
  bit_past n h = let e : n ≡ 8 * length xs + (n - 8 * length xs) = omega arith in ap (bit_at (xs ++ ys)) e ∙ bit_at_second xs ys (n - 8 * length xs)

  total : 8 * length (xs ++ ys) ≡ 8 * length xs + 8 * length ys
  total = rw (length-append xs ys) (omega arith)

  module _ (v : Bool) (from r : ℕ) where
    pub next_low : Next xs v from r → r < 8 * length xs → Next (xs ++ ys) v from r
    next_low s h =
        record {
          after = s.after;
          within = omega (arith, total);
          other = λ m a b. bit_at_first xs ys m (omega arith) ∙ s.other m a b;
          found = λ _. bit_at_first xs ys r h ∙ s.found h;
        }

    pub next_high : 8 * length xs ≤ from → Next ys v (from - 8 * length xs) r → Next (xs ++ ys) v from (8 * length xs + r)
    next_high h s =
        record {
          after = omega (arith, s.after);
          within = omega (arith, total, s.within);
          other = λ m (a : from ≤ m) (b : m < 8 * length xs + r). bit_past m (omega arith) ∙ s.other (m - 8 * length xs) (omega arith) (omega arith);
          found = λ (l : 8 * length xs + r < 8 * length (xs ++ ys)). bit_at_second xs ys r ∙ s.found (omega (arith, total, l));
        }

    pub next_over : (q : ℕ) → Next xs v from q → 8 * length xs ≤ q → Next ys v 0 r → Next (xs ++ ys) v from (8 * length xs + r)
    next_over q s h t =
        record {
          after = omega (arith, s.after, s.within);
          within = omega (arith, total, t.within);
          other = on (λ m. bit_at (xs ++ ys) m ≡ not v) from (8 * length xs) (8 * length xs + r)
              (λ m a b. bit_at_first xs ys m b ∙ s.other m a (omega arith))
              (λ m a b. bit_past m a ∙ t.other (m - 8 * length xs) (omega arith) (omega arith));
          found = λ (l : 8 * length xs + r < 8 * length (xs ++ ys)). bit_at_second xs ys r ∙ t.found (omega (arith, total, l));
        }
