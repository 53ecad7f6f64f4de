-- Control words, at any width: the result of `set_control`, its refusals, and which words a pair permits (document 01, "Control words";
-- SDM 3D, A.2 to A.5; the Rust cites 31.5.1, algorithm 3, of an older edition). Assumes nothing.
use Rattle.std.specs.Prelude.{ℕ, ◌<◌, ◌≡◌, Bool, cond, not, ◌&&◌, List, T, Result, Ok, Err, eqb, get_or}
use Rattle.std.specs.Int.Bits.{bit_and, bit_or}
use Rattle.bits.specs.Words.{bit_not, bit, Within, Apart, Permitted}
use Rattle.vmcs.specs.declared.controls.Pair.{Pair}

-- allowed-0, plus set, plus those old bits that are flexible and neither set nor cleared
unfoldable pub control_word : ℕ → ℕ → ℕ → ℕ → ℕ → ℕ → ℕ
control_word w allowed0 allowed1 old set clear =
    bit_or (bit_or allowed0 (bit_and (bit_and (bit_and (bit_not w allowed0) allowed1) (bit_not w (bit_or set clear))) old)) set

-- 6: allowed-0 has a bit that allowed-1 lacks. 7: set and clear share a bit. 8: a set bit is not in allowed-1. 9: a cleared bit is in allowed-0
unfoldable pub set_control : ℕ → ℕ → ℕ → ℕ → ℕ → ℕ → Result ℕ ℕ
set_control w allowed0 allowed1 old set clear =
    cond (not (eqb (bit_and allowed0 allowed1) allowed0)) (Err 6)
    (cond (not (eqb (bit_and set clear) 0)) (Err 7)
    (cond (not (eqb (bit_and set allowed1) set)) (Err 8)
    (cond (not (eqb (bit_and allowed0 clear) 0)) (Err 9)
    (Ok (control_word w allowed0 allowed1 old set clear)))))

-- the answer in document 01's numbers: 0 and the word, or the number of the refusal and the result that the caller had
pub record ControlNumbers : Type 0 where
  pub refusal : ℕ
  pub word : ℕ

abbrev pub control_numbers : Result ℕ ℕ → ℕ → ControlNumbers
control_numbers (Ok w) before = record { refusal = 0; word = w }
control_numbers (Err n) before = record { refusal = n; word = before }

-- what the manual asks of an accepted word: all of allowed-0, nothing outside allowed-1, all of set, nothing of clear, and each other bit that
-- may be 0 or 1 as in old
pub record Accepted (allowed0 allowed1 old set clear word : ℕ) : Type 0 where
  pub permitted : Permitted allowed0 allowed1 word
  pub is_set : Within set word
  pub is_clear : Apart clear word
  pub kept : (i : ℕ) → T (bit i allowed1) → (T (bit i allowed0) → ⊥) → (T (bit i set) → ⊥) → (T (bit i clear) → ⊥) → bit i word ≡ bit i old

-- each condition, where none before it holds, has its answer
pub record Answers (allowed0 allowed1 set clear word : ℕ) (answer : Result ℕ ℕ) : Type 0 where
  pub six : (Within allowed0 allowed1 → ⊥) → answer ≡ Err 6
  pub seven : Within allowed0 allowed1 → (Apart set clear → ⊥) → answer ≡ Err 7
  pub eight : Within allowed0 allowed1 → Apart set clear → (Within set allowed1 → ⊥) → answer ≡ Err 8
  pub nine : Within allowed0 allowed1 → Apart set clear → Within set allowed1 → (Apart allowed0 clear → ⊥) → answer ≡ Err 9
  pub accepted : Within allowed0 allowed1 → Apart set clear → Within set allowed1 → Apart allowed0 clear → answer ≡ Ok word

-- each answer comes with its condition
pub data Outcome (allowed0 allowed1 set clear word : ℕ) : Result ℕ ℕ → Type 0 where
  six : (Within allowed0 allowed1 → ⊥) → Outcome allowed0 allowed1 set clear word (Err 6)
  seven : Within allowed0 allowed1 → (Apart set clear → ⊥) → Outcome allowed0 allowed1 set clear word (Err 7)
  eight : Within allowed0 allowed1 → Apart set clear → (Within set allowed1 → ⊥) → Outcome allowed0 allowed1 set clear word (Err 8)
  nine : Within allowed0 allowed1 → Apart set clear → Within set allowed1 → (Apart allowed0 clear → ⊥) → Outcome allowed0 allowed1 set clear word (Err 9)
  accepted : Within allowed0 allowed1 → Apart set clear → Within set allowed1 → Apart allowed0 clear → Outcome allowed0 allowed1 set clear word (Ok word)

-- ---- the five words: pin, primary, secondary, exit, entry

abbrev pub word_permitted : Pair → ℕ → Bool
word_permitted pair word = eqb (bit_and pair.allowed0 word) pair.allowed0 && eqb (bit_and word pair.allowed1) word

abbrev pub no_pair : Pair
no_pair = record { allowed0 = 0; allowed1 = 0 }

abbrev pub pair_at : List Pair → ℕ → Pair
pair_at pairs k = get_or pairs k no_pair

abbrev permits : List Pair → List ℕ → ℕ → Bool
permits pairs words k = word_permitted (pair_at pairs k) (get_or words k 0)

abbrev pub all_permitted : List Pair → List ℕ → Bool
all_permitted pairs words = permits pairs words 0 && permits pairs words 1 && permits pairs words 2 && permits pairs words 3 && permits pairs words 4

-- word k is permitted by pair k
pub record EachPermitted (pairs : List Pair) (words : List ℕ) : Type 0 where
  pub permitted : (k : ℕ) → k < 5 → Permitted (pair_at pairs k).allowed0 (pair_at pairs k).allowed1 (get_or words k 0)
