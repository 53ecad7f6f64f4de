-- Laws of one bit written into a word, and how a processor writes it, each at any width. Assumes nothing.
use mathlib.Core.Path.{◌≡◌, refl, sym, ap, ◌∙◌}
use mathlib.Core.Bool.{Bool, true, false}
use mathlib.Core.Logic.{◌≢◌, dite}
use Prim.Native.Nat.{ℕ, suc, ◌+◌, ◌-◌, ◌*◌, ◌/◌, ◌%◌, ◌^◌, ◌<◌}
use native.Mathlib.Nat.{mod-lt, mod-eq_of_lt, one-mul}
use native.Mathlib.Decide.{dec_lt, ℕ_discrete}
use native.Mathlib.Omega.{arith}
use lib.Arith.{digits_lt, digits_div, digits_mod}
use lib.Bits.{bit_and, bit_or, or_block, or_step, or_zero_r, and_block, and_high, and_mask}
use lib.Dec.{eqb}
use lib.Pow.{pow_pos, pow-lt, pow-add, split, ones_lt, shr_lt, shr-shr, field, mod-mod-pow}
use Rattle.bits.specs.Words.{bit_not, bit, flag, with_bit}
use Rattle.bits.proofs.BitLaws.{bit_suc, same_bits}

-- bit k as a digit
abbrev digit : ℕ → ℕ → ℕ
digit k a = a / 2 ^ k % 2

pub flag_lt : (v : Bool) → flag v < 2
flag_lt true = omega arith
flag_lt false = omega arith

pub flag_read : (v : Bool) → eqb (flag v) 1 ≡ v
flag_read true = refl
flag_read false = refl

high_part_lem : (k : ℕ) (v : Bool) (a : ℕ) → with_bit k v a / 2 ^ k ≡ a / 2 ^ k / 2 * 2 + flag v
unfolding with_bit
high_part_lem k v a = digits_div _ (mod-lt a (pow_pos k))

low_part_lem : (k : ℕ) (v : Bool) (a : ℕ) → with_bit k v a % 2 ^ k ≡ a % 2 ^ k
unfolding with_bit
low_part_lem k v a = digits_mod _ (mod-lt a (pow_pos k))

-- bit k is what was written
pub bit_written : (k : ℕ) (v : Bool) (a : ℕ) → bit k (with_bit k v a) ≡ v
bit_written k v a =
    let d : digit k (with_bit k v a) ≡ flag v = rw high_part_lem (omega (arith, flag_lt v)) in
    ap (λ (x : ℕ). eqb x 1) d ∙ flag_read v

-- a bit below k is a bit of the remainder by 2 ^ k
digit_of_low : (a k j : ℕ) → j < k → digit j (a % 2 ^ k) ≡ digit j a
digit_of_low a k j h =
    let e : k - (1 + j) + (1 + j) ≡ k = omega arith in
    sym (field (a % 2 ^ k) 1 j)
    ∙ ap (λ (m : ℕ). a % 2 ^ m % 2 ^ (1 + j) / 2 ^ j) (sym e)
    ∙ ap (λ (m : ℕ). m / 2 ^ j) (mod-mod-pow a (k - (1 + j)) (1 + j))
    ∙ field a 1 j

-- a bit above k is a bit of the quotient by 2 ^ (k + 1)
digit_of_high : (a k j : ℕ) → k < j → digit (j - (k + 1)) (a / 2 ^ k / 2) ≡ digit j a
digit_of_high a k j h =
    let e : k + 1 + (j - (k + 1)) ≡ j = omega arith in
    ap (λ (m : ℕ). m / 2 ^ (j - (k + 1)) % 2) (shr-shr a k 1)
    ∙ ap (λ (m : ℕ). m % 2) (shr-shr a (k + 1) (j - (k + 1)))
    ∙ ap (λ (m : ℕ). digit m a) e

-- every other bit is as it was
pub bit_kept : (k : ℕ) (v : Bool) (a j : ℕ) → j ≢ k → bit j (with_bit k v a) ≡ bit j a
bit_kept k v a j n = ap (λ (x : ℕ). eqb x 1) (dite (dec_lt j k) below (λ g. above (omega arith)))
  where
    below : j < k → digit j (with_bit k v a) ≡ digit j a
    below h = sym (digit_of_low (with_bit k v a) k j h) ∙ ap (λ (m : ℕ). digit j m) (low_part_lem k v a) ∙ digit_of_low a k j h

    same_half : with_bit k v a / 2 ^ k / 2 ≡ a / 2 ^ k / 2
    same_half = rw high_part_lem (omega (arith, flag_lt v))

    above : k < j → digit j (with_bit k v a) ≡ digit j a
    above h = sym (digit_of_high (with_bit k v a) k j h) ∙ ap (λ (m : ℕ). digit (j - (k + 1)) m) same_half ∙ digit_of_high a k j h

-- the half of a word with a bit written
pub half_written : (v : Bool) (a : ℕ) → with_bit 0 v a / 2 ≡ a / 2
half_written v a = same_bits _ _ (λ i. sym (bit_suc i (with_bit 0 v a)) ∙ bit_kept 0 v a (suc i) (λ e. omega arith) ∙ bit_suc i a)

pub half_kept : (k : ℕ) (v : Bool) (a : ℕ) → with_bit (suc k) v a / 2 ≡ with_bit k v (a / 2)
half_kept k v a = same_bits _ _ (λ i. sym (bit_suc i (with_bit (suc k) v a)) ∙ dite (ℕ_discrete i k) (own i) (other i))
  where
    own : (i : ℕ) → i ≡ k → bit (suc i) (with_bit (suc k) v a) ≡ bit i (with_bit k v (a / 2))
    own i e = rw e (bit_written (suc k) v a ∙ sym (bit_written k v (a / 2)))

    other : (i : ℕ) → i ≢ k → bit (suc i) (with_bit (suc k) v a) ≡ bit i (with_bit k v (a / 2))
    other i n = bit_kept (suc k) v a (suc i) (λ e. n (omega arith)) ∙ bit_suc i a ∙ sym (bit_kept k v (a / 2) i n)

-- a word of w bits has w bits with a bit below w written
pub with_bit_lt : (w k : ℕ) (v : Bool) (a : ℕ) → k < w → a < 2 ^ w → with_bit k v a < 2 ^ w
unfolding with_bit
with_bit_lt w k v a h l =
    let e : w - suc k + 1 + k ≡ w = omega arith in
    let q : a / 2 ^ k < 2 ^ (w - suc k + 1) = shr_lt (w - suc k + 1) k (rw e l) in
    let p : 2 ^ (w - suc k + 1) ≡ 2 ^ (w - suc k) * 2 = pow-add 2 (w - suc k) 1 in
    let d : (a / 2 ^ k / 2 * 2 + flag v) * 2 ^ k + a % 2 ^ k < 2 ^ (w - suc k + 1) * 2 ^ k =
    digits_lt (omega (arith, flag_lt v, q, p)) (mod-lt a (pow_pos k)) in
    rw (← pow-add 2 (w - suc k + 1) k, e) at d

-- ---- how a processor writes a bit: `a | 1 << k` and `a & !(1 << k)`

pub or_writes : (k a : ℕ) → bit_or a (2 ^ k) ≡ with_bit k true a
unfolding with_bit
or_writes k a =
    let q = a / 2 ^ k in
    let one : 1 * 2 ^ k + 0 ≡ 2 ^ k = omega arith in
    ap (λ (m : ℕ). bit_or m (2 ^ k)) (sym (split a k))
    ∙ ap (λ (m : ℕ). bit_or (q * 2 ^ k + a % 2 ^ k) m) (sym one)
    ∙ or_block k q 1 (a % 2 ^ k) 0 (mod-lt a (pow_pos k)) (pow_pos k)
    ∙ simp (or_zero_r, low)
  where
    low : bit_or (a / 2 ^ k) 1 ≡ a / 2 ^ k / 2 * 2 + 1
    low = or_step (a / 2 ^ k) 1 ∙ simp or_zero_r (omega arith)

pub and_writes : (w k a : ℕ) → k < w → a < 2 ^ w → bit_and a (bit_not w (2 ^ k)) ≡ with_bit k false a
unfolding with_bit
and_writes w k a h l =
    let q = a / 2 ^ k in
    let j = w - suc k in
    let e : j + 1 + k ≡ w = omega arith in
    let pw : 2 ^ w ≡ 2 ^ (j + 1) * 2 ^ k = ap (λ (m : ℕ). 2 ^ m) (sym e) ∙ pow-add 2 (j + 1) k in
    let m : 2 ^ w - 1 - 2 ^ k ≡ (2 ^ (j + 1) - 2 ^ 1) * 2 ^ k + (2 ^ k - 1) = mask (2 ^ w) (2 ^ (j + 1)) (2 ^ j) (2 ^ k) pw (pow-add 2 j 1) (pow_pos j) (pow_pos k) in
    let small : q / 2 < 2 ^ j = omega (arith, shr_lt {n = a} (j + 1) k (rw e l), pow-add 2 j 1) in
    let high : bit_and q (2 ^ (j + 1) - 2 ^ 1) ≡ q / 2 * 2 + 0 = and_high q j 1 ∙ rw (mod-eq_of_lt small) (omega arith) in
    let low : bit_and (a % 2 ^ k) (2 ^ k - 1) ≡ a % 2 ^ k = and_mask (a % 2 ^ k) k ∙ mod-eq_of_lt (mod-lt a (pow_pos k)) in
    ap (λ (x : ℕ). bit_and x (2 ^ w - 1 - 2 ^ k)) (sym (split a k))
    ∙ ap (λ (x : ℕ). bit_and (q * 2 ^ k + a % 2 ^ k) x) m
    ∙ and_block k q (2 ^ (j + 1) - 2 ^ 1) (a % 2 ^ k) (2 ^ k - 1) (mod-lt a (pow_pos k)) (ones_lt k)
    ∙ simp (high, low)
  where
    -- the mask as a high part and k ones
    mask : (a b c d : ℕ) → a ≡ b * d → b ≡ c * 2 → 0 < c → 0 < d → a - 1 - d ≡ (b - 2) * d + (d - 1)
    mask a b c d ea eb hc hd =
        let r : b ≡ b - 2 + 2 = omega arith in
        let s : a ≡ (b - 2) * d + 2 * d = ea ∙ ap (λ (m : ℕ). m * d) r ∙ omega arith in
        omega arith

-- `1 << k` at w bits
pub shifted_one : (w k : ℕ) → k < w → 1 * 2 ^ k % 2 ^ w ≡ 2 ^ k
shifted_one w k h = rw one-mul (mod-eq_of_lt (pow-lt h))
