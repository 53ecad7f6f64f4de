-- The width of an encoding: what the ranges say is what bits 13 to 14 say, and for one of the table the width of its field. Assumes nothing.
use Prim.Native.Nat.{ℕ, ◌<◌, ◌≤◌, ◌/◌, ◌%◌, ◌^◌}
use mathlib.Core.Path.{◌≡◌, refl}
use mathlib.Core.Bool.{Bool, true, false, cond}
use native.Mathlib.Omega.{arith}
use lib.ListN.{get_or}
use lib.Dec.{T, eqb, leb, ltb, eqb→eq}
use borrow.Author.Tests.{leb-true, leb-false, ltb-false}
use lib.Pow.{pow_pos}
use Rattle.bits.proofs.AllBelow.{below}
use Rattle.bits.proofs.Tells.{cond_all}
use Rattle.vmcs.specs.Field.{width_bits, put}
use Rattle.vmcs.specs.Named.{named, encodings}
use Rattle.vmcs.specs.Fields.{position_of, field_at, field_of, width_of, greatest_of, read_only, write_refusal, written, vmcs_write}
use Rattle.vmcs.specs.Rules.{width_by_bits}
use Rattle.vmcs.specs.declared.Vmcs.{Vmcs}
use Rattle.vmcs.proofs.TableTest.{each_listed}

-- ---- by ranges

-- what holds on both sides of a bound holds of a choice by it
by_bound : (P : ℕ → Type 0) (e m x y : ℕ) → (e ≤ m → P x) → (m < e → P y) → P (cond (leb e m) x y)
by_bound P e m x y p q = cond_all P (leb e m) x y (λ t. p (leb-true e m t)) (λ f. q (leb-false e m f))

-- what holds of each range's width holds of the width
width_cases : (P : ℕ → Type 0) (e : ℕ) → (e < 0x2000 → P 16) → (0x2000 ≤ e → e < 0x4000 → P 64) → (0x4000 ≤ e → e < 0x6000 → P 32) → (0x6000 ≤ e → P 64)
    → P (width_of e)
unfolding width_of
width_cases P e b1 b2 b3 b4 =
    by_bound P e 0x1FFF _ _ (λ h. b1 (omega arith))
    (λ l. by_bound P e 0x3FFF _ _ (λ h. b2 (omega arith) (omega arith))
    (λ l. by_bound P e 0x5FFF _ _ (λ h. b3 (omega arith) (omega arith)) (λ l. b4 (omega arith))))

-- a width is 16, 32 or 64 bits
pub width_64 : (e : ℕ) → (width_of e ≡ 16 → ⊥) → (width_of e ≡ 32 → ⊥) → width_of e ≡ 64
width_64 e = width_cases P e (λ _ n m. absurd (n refl)) (λ _ _ n m. refl) (λ _ _ n m. absurd (m refl)) (λ _ n m. refl)
  where
    P : ℕ → Type 0
    P w = (w ≡ 16 → ⊥) → (w ≡ 32 → ⊥) → w ≡ 64

-- for each number to 0x7FFF the ranges say what bits 13 to 14 say
pub same_width : (e : ℕ) → e ≤ 0x7FFF → width_of e ≡ width_by_bits e
unfolding width_by_bits
same_width e most =
    width_cases (λ w. w ≡ width_by_bits e) e
    (λ h. let n : e / 2 ^ 13 % 4 ≡ 0 = omega arith in rw n)
    (λ l h. let n : e / 2 ^ 13 % 4 ≡ 1 = omega arith in rw n)
    (λ l h. let n : e / 2 ^ 13 % 4 ≡ 2 = omega arith in rw n)
    (λ l. let n : e / 2 ^ 13 % 4 ≡ 3 = omega arith in rw n)

-- ---- in the table, by tests of each place

widths : T (below (λ p. eqb (width_of (get_or encodings p 0)) (width_bits (field_at p))) 154)
unfolding encodings named field_at width_of
widths = tt

pub width_agrees : (e : ℕ) → position_of encodings e < 154 → width_of e ≡ width_bits (field_of e)
width_agrees e h = eqb→eq _ _ (each_listed (λ p e. eqb (width_of e) (width_bits (field_at p))) widths e h)

-- a value that an encoding's width takes fits its field
pub fits_field : (e x : ℕ) → position_of encodings e < 154 → x ≤ greatest_of e → x < 2 ^ width_bits (field_of e)
unfolding greatest_of
fits_field e x h l = rw (← (width_agrees e h)) (omega (arith, pow_pos (width_of e)))

-- ---- a write, by its refusal

module _ (e x : ℕ) where
  -- where it is refused the fields are as they were
  pub write_by_refusal : (v : Vmcs) → vmcs_write v e x ≡ cond (eqb (write_refusal e x) 0) (written 0 (put v (field_of e) x)) (written (write_refusal e x) v)
  unfolding write_refusal vmcs_write
  write_by_refusal v = go (leb 154 (position_of encodings e)) (read_only e) (ltb (greatest_of e) x)
    where
      go : (p q r : Bool) → cond p (written 3 v) (cond q (written 4 v) (cond r (written 5 v) (written 0 (put v (field_of e) x))))
          ≡ cond (eqb (cond p 3 (cond q 4 (cond r 5 0))) 0) (written 0 (put v (field_of e) x)) (written (cond p 3 (cond q 4 (cond r 5 0))) v)
      go true q r = refl
      go false true r = refl
      go false false true = refl
      go false false false = refl

  -- where it is not, the encoding is known and the value fits
  pub writable : write_refusal e x ≡ 0 → (position_of encodings e < 154) × (x < 2 ^ width_bits (field_of e))
  unfolding write_refusal
  writable = go (leb 154 (position_of encodings e)) refl (read_only e) (ltb (greatest_of e) x) refl
    where
      go : (p : Bool) → leb 154 (position_of encodings e) ≡ p → (q r : Bool) → ltb (greatest_of e) x ≡ r → cond {A = ℕ} p 3 (cond q 4 (cond r 5 0)) ≡ 0
          → (position_of encodings e < 154) × (x < 2 ^ width_bits (field_of e))
      go true a q r b n = absurd (omega arith)
      go false a true r b n = absurd (omega arith)
      go false a false true b n = absurd (omega arith)
      go false a false false b n =
          let known : position_of encodings e < 154 = leb-false 154 (position_of encodings e) a in
          (known, fits_field e x known (ltb-false (greatest_of e) x b))
