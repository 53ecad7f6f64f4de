-- The laws of a control register's value, at any width: it is permitted by fixed-0 and fixed-1 but for the free bits, and
-- so is any later value that agrees with it under the mask. Assumes nothing.
use mathlib.Core.Path.{◌≡◌}
use mathlib.Core.Bool.{Bool, true, false}
use Prim.Native.Nat.{ℕ, ◌^◌, ◌<◌}
use lib.Bits.{bit_and, bit_or}
use lib.Dec.{T, lit<}
use Rattle.bits.specs.Words.{bit_not, bit, Within, PermittedBut}
use Rattle.vmcs.specs.Cr.{cr0_free, cr0_off, cr0_words, cr4_words}
use Rattle.bits.proofs.WordLaws as W
use Rattle.bits.proofs.WordLaws.{words}

-- a bit is there or not
cases : {C : Type 0} (b : Bool) → (T b → C) → ((T b → ⊥) → C) → C
cases true f g = f tt
cases false f g = g (λ t. t)

-- must0: what may be 1. must1: what must be 1
module _ (w free fixed0 fixed1 must0 must1 : ℕ)
    (may : Within must0 fixed1) (must : Within must1 fixed1) (covers : (i : ℕ) → T (bit i fixed0) → (T (bit i free) → ⊥) → T (bit i must1)) where
  -- the bits that the guest cannot change
  abbrev pub mask : ℕ
  mask = bit_or must1 (bit_not w must0)

  pub value_permitted : (val : ℕ) → PermittedBut free fixed0 fixed1 (bit_or (bit_and val must0) must1)
  value_permitted val =
      record { required = λ i t n. W.has_or_r i (bit_and val must0) must1 (covers i t n); allowed = search words }

  -- v has must1, lies within fixed1, and n agrees with it under the mask
  pub same_permitted : (v n : ℕ) → must0 < 2 ^ w → n < 2 ^ w → Within must1 v → Within v fixed1
      → bit_and n mask ≡ bit_and v mask → PermittedBut free fixed0 fixed1 n
  same_permitted v n h0 hn has within e =
      record {
        required = λ i t f. from_v i (W.has_or_l i must1 (bit_not w must0) (covers i t f)) (has.has i (covers i t f));
        allowed =
            record {
              has = λ i t.
                  cases (bit i must0) (may.has i)
                  (λ o. within.has i (to_v i (W.has_or_r i must1 (bit_not w must0) (W.has_not w must0 h0 i (W.bit_below w i n hn t) o)) t));
            };
      }
    where
      from_v : (i : ℕ) → T (bit i mask) → T (bit i v) → T (bit i n)
      from_v i m t = W.and_has_l i n mask (rw e (W.has_and i v mask t m))

      to_v : (i : ℕ) → T (bit i mask) → T (bit i n) → T (bit i v)
      to_v i m t = W.and_has_l i v mask (rw e at (W.has_and i n mask t m))

-- PG and PE are free in CR0
pub cr0_permitted : (fixed0 fixed1 val : ℕ) → fixed0 < 2 ^ 64 → Within fixed0 fixed1
    → PermittedBut cr0_free fixed0 fixed1 (cr0_words fixed0 fixed1 val).value
cr0_permitted fixed0 fixed1 val h p =
    value_permitted 64 cr0_free fixed0 fixed1 (bit_and fixed1 (bit_not 64 cr0_off)) (bit_and fixed0 (bit_not 64 cr0_free))
    (search words) (search words)
    (λ i t n. W.has_and i fixed0 (bit_not 64 cr0_free) t (W.has_not 64 cr0_free (lit< tt) i (W.bit_below 64 i fixed0 h t) n)) val

-- no bit is free in CR4
pub cr4_permitted : (fixed0 fixed1 val : ℕ) → Within fixed0 fixed1 → PermittedBut 0 fixed0 fixed1 (cr4_words fixed0 fixed1 val).value
cr4_permitted fixed0 fixed1 val p =
    value_permitted 64 0 fixed0 fixed1 fixed1 fixed0 (search words) p (λ i t n. t) (bit_or val 0x2000)
