-- The laws of what is judged: one bit of a word set or cleared, a control register after a report and after a move, and that the invariant gives
-- what is judged. Assumes nothing.
use mathlib.Core.Path.{◌≡◌, refl}
use mathlib.Core.Bool.{Bool, true, false}
use Prim.Native.Nat.{ℕ, ◌<◌, ◌^◌}
use lib.Bits.{bit_and, bit_or}
use lib.Dec.{T, lit<, eqb}
use lib.Pow.{pow-lt}
use borrow.Author.Tests.{eqb-true, eqb-false}
use Rattle.bits.specs.Words.{bit, bit_not, Within, Permitted}
use Rattle.bits.proofs.BitLaws.{bit_of_zero}
use Rattle.bits.proofs.WordLaws as W
use Rattle.bits.proofs.WordLaws.{words}
use Rattle.vmcs.specs.Cr.{cr0_free, cr_words}
use Rattle.vmcs.specs.Field.{value_of}
use Rattle.vmcs.specs.Names.VmcsControl32 as VmcsControl32
use Rattle.vmcs.specs.declared.Vmcs.{Vmcs}
use Rattle.vmcs.proofs.CrLaws.{same_permitted}
use Rattle.vcpu_session.specs.declared.Capabilities.{Capabilities}
use Rattle.vcpu_report.specs.Invariant.{Consistent, PermittedAside, AllPermitted, Owned, SoundWords}

-- ---- bit k aside

pub aside_of : (k low high word : ℕ) → Permitted low high word → PermittedAside k low high word
aside_of k low high word p = record { required = λ i n t. p.required.has i t; allowed = λ i n t. p.allowed.has i t }

-- where only high has the bit, nothing is aside
pub whole_of : (k low high word : ℕ) → PermittedAside k low high word → T (bit k high) → (T (bit k low) → ⊥) → Permitted low high word
whole_of k low high word p may need =
    record {
      required = record { has = λ i t. p.required i (λ e. need (rw e at t)) t };
      allowed = record { has = λ i t. go i t (eqb i k) refl };
    }
  where
    go : (i : ℕ) → T (bit i word) → (b : Bool) → eqb i k ≡ b → T (bit i high)
    go i t true e = rw (eqb-true i k e) may
    go i t false e = p.allowed i (eqb-false i k e) t

pub aside_set : (k low high word : ℕ) → PermittedAside k low high word → PermittedAside k low high (bit_or word (2 ^ k))
aside_set k low high word p =
    record {
      required = λ i n t. W.has_or_l i word (2 ^ k) (p.required i n t);
      allowed = λ i n t. W.or_has i word (2 ^ k) t (p.allowed i n) (λ b. absurd (n (W.bit_pow k i b)));
    }

pub aside_clear : (w k low high word : ℕ) → low < 2 ^ w → k < w → PermittedAside k low high word → PermittedAside k low high (bit_and word (bit_not w (2 ^ k)))
aside_clear w k low high word fits below p =
    record {
      required = λ i n t.
          W.has_and i word (bit_not w (2 ^ k)) (p.required i n t)
          (W.has_not w (2 ^ k) (pow-lt below) i (W.bit_below w i low fits t) (λ b. n (W.bit_pow k i b)));
      allowed = λ i n t. p.allowed i n (W.and_has_l i word (bit_not w (2 ^ k)) t);
    }

-- ---- control registers

none : (i : ℕ) → T (bit i 0) → ⊥
none i t = rw (bit_of_zero i) at t

module _ (must0 must1 fixed1 : ℕ) (fits : must0 < 2 ^ 64) (may : Within must0 fixed1) (must : Within must1 fixed1) where
  -- a value that agrees under the mask
  pub agreed : (v n mask : ℕ) → n < 2 ^ 64 → bit_and n mask ≡ bit_and v mask → Owned must0 must1 fixed1 v mask → Owned must0 must1 fixed1 n mask
  agreed v n mask h e o =
      let p = same_permitted 64 0 must1 fixed1 must0 must1 may must (λ i t _. t) v n fits h o.has o.within (rw o.owns at e) in
      record { has = record { has = λ i t. p.required i t (none i) }; within = p.allowed; owns = o.owns }

  pub moved_to : (val : ℕ) → Owned must0 must1 fixed1 (cr_words must0 must1 val).value (cr_words must0 must1 val).mask
  moved_to val = record { has = search words; within = search words; owns = refl }

-- ---- the invariant gives what is judged

pub sound_permitted : (c : Capabilities) (v : Vmcs) → Consistent c → SoundWords c (value_of v) → AllPermitted c v
sound_permitted c v ok h =
    record {
      pin = h.pin;
      primary = h.primary;
      window = λ may need. whole_of 2 _ _ (value_of v VmcsControl32.PRIMARY_PROCBASED_EXEC_CONTROLS) h.primary may need;
      secondary = h.secondary;
      exit = h.exit;
      entry = h.entry;
      cr0 =
          record {
            required = λ i t n.
                h.cr0.has.has i
                (W.has_and i c.cr0.fixed0 (bit_not 64 cr0_free) t
                (W.has_not 64 cr0_free (lit< tt) i (W.bit_below 64 i c.cr0.fixed1 ok.cr0_fits (ok.cr0.has i t)) n));
            allowed = h.cr0.within;
          };
      cr4 = record { required = λ i t _. h.cr4.has.has i t; allowed = h.cr4.within };
    }
