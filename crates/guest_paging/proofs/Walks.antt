-- What holds of every walk. Assumes nothing.
use Prim.Native.Nat.{ℕ, ◌/◌, ◌%◌, ◌^◌, ◌<◌}
use mathlib.Core.Path.{◌≡◌, refl, subst}
use mathlib.Core.Bool.{Bool, true, false, cond}
use mathlib.Core.List.{List}
use mathlib.Core.Logic.{◌⊎◌, ◌≢◌, inl, inr}
use native.Mathlib.Omega.{arith}
use borrow.Author.Tests.{eq-eqb, ne_eqb}
use lib.Dec.{eqb}
use Rattle.bits.specs.LittleEndian.{Below}
use Rattle.bits.specs.Words.{bit}
use Rattle.vmcs.specs.Flags.Cr0Flags as Cr0Flags
use Rattle.vmcs.specs.Flags.Cr4Flags as Cr4Flags
use Rattle.vmcs.specs.Flags.EferFlags as EferFlags
use Rattle.vcpu_readings.specs.declared.GuestPageWalkInfo.{GuestPageWalkInfo}
use Rattle.vcpu_readings.specs.declared.PagingWords.{PagingWords}
use Rattle.vcpu_readings.specs.Readings.{paging_level, walk_pse, page_walk}
use Rattle.guest_paging.specs.Walked.{Walked, Address}
use Rattle.guest_paging.specs.Walk.{for_access, page_walk_of}
use Rattle.guest_paging.specs.Reference.{Kind, OfLevel, Outcome, itself, reaches, fails, past}
use Rattle.guest_paging.specs.Laws.{Levels, Reads, Walks}
use Rattle.guest_paging.proofs.KindLaws.{right_of}
use Rattle.guest_paging.proofs.OutcomeLaws.{counted, above_none, outcome, only_reaches, only_fails, only_past}
use Rattle.guest_paging.proofs.LongerLaws.{longer}

module _ (m : List ℕ) (typed : Below 256 m) (i : GuestPageWalkInfo) (a : ℕ) where
  -- a kind of a level has at least two levels
  no_kind : {k : Kind} {l : ℕ} → i.level ≡ 0 → OfLevel m i a k l → ⊥
  no_kind {k} h o = let c = (right_of k o.listed).counted in omega (arith, c, o.levels, h)

  module _ (off : i.level ≡ 0) where
    off_answered : Outcome m i a (page_walk_of m i a)
    unfolding page_walk_of
    off_answered = rw (eq-eqb i.level 0 off) (itself off)

    off_alone : (w : Walked) → Outcome m i a w → w ≡ page_walk_of m i a
    unfolding page_walk_of
    off_alone _ (itself h) = rw (eq-eqb i.level 0 off)
    off_alone _ (reaches l x p j h d) = absurd (no_kind off j.meets.of_level)
    off_alone _ (fails l r x j n) = absurd (no_kind off j.meets.of_level)
    off_alone _ (past xs l t k p o h) = absurd (no_kind off o)

  module _ (on : (i.level ≡ 2) ⊎ (i.level ≡ 3) ⊎ (i.level ≡ 4)) where
    not_off : i.level ≢ 0
    not_off z = elim on [ inl h ↦ omega (arith, h, z) | inr p ↦ elim p [ inl h ↦ omega (arith, h, z) | inr h ↦ omega (arith, h, z) ] ]

    on_answered : Outcome m i a (page_walk_of m i a)
    unfolding page_walk_of
    on_answered = rw (ne_eqb i.level 0 not_off) (outcome m typed i a on)

    on_alone : (w : Walked) → Outcome m i a w → w ≡ page_walk_of m i a
    unfolding page_walk_of
    on_alone _ (itself h) = absurd (not_off h)
    on_alone _ (reaches l x p j h d) = rw (ne_eqb i.level 0 not_off) (only_reaches m typed i a on l x p j h d)
    on_alone _ (fails l r x j n) = rw (ne_eqb i.level 0 not_off) (only_fails m typed i a on l r x j n)
    on_alone _ (past xs l t k p o h) = rw (ne_eqb i.level 0 not_off) (only_past m typed i a on xs l t k p o h)

  bounds : i.level ≢ 0 → (p : ℕ) → Outcome m i a (Address p) → (p < 2 ^ 52) × (p % 2 ^ 12 ≡ a % 2 ^ 12)
  bounds on _ (itself h) = absurd (on h)
  bounds on _ (reaches l x p j h d) = (right_of x.kind j.meets.of_level.listed).low x.entry a p d

  pub walks : Levels i.level → Walks m i a
  walks (inl off) =
      record {
        answered = off_answered off;
        alone = off_alone off;
        longer = λ more. longer m more i a;
        bounded = λ on p e. absurd (on off);
        entries = λ xs l t x p w. absurd (no_kind off w.of_level);
      }
  walks (inr on) =
      record {
        answered = on_answered on;
        alone = on_alone on;
        longer = λ more. longer m more i a;
        bounded = λ some p e. bounds some p (subst (Outcome m i a) e (on_answered on));
        entries = λ xs l t x p w. let c = counted m typed i a on xs l t p in let n = above_none m typed i a on xs l t p in omega (arith, c, n);
      }

-- ---- the reading of a session

level_of : (w : PagingWords) → Levels (paging_level w)
unfolding paging_level
level_of w = go (eqb (w.cr0 / 2 ^ Cr0Flags.PAGING % 2) 0) (eqb (w.cr4 / 2 ^ Cr4Flags.PHYSICAL_ADDRESS_EXTENSION % 2) 0) (bit EferFlags.LONG_MODE_ACTIVE w.efer)
  where
    go : (off no-pae long : Bool) → Levels (cond off 0 (cond no-pae 2 (cond long 4 3)))
    go true no-pae long = inl refl
    go false true long = inr (inl refl)
    go false false true = inr (inr (inr refl))
    go false false false = inr (inr (inl refl))

pub reads : (w : PagingWords) (kind : ℕ) → Reads (for_access (page_walk w) kind)
unfolding page_walk walk_pse
reads w kind = record { levels = level_of w; judged = λ n. rw (ne_eqb (paging_level w) 2 n) }

-- the walk of every call: of any record, over any bytes
pub session_walks : (w : PagingWords) (kind : ℕ) (m : List ℕ) → Below 256 m → (a : ℕ) → Walks m (for_access (page_walk w) kind) a
session_walks w kind m typed a = walks m typed (for_access (page_walk w) kind) a (reads w kind).levels
