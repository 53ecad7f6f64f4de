-- Setup does not look at the capability words that are not used, and never accepts the older board. Assumes nothing.
use Prim.Native.Nat.{ℕ, ◌+◌, ◌*◌, ◌≤◌, ◌<◌}
use mathlib.Core.Path.{◌≡◌, refl, sym, ◌∙◌, subst}
use mathlib.Core.Bool.{Bool, true, false, cond, ◌&&◌}
use mathlib.Core.List.{List, [], ◌∷◌, ◌++◌}
use mathlib.Core.Logic.{◌⊎◌, ◌≢◌, inl, inr}
use native.Mathlib.Omega.{arith}
use lib.Dec.{eqb, leb}
use lib.ListN.{length, drop, length-drop}
use lib.Seq.{get_or-drop}
use borrow.Author.Tests.{eqb-true}
use Rattle.bits.specs.Refuses.{Rule, by, Refuses}
use Rattle.bits.specs.Words.{low32, high32, Within, Apart}
use Rattle.bits.specs.LittleEndian.{little_endian, Below}
use Rattle.bits.proofs.LittleEndianLaws.{number_same, low_half, below_drop}
use Rattle.bits.proofs.BitLaws.{bit_of_zero}
use Rattle.bits.proofs.Tells.{cond_all, past}
use Rattle.vcpu_setup.specs.Setup.{setup_of}
use Rattle.vcpu_setup.specs.Used.{SameUsed, SameArguments}
use Rattle.vcpu_setup.proofs.UsedLaws.{setup_same}
use Rattle.record.specs.Codec.{session_of, accepted_of}
use Rattle.record.specs.Runs.{flag_of}
use Rattle.record.proofs.RoundTrip.{session_lawful}
use Rattle.blocks.specs.SetupLayout as Layout
use Rattle.blocks.specs.SetupBlock.{host_of, addresses_of, msrs_of, features_of, arguments_of, block_accepted}
use Rattle.call_specs.specs.Records.{FramesCall}
use Rattle.call_specs.specs.SetupCall.{setup_accepts, setup_call}
use Rattle.calls.specs.Reference.{msr_at, has_true_words, Limits, limits_of, pin_set, primary_set, primary_clear, secondary_set, exit_set, entry_set, Consistent, word_rules}
use Rattle.calls.specs.CapabilityWords.{PlainHigh, MayDiffer, SameLookedAt, NotLookedAt, OlderBoard, NoneBefore, RefusesOlderBoard}
use Rattle.calls.proofs.SetupNumbers.{of_buffers}
use Rattle.calls.proofs.Steps.{setup_ruled}

-- ---- what is not looked at

-- the j-th plain word, and the j-th TRUE word
abbrev plain_at : ℕ → ℕ
plain_at j = Layout.PINBASED_CTLS + 8 * j

abbrev true_at : ℕ → ℕ
true_at j = Layout.TRUE_PINBASED_CTLS + 8 * j

-- place i is in the high half of a plain word
record HighOf (i : ℕ) : Type 0 where
  word : ℕ
  fourth : word < 4
  from : plain_at word + 4 ≤ i
  to : i < plain_at word + 8

plain_high : (i : ℕ) → PlainHigh i → HighOf i
plain_high i (inl h) = record { word = 0; fourth = omega arith; from = omega (arith, h.0); to = omega (arith, h.1) }
plain_high i (inr (inl h)) = record { word = 1; fourth = omega arith; from = omega (arith, h.0); to = omega (arith, h.1) }
plain_high i (inr (inr (inl h))) = record { word = 2; fourth = omega arith; from = omega (arith, h.0); to = omega (arith, h.1) }
plain_high i (inr (inr (inr h))) = record { word = 3; fourth = omega arith; from = omega (arith, h.0); to = omega (arith, h.1) }

-- outside the words from IA32_VMX_BASIC to IA32_VMX_ENTRY_CTLS and the TRUE ones, no byte may differ
abbrev Spread : ℕ → Type 0
Spread i = ((Layout.VMX_BASIC ≤ i) × (i < Layout.CR0_FIXED0)) ⊎ ((Layout.TRUE_PINBASED_CTLS ≤ i) × (i < Layout.XCR0_SUPPORTED))

spread : (there : Bool) (i : ℕ) → MayDiffer there i → Spread i
spread true i (inl h) = inl (omega (arith, h.0), omega (arith, h.1))
spread true i (inr h) = let p = plain_high i h in inl (omega (arith, p.from), omega (arith, p.fourth, p.to))
spread false i (inl h) = inl (omega (arith, h.0), omega (arith, h.1))
spread false i (inr h) = inr (omega (arith, h.0), omega (arith, h.1))

-- no byte of the low half of the j-th plain word may differ
low_free : (there : Bool) (j i : ℕ) → j < 4 → i < 4 → MayDiffer there (plain_at j + i) → ⊥
low_free true j i h u (inl d) = omega (arith, d.1)
low_free true j i h u (inr d) = let p = plain_high (plain_at j + i) d in omega (arith, p.from, p.to)
low_free false j i h u (inl d) = omega (arith, d.1)
low_free false j i h u (inr d) = omega (arith, d.0)

module _ (block other : List ℕ) (bytes : Below 256 block) (bytes' : Below 256 other) (same : SameLookedAt block other) where
  -- a number is the same in both
  abbrev Same : (k o : ℕ) → Type 0
  Same k o = little_endian k (drop o block) ≡ little_endian k (drop o other)

  -- one none of whose bytes may differ
  number : (k o : ℕ) → ((i : ℕ) → i < k → MayDiffer (has_true_words block) (o + i) → ⊥) → Same k o
  number k o free =
      number_same k (drop o block) (drop o other) (rw (length-drop, length-drop, same.long))
      (λ i h. get_or-drop o block i 0 ∙ same.bytes (o + i) (free i h) ∙ sym (get_or-drop o other i 0))

  number_when : (t : Bool) → has_true_words block ≡ t → (k o : ℕ) → ((i : ℕ) → i < k → MayDiffer t (o + i) → ⊥) → Same k o
  number_when t e k o free = number k o (λ i h d. free i h (subst (λ (u : Bool). MayDiffer u (o + i)) e d))

  -- below IA32_VMX_BASIC, between the plain words and the TRUE ones, and above these
  below : (k o : ℕ) → o + k ≤ Layout.VMX_BASIC → Same k o
  below k o l = number k o (λ i h d. elim (spread (has_true_words block) (o + i) d) [ inl x ↦ omega (arith, x.0) | inr y ↦ omega (arith, y.0) ])

  between : (k o : ℕ) → Layout.CR0_FIXED0 ≤ o → o + k ≤ Layout.TRUE_PINBASED_CTLS → Same k o
  between k o l u = number k o (λ i h d. elim (spread (has_true_words block) (o + i) d) [ inl x ↦ omega (arith, x.1) | inr y ↦ omega (arith, y.0) ])

  above : (k o : ℕ) → Layout.XCR0_SUPPORTED ≤ o → Same k o
  above k o l = number k o (λ i h d. elim (spread (has_true_words block) (o + i) d) [ inl x ↦ omega (arith, x.1) | inr y ↦ omega (arith, y.1) ])

  -- of a plain word the low half, and the whole where the TRUE words are not there; and a TRUE word where they are
  low : (j : ℕ) → j < 4 → low32 (little_endian 8 (drop (plain_at j) block)) ≡ low32 (little_endian 8 (drop (plain_at j) other))
  low j h =
      low_half (drop (plain_at j) block) (below_drop (plain_at j) block bytes) ∙ number 4 (plain_at j) (λ i u. low_free (has_true_words block) j i h u)
      ∙ sym (low_half (drop (plain_at j) other) (below_drop (plain_at j) other bytes'))

  plain : has_true_words block ≡ false → (j : ℕ) → j < 4 → Same 8 (plain_at j)
  plain e j h = number_when false e 8 (plain_at j) (λ i u d. elim d [ inl x ↦ omega (arith, x.1) | inr y ↦ omega (arith, y.0) ])

  superseding : has_true_words block ≡ true → (j : ℕ) → Same 8 (true_at j)
  superseding e j =
      number_when true e 8 (true_at j)
      (λ i u d. elim d [ inl x ↦ omega (arith, x.1) | inr y ↦ let p = plain_high (true_at j + i) y in omega (arith, p.fourth, p.to) ])

  msrs_same : SameUsed (msrs_of block) (msrs_of other)
  unfolding msrs_of
  msrs_same =
      record {
        chooses = same.there;
        olds = (low 0 (omega arith), low 1 (omega arith), low 2 (omega arith), low 3 (omega arith));
        plain = λ e. (plain e 0 (omega arith), plain e 1 (omega arith), plain e 2 (omega arith), plain e 3 (omega arith));
        superseding = λ e. (superseding e 0, superseding e 1, superseding e 2, superseding e 3);
        procbased2 = between 8 Layout.PROCBASED_CTLS2 (omega arith) (omega arith);
        cr0 = (between 8 Layout.CR0_FIXED0 (omega arith) (omega arith), between 8 Layout.CR0_FIXED1 (omega arith) (omega arith));
        cr4 = (between 8 Layout.CR4_FIXED0 (omega arith) (omega arith), between 8 Layout.CR4_FIXED1 (omega arith) (omega arith));
      }

  host_same : host_of block ≡ host_of other
  unfolding host_of
  host_same =
      λ i. record {
        pat = below 8 Layout.HOST_PAT (omega arith) i;
        efer = below 8 Layout.HOST_EFER (omega arith) i;
        cr0 = below 8 Layout.HOST_CR0 (omega arith) i;
        cr3 = below 8 Layout.HOST_CR3 (omega arith) i;
        cr4 = below 8 Layout.HOST_CR4 (omega arith) i;
        es = below 2 Layout.HOST_ES (omega arith) i;
        cs = below 2 Layout.HOST_CS (omega arith) i;
        ss = below 2 Layout.HOST_SS (omega arith) i;
        ds = below 2 Layout.HOST_DS (omega arith) i;
        fs = below 2 Layout.HOST_FS (omega arith) i;
        gs = below 2 Layout.HOST_GS (omega arith) i;
        fsbase = below 8 Layout.HOST_FS_BASE (omega arith) i;
        gsbase = below 8 Layout.HOST_GS_BASE (omega arith) i;
        tr = below 2 Layout.HOST_TR (omega arith) i;
        trbase = below 8 Layout.HOST_TR_BASE (omega arith) i;
        gdtrbase = below 8 Layout.HOST_GDTR_BASE (omega arith) i;
        idtrbase = below 8 Layout.HOST_IDTR_BASE (omega arith) i;
        rip = below 8 Layout.HOST_RIP (omega arith) i;
      }

  addresses_same : addresses_of block ≡ addresses_of other
  unfolding addresses_of
  addresses_same =
      λ i. record {
        eptroot = below 8 Layout.EPT_ROOT (omega arith) i;
        bitmapa = below 8 Layout.IO_BITMAP_A (omega arith) i;
        bitmapb = below 8 Layout.IO_BITMAP_B (omega arith) i;
        bitmapmsr = below 8 Layout.MSR_BITMAPS (omega arith) i;
      }

  features_same : features_of block ≡ features_of other
  unfolding features_of flag_of
  features_same =
      λ i. record {
        rdtscp = eqb (above 1 Layout.RDTSCP (omega arith) i) 1;
        invpcid = eqb (above 1 Layout.INVPCID (omega arith) i) 1;
        xsaves = eqb (above 1 Layout.XSAVES (omega arith) i) 1;
      }

  arguments_same : SameArguments (arguments_of block) (arguments_of other)
  unfolding arguments_of
  arguments_same =
      record {
        msrs = msrs_same;
        host = host_same;
        entry = below 8 Layout.ENTRY (omega arith);
        pat = below 8 Layout.GUEST_PAT (omega arith);
        addresses = addresses_same;
        xcr0supported = above 8 Layout.XCR0_SUPPORTED (omega arith);
        features = features_same;
      }

  accepted_same : block_accepted block ≡ block_accepted other
  unfolding block_accepted
  accepted_same =
      λ i. eqb (same.long i) Layout.LENGTH && leb (above 1 Layout.RDTSCP (omega arith) i) 1 && leb (above 1 Layout.INVPCID (omega arith) i) 1
      && leb (above 1 Layout.XSAVES (omega arith) i) 1

pub not_looked_at : (b block other x y z : List ℕ) → NotLookedAt b block other x y z
unfolding setup_call setup_accepts
not_looked_at b block other x y z bytes bytes' same =
    rw (
      accepted_same block other bytes bytes' same,
      setup_same (session_of b) (arguments_of block) (arguments_of other) (arguments_same block other bytes bytes' same),
    )

-- ---- the older board

is_record : (b block x y z : List ℕ) → setup_accepts b block x y z ≡ true → accepted_of b ≡ true
unfolding setup_accepts
is_record b block x y z e = front (accepted_of b) (block_accepted block) (eqb (length x) 4096) (eqb (length y) 4096) (eqb (length z) 4096) e
  where
    front : (p q r s t : Bool) → (p && q && r && s && t) ≡ true → p ≡ true
    front true q r s t e = refl
    front false q r s t e = e

takes_buffers : (b block x y z : List ℕ) → NoneBefore b block x y z → setup_accepts b block x y z ≡ true
unfolding setup_accepts
takes_buffers b block x y z h = rw h.accepted (of_buffers block x y z h.buffers)

module _ (b block x y z : List ℕ) (o : OlderBoard block) where
  abbrev l : Limits
  l = limits_of block

  -- what comes before primary's 9, and from it on
  abbrev earlier : List Rule
  earlier =
      by 1 ((session_of b).progress.phase ≢ 0) ∷ by 6 (Consistent l → ⊥) ∷ word_rules l.pin pin_set 0
      ++ (by 8 (Within primary_set l.primary.may → ⊥) ∷ [])

  abbrev later : List Rule
  later =
      by 9 (Apart l.primary.must primary_clear → ⊥) ∷ word_rules l.secondary (secondary_set (features_of block)) 0 ++ word_rules l.exit exit_set 0
      ++ word_rules l.entry entry_set 0

  abbrev number_of_step : ℕ
  number_of_step = (setup_of (session_of b) (arguments_of block)).refusal

  ruled : accepted_of b ≡ true → Refuses (earlier ++ later) number_of_step
  ruled ok = setup_ruled (session_of b) block (session_lawful b ok)

  -- primary's allowed-0 is the low half of the plain word
  plain_must : l.primary.must ≡ low32 (msr_at Layout.PROCBASED_CTLS block)
  plain_must = rw o.lacks

  plain_may : l.primary.may ≡ high32 (msr_at Layout.PROCBASED_CTLS block)
  plain_may = rw o.lacks

  pin_may : l.pin.may ≡ high32 (msr_at Layout.PINBASED_CTLS block)
  pin_may = rw o.lacks

  demands : Apart l.primary.must primary_clear → ⊥
  demands p = p.lacks o.place (rw plain_must o.demanded) o.cleared

  from_nine : (n : ℕ) → Refuses later n → n ≡ 9
  from_nine n (inl w) = w.1
  from_nine n (inr w) = absurd (w.0 demands)

  -- the step's number is not 0, and it is 9 where the earlier rules do not apply
  step_refused : accepted_of b ≡ true → number_of_step ≢ 0
  step_refused ok e =
      let w : Refuses (earlier ++ later) 0 = subst (Refuses (earlier ++ later)) e (ruled ok) in
      let n = from_nine 0 (past earlier later 0 ((λ _ k. omega (arith, k)), ((λ _ k. omega (arith, k)), ((λ _ k. omega (arith, k)), ((λ _ k. omega (arith, k)), ((λ _ k. omega (arith, k)), tt))))) w) in
      omega (arith, n)

  step_nine : NoneBefore b block x y z → number_of_step ≡ 9
  step_nine h =
      from_nine number_of_step
      (past earlier later number_of_step (
        λ a _. a h.fresh,
        (
          λ a _. a h.consistent,
          (
            λ a _. a (rw pin_may h.pin),
            (λ a _. a (record { lacks = λ i _ t. rw (bit_of_zero i) at t }), (λ a _. a (rw plain_may h.primary), tt)),
          ),
        ),
      )
      (ruled h.accepted))

  -- the number of the call is 2, or the step's
  call_number : (t : Bool) → setup_accepts b block x y z ≡ t → (setup_call b block x y z).refusal ≡ cond t number_of_step 2
  unfolding setup_call
  call_number true e = rw e (cond_all (λ (r : FramesCall). r.refusal ≡ number_of_step) (eqb number_of_step 0) _ _ (λ k. sym (eqb-true _ _ k)) (λ _. refl))
  call_number false e = rw e

  never : (t : Bool) → setup_accepts b block x y z ≡ t → (setup_call b block x y z).refusal ≢ 0
  never true e n = step_refused (is_record b block x y z e) (sym (call_number true e) ∙ n)
  never false e n = let k = sym (call_number false e) ∙ n in omega (arith, k)

pub older_board : (b block x y z : List ℕ) → RefusesOlderBoard b block x y z
older_board b block x y z =
    record {
      refused = λ o. never b block x y z o (setup_accepts b block x y z) refl;
      nine = λ o h. call_number b block x y z o true (takes_buffers b block x y z h) ∙ step_nine b block x y z o h;
    }
