-- Setup is refused exactly where the reference's rules say. Assumes nothing.
use Prim.Native.Nat.{ℕ, ◌+◌, ◌*◌}
use mathlib.Core.Path.{◌≡◌, refl, sym, ap, ◌∙◌, subst}
use mathlib.Core.Bool.{Bool, true, false, ◌&&◌, true≢false, false≢true}
use mathlib.Core.List.{List, [], ◌∷◌, ◌++◌}
use mathlib.Core.Logic.{◌≢◌, inl, inr}
use lib.Bits.{bit_and}
use lib.Dec.{eqb, leb}
use lib.ListN.{length, drop}
use borrow.Author.Tests.{eqb-true, leb-true, eq-eqb, le-leb}
use Rattle.bits.specs.Refuses.{Rule, by, Refuses, or_else}
use Rattle.bits.specs.Words.{flag, Within, Apart}
use Rattle.bits.specs.LittleEndian.{little_endian}
use Rattle.bits.proofs.Tells.{Tells, tells_eq, tells_not, tells_as, rung, ladder, cond_all, ladder_then}
use Rattle.bits.proofs.WordLaws as W
use Rattle.vmcs.specs.Control.{pair_at}
use Rattle.vmcs.specs.declared.controls.Pair.{Pair}
use Rattle.vcpu_session.specs.Session.{Lawful}
use Rattle.vcpu_session.proofs.LawfulLaws.{of_lawful}
use Rattle.vcpu_session.specs.declared.Capabilities.{Capabilities}
use Rattle.vcpu_session.specs.declared.Session.{Session}
use Rattle.vcpu_setup.specs.Capability.{used, capabilities_of}
use Rattle.vcpu_setup.specs.Words.{secondary_set, bits_refusal, words_refusal}
use Rattle.vcpu_setup.specs.Setup.{consistent, capability_refusal, setup_refusal}
use Rattle.vcpu_setup.specs.declared.Features.{Features}
use Rattle.blocks.specs.SetupLayout as Layout
use Rattle.blocks.specs.SetupBlock.{block_accepted, msrs_of}
use Rattle.calls.specs.Reference.{Buffers, limits_of, Consistent, word_rules, setup_rules}
use Rattle.calls.specs.Calls.{pair_bounds, limits_in}
use Rattle.calls.proofs.Sessions.{has_buffers}

-- seven tests joined
seven : (a b c d e f g : Bool) → (a && b && c && d && e && f && g) ≡ true
    → (a ≡ true) × (b ≡ true) × (c ≡ true) × (d ≡ true) × (e ≡ true) × (f ≡ true) × (g ≡ true)
seven true true true true true true true t = (refl, refl, refl, refl, refl, refl, refl)
seven true true true true true true false t = absurd (false≢true t)
seven true true true true true false g t = absurd (false≢true t)
seven true true true true false f g t = absurd (false≢true t)
seven true true true false e f g t = absurd (false≢true t)
seven true true false d e f g t = absurd (false≢true t)
seven true false c d e f g t = absurd (false≢true t)
seven false b c d e f g t = absurd (false≢true t)

-- ---- 2

pub buffers_of : (block a b msr : List ℕ) → has_buffers block a b msr ≡ true → Buffers block a b msr
unfolding block_accepted
buffers_of block a b msr e =
    let p = seven (eqb (length block) Layout.LENGTH) (leb (little_endian 1 (drop Layout.RDTSCP block)) 1) (leb (little_endian 1 (drop Layout.INVPCID block)) 1)
    (leb (little_endian 1 (drop Layout.XSAVES block)) 1) (eqb (length a) 4096) (eqb (length b) 4096) (eqb (length msr) 4096) e in
    record {
      long = eqb-true _ _ p.0;
      rdtscp = leb-true _ _ p.1;
      invpcid = leb-true _ _ p.2;
      xsaves = leb-true _ _ p.3;
      io_a = eqb-true _ _ p.4;
      io_b = eqb-true _ _ p.5;
      msrs = eqb-true _ _ p.6;
    }

pub of_buffers : (block a b msr : List ℕ) → Buffers block a b msr → has_buffers block a b msr ≡ true
unfolding block_accepted
of_buffers block a b msr l =
    rw (
      eq-eqb _ _ l.long,
      le-leb _ _ l.rdtscp,
      le-leb _ _ l.invpcid,
      le-leb _ _ l.xsaves,
      eq-eqb _ _ l.io_a,
      eq-eqb _ _ l.io_b,
      eq-eqb _ _ l.msrs,
    )

-- ---- 6

pub consistent_of : (c : Capabilities) → consistent c ≡ true → Consistent (limits_in c)
unfolding consistent
consistent_of c e =
    let p = seven _ _ _ _ _ _ _ e in
    record {
      pin = W.within_of _ _ (eqb-true _ _ p.0);
      primary = W.within_of _ _ (eqb-true _ _ p.1);
      secondary = W.within_of _ _ (eqb-true _ _ p.2);
      exit = W.within_of _ _ (eqb-true _ _ p.3);
      entry = W.within_of _ _ (eqb-true _ _ p.4);
      cr0 = W.within_of _ _ (eqb-true _ _ p.5);
      cr4 = W.within_of _ _ (eqb-true _ _ p.6);
    }

of_consistent : (c : Capabilities) → Consistent (limits_in c) → consistent c ≡ true
unfolding consistent
of_consistent c l =
    rw (
      W.within_test _ _ l.pin,
      W.within_test _ _ l.primary,
      W.within_test _ _ l.secondary,
      W.within_test _ _ l.exit,
      W.within_test _ _ l.entry,
      W.within_test _ _ l.cr0,
      W.within_test _ _ l.cr4,
    )

consistent_tells : (c : Capabilities) → Tells (consistent c) (Consistent (limits_in c))
consistent_tells c = record { yes_so = consistent_of c; not_so = λ e l. true≢false (sym (of_consistent c l) ∙ e) }

-- ---- 8 and 9, word by word

pub within_tells : (a b : ℕ) → Tells (eqb (bit_and a b) a) (Within a b)
within_tells a b = tells_as (tells_eq (bit_and a b) a) (W.within_of a b) (W.within_eq a b)

apart_tells : (a b : ℕ) → Tells (eqb (bit_and a b) 0) (Apart a b)
apart_tells a b = tells_as (tells_eq (bit_and a b) 0) (W.apart_of a b) (W.apart_eq a b)

word_refuses : (p : Pair) (set clear n : ℕ) (rest : List Rule) → Refuses rest n
    → Refuses (word_rules (pair_bounds p) set clear ++ rest) (or_else (bits_refusal p set clear) n)
unfolding bits_refusal
word_refuses p set clear n rest w =
    ladder_then (rung 8 (tells_not (within_tells set p.allowed1)) ∷ rung 9 (tells_not (apart_tells p.allowed0 clear)) ∷ []) (refl, (refl, tt)) rest n w

or_none : (a : ℕ) → or_else a 0 ≡ a
unfolding or_else
or_none a = cond_all (λ (x : ℕ). x ≡ a) (eqb a 0) _ _ (λ t. sym (eqb-true a 0 t)) (λ _. refl)

pub secondary_set_lem : (f : Features) → secondary_set f ≡ 0x82 + 0x8 * flag f.rdtscp + 0x1000 * flag f.invpcid + 0x100000 * flag f.xsaves
secondary_set_lem f = go f.rdtscp f.invpcid f.xsaves
  where
    go : (a b c : Bool) → secondary_set (record { rdtscp = a; invpcid = b; xsaves = c }) ≡ 0x82 + 0x8 * flag a + 0x1000 * flag b + 0x100000 * flag c
    go true true true = refl
    go true true false = refl
    go true false true = refl
    go true false false = refl
    go false true true = refl
    go false true false = refl
    go false false true = refl
    go false false false = refl

-- a word that setup asks for: its pair, what is set and what is cleared
record Asked : Type 0 where
  pair : Pair
  set : ℕ
  clear : ℕ

abbrev asked : Pair → ℕ → ℕ → Asked
asked p set clear = record { pair = p; set = set; clear = clear }

abbrev rules_for : List Asked → List Rule
rules_for [] = []
rules_for (a ∷ rest) = word_rules (pair_bounds a.pair) a.set a.clear ++ rules_for rest

abbrev number_for : List Asked → ℕ
number_for [] = 0
number_for (a ∷ rest) = or_else (bits_refusal a.pair a.set a.clear) (number_for rest)

each_refuses : (rest : List Asked) → Refuses (rules_for rest) (number_for rest)
each_refuses [] = refl
each_refuses (a ∷ rest) = word_refuses a.pair a.set a.clear (number_for rest) (rules_for rest) (each_refuses rest)

words_refuse : (c : Capabilities) (f : Features) → Consistent (limits_in c) → Refuses (setup_rules (limits_in c) f) (words_refusal c.pairs f)
unfolding words_refusal
words_refuse c f ok =
    let p : ℕ → Pair = pair_at c.pairs in
    let n : ℕ → ℕ → ℕ → ℕ = λ k set clear. bits_refusal (p k) set clear in
    let five = asked (p 0) 0x9 0 ∷ asked (p 1) 0x92000000 0x198000 ∷ asked (p 2) (secondary_set f) 0 ∷ asked (p 3) 0x3C8200 0 ∷ asked (p 4) 0xC000 0 ∷ [] in
    let last : ℕ → ℕ = λ m. or_else (n 0 0x9 0) (or_else (n 1 0x92000000 0x198000) (or_else (n 2 (secondary_set f) 0) (or_else (n 3 0x3C8200 0) m))) in
    rw (← (secondary_set_lem f)) (inr (λ b. b ok, subst (Refuses (rules_for five)) (ap last (or_none (n 4 0xC000 0))) (each_refuses five)))

pub setup_refuses : (s : Session) (c : Capabilities) (f : Features) → Lawful s
    → Refuses (by 1 (s.progress.phase ≢ 0) ∷ setup_rules (limits_in c) f) (setup_refusal s c f)
unfolding setup_refusal
setup_refuses s c f l =
    rw (of_lawful s l)
    (ladder (rung 1 (tells_not (tells_eq s.progress.phase 0)) ∷ []) (setup_rules (limits_in c) f) (capability_refusal c f)
    (cond_all (Refuses (setup_rules (limits_in c) f)) (consistent c) _ _ (λ u. words_refuse c f (consistent_of c u))
    (λ u. inl ((consistent_tells c).not_so u, refl))))

-- the limits that the core takes from the block's MSRs are the reference's
pub same_limits : (block : List ℕ) → limits_in (capabilities_of (msrs_of block)) ≡ limits_of block
unfolding msrs_of used
same_limits block = refl
