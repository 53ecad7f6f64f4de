-- Which bytes are accepted, and what is known of them. Assumes nothing.
use mathlib.Core.Path.{◌≡◌, sym, ◌∙◌}
use mathlib.Core.Bool.{Bool, true}
use mathlib.Core.List.{List}
use Prim.Native.Nat.{ℕ, ◌≤◌}
use native.Mathlib.Omega.{arith}
use lib.ListN.{length, drop}
use borrow.Author.Tests.{eqb-true, eq-eqb, leb-true, le-leb}
use Rattle.bits.specs.LittleEndian.{little_endian}
use Rattle.bits.proofs.LittleEndianLaws.{number_one}
use Rattle.record.specs.Record as Record
use Rattle.record.specs.Codec.{accepted_of}
use Rattle.record.specs.Acceptable.{Acceptable}
use Rattle.record.proofs.Flags.{both}

-- the tests that an accepted record passed
pub record Passed (b : List ℕ) : Type 0 where
  pub whole : length b ≡ Record.LENGTH
  pub phase : little_endian 1 (drop Record.PHASE b) ≤ 4
  pub launched : little_endian 1 (drop Record.LAUNCHED b) ≤ 1
  pub held : little_endian 4 (drop Record.HELD b) ≤ little_endian 4 (drop Record.ENTRIES b)
  pub waiting : little_endian 1 (drop Record.WAITING b) ≤ 64

pub passed : (b : List ℕ) → accepted_of b ≡ true → Passed b
unfolding accepted_of
passed b ok =
    let t4 = both _ _ ok in
    let t3 = both _ _ t4.0 in
    let t2 = both _ _ t3.0 in
    let t1 = both _ _ t2.0 in
    record {
      whole = eqb-true _ _ t1.0;
      phase = leb-true _ _ t1.1;
      launched = leb-true _ _ t2.1;
      held = leb-true _ _ t3.1;
      waiting = leb-true _ _ t4.1;
    }

-- an accepted record has its length, also where `accepts` answered for it: entries for `search`
pub whole : (b : List ℕ) → accepted_of b ≡ true → length b ≡ Record.LENGTH
whole b ok = (passed b ok).whole

pub accepted_length : (b : List ℕ) (r : Bool) → r ≡ accepted_of b → r ≡ true → length b ≡ Record.LENGTH
accepted_length b r e t = whole b (sym e ∙ t)

-- ---- in ≤ and ≡ alone

pub acceptable : (b : List ℕ) → accepted_of b ≡ true → Acceptable b
acceptable b ok =
    let t = passed b ok in
    let whole = t.whole in
    record {
      whole = whole;
      phase = rw (number_one b Record.PHASE (omega arith)) at t.phase;
      launched = rw (number_one b Record.LAUNCHED (omega arith)) at t.launched;
      held = t.held;
      waiting = rw (number_one b Record.WAITING (omega arith)) at t.waiting;
    }

pub accepts_acceptable : (b : List ℕ) → Acceptable b → accepted_of b ≡ true
unfolding accepted_of
accepts_acceptable b a =
    let whole = a.whole in
    rw (
      eq-eqb _ _ whole,
      number_one b Record.PHASE (omega arith),
      le-leb _ _ a.phase,
      number_one b Record.LAUNCHED (omega arith),
      le-leb _ _ a.launched,
      le-leb _ _ a.held,
      number_one b Record.WAITING (omega arith),
      le-leb _ _ a.waiting,
    )
