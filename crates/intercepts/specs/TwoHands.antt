-- Two hands editing one guest's intercepts (document 02, N8): what is claimed of every list of edits, on any frames. docs/TWO-HANDS.md has the request beside the
-- clauses. Assumes nothing.
use Rattle.std.specs.Prelude.{ℕ, ◌+◌, ◌-◌, ◌<◌, ◌≡◌, ◌≢◌, ◌⊎◌, Bool, cond, ◌&&◌, ◌||◌, T, eqb, leb, ltb, length}
use mathlib.Core.List.{List, [], ◌∷◌, ◌++◌, Memᴰ}
use Rattle.bits.specs.Refuses.{Rule, by, Refuses}
use Rattle.bits.specs.LittleEndian.{Below}
use Rattle.structs.specs.declared.Access.TheVariants.{Read, Write}
use Rattle.structs.specs.Bitmap.{bit_at}
use Rattle.structs.specs.Numbers.{IsMsr}
use Rattle.call_specs.specs.Records.{FramesCall}
use Rattle.call_specs.specs.SetupCall.{setup_call}
use Rattle.intercepts.specs.Edits.{Frames, bytes_of, lengths_of, Edit, set_io_intercept_of_range, set_read_intercept, set_write_intercept, set_msr_intercept_of_range, edited, after, Item, port, access, Real, trapped, covers, asked, log, last_asked}

-- ---- nothing in common

-- no item is covered by both
abbrev pub Disjoint : Edit → Edit → Type 0
Disjoint d e = (i : Item) → Real i → T (covers d i) → T (covers e i) → ⊥

-- no edit of one list has an item in common with an edit of the other
abbrev pub DisjointLists : List Edit → List Edit → Type 0
DisjointLists xs ys = (d e : Edit) → Memᴰ d xs → Memᴰ e ys → Disjoint d e

-- the third list is the first two interleaved, each in its own order
pub data Shuffle : List Edit → List Edit → List Edit → Type 0 where
  none : Shuffle [] [] []
  first : {e : Edit} {xs ys zs : List Edit} → Shuffle xs ys zs → Shuffle (e ∷ xs) ys (e ∷ zs)
  second : {e : Edit} {xs ys zs : List Edit} → Shuffle xs ys zs → Shuffle xs (e ∷ ys) (e ∷ zs)

-- ---- the numbers

-- by which an edit is refused (document 01, "The operations and their numbers"), from its arguments and the lengths of A, B and MSR alone
abbrev pub msr_rules : ℕ → ℕ → ℕ → List Rule
msr_rules len m v = by 2 (1 < v) ∷ by 2 (len ≢ 4096) ∷ by 11 (IsMsr m → ⊥) ∷ []

abbrev pub rules : ℕ × ℕ × ℕ → Edit → List Rule
rules l (set_io_intercept_of_range base count v) =
    by 2 (1 < v) ∷ by 2 ((l.0 ≢ 4096) ⊎ (l.1 ≢ 4096)) ∷ by 10 ((0 < count) × (65535 < base + count - 1)) ∷ []
rules l (set_read_intercept m v) = msr_rules l.2 m v
rules l (set_write_intercept m v) = msr_rules l.2 m v
rules l (set_msr_intercept_of_range m v) = msr_rules l.2 m v

-- ---- the bits

-- each frame has 4,096 bytes
abbrev pub Whole : Frames → Type 0
Whole f = lengths_of f ≡ (4096, 4096, 4096)

-- they are frames of bytes
abbrev pub Bytes : Frames → Type 0
Bytes f = Below 256 f.a × Below 256 f.b × Below 256 f.msr

-- low MSRs, and then high ones
abbrev pub msr_place : ℕ → ℕ
msr_place m = cond (ltb m 0x2000) m (0x2000 + (m - 0xC000_0000))

-- which of the 98,304 bits is the item's: ports in A and then B (SDM 3C, 25.6.4); reads of MSRs, and then writes (25.6.9)
abbrev pub place : Item → ℕ
place (port p) = p
place (access Read m) = 0x1_0000 + msr_place m
place (access Write m) = 0x1_4000 + msr_place m

-- bit n is that of an item
pub record HasItem (n : ℕ) : Type 0 where
  pub item : Item
  pub real : Real item
  pub at : place item ≡ n

-- ---- setup

-- the frames that a call leaves
abbrev pub left_by : FramesCall → Frames
left_by c = record { a = c.a; b = c.b; msr = c.msr }

-- what setup adds (document 01, "Setup"): the port by which a guest stops QEMU, IA32_UMWAIT_CONTROL, and the first 64 MSRs of the x2APIC
abbrev pub added : Item → Bool
added (port p) = eqb p 0x604
added (access x m) = eqb m 0xE1 || (leb 0x800 m && leb m 0x83F)

-- ---- the whole

-- no edit of the list that is accepted on f covers the item; what is accepted on f is accepted at its place (`anywhere`)
abbrev pub Untouched : Frames → List Edit → Item → Type 0
Untouched f es i = (e : Edit) → Memᴰ e es → (edited f e).refusal ≡ 0 → T (covers e i) → ⊥

-- f are any frames. No length is supposed where none is named: an edit of a frame of another length is refused
pub record TwoHands (f : Frames) : Type 0 where
  -- an edit is refused by the first of its numbers that applies; from other frames of the same lengths, and at every place of a list, it gets the same number
  pub numbers : (e : Edit) → Refuses (rules (lengths_of f) e) (edited f e).refusal
  pub alike : (g : Frames) → lengths_of g ≡ lengths_of f → (e : Edit) → (edited g e).refusal ≡ (edited f e).refusal
  pub anywhere : (es : List Edit) (e : Edit) → (edited (after f es) e).refusal ≡ (edited f e).refusal
  -- a refused edit changes nothing
  pub refused : (e : Edit) → (edited f e).refusal ≢ 0 → (edited f e).frames ≡ f
  -- no edit changes a length, so frames of 4,096 bytes each have 12,288 bytes after every list; and what were bytes stay bytes
  pub lengths : (es : List Edit) → lengths_of (after f es) ≡ lengths_of f
  pub bytes : Whole f → (es : List Edit) → length (bytes_of (after f es)) ≡ 12288
  pub stay_bytes : Bytes f → (es : List Edit) → Bytes (after f es)
  -- edits with nothing in common, accepted or not, leave the same frames in either order, two lists one after the other and interleaved
  pub either_order : (d e : Edit) → Disjoint d e → (edited (edited f d).frames e).frames ≡ (edited (edited f e).frames d).frames
  pub two_lists : (xs ys : List Edit) → DisjointLists xs ys → after (after f xs) ys ≡ after (after f ys) xs
  pub shuffled : (xs ys zs : List Edit) → Shuffle xs ys zs → DisjointLists xs ys → after f zs ≡ after (after f xs) ys
  -- each bit is as the last accepted edit that covers it asked, or as it was: as an equation, and case by case
  pub last_decides : (es : List Edit) (i : Item) → Real i → trapped (after f es) i ≡ last_asked (log f es) i (trapped f i)
  pub decided : (earlier : List Edit) (e : Edit) (later : List Edit) (i : Item) → Real i
      → (edited f e).refusal ≡ 0 → T (covers e i) → Untouched f later i → trapped (after f (earlier ++ (e ∷ later))) i ≡ asked e
  pub untouched : (es : List Edit) (i : Item) → Real i → Untouched f es i → trapped (after f es) i ≡ trapped f i
  -- or as an accepted setup left it, if f are the frames that setup was lent; they have 4,096 bytes each, before and after
  pub setup_whole : (session block : List ℕ) → (setup_call session block f.a f.b f.msr).refusal ≡ 0
      → Whole f × Whole (left_by (setup_call session block f.a f.b f.msr))
  pub after_setup : (session block : List ℕ) → (setup_call session block f.a f.b f.msr).refusal ≡ 0 → (es : List Edit) (i : Item) → Real i
      → trapped (after (left_by (setup_call session block f.a f.b f.msr)) es) i
      ≡ last_asked (log (left_by (setup_call session block f.a f.b f.msr)) es) i (added i || trapped f i)
  -- each of the 98,304 bits of the 12,288 bytes is that of exactly one item
  pub bit : Whole f → (i : Item) → Real i → trapped f i ≡ bit_at (bytes_of f) (place i)
  pub in_bytes : (i : Item) → Real i → place i < 98304
  pub every_bit : (n : ℕ) → n < 98304 → HasItem n
  pub one_item : (i j : Item) → Real i → Real j → place i ≡ place j → i ≡ j
  -- so frames of bytes that agree on all items are equal
  pub same_bytes : (g : Frames) → Whole f → Whole g → Bytes f → Bytes g → ((i : Item) → Real i → trapped f i ≡ trapped g i) → f ≡ g
