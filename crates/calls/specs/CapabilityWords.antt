-- Which capability words setup looks at, and the board without the TRUE words (document 02, N4; SDM 3D, A.1 and A.2): on the bytes of the C interface, for every
-- record, whether calls lead to it or not, for every block and all frames. Assumes nothing.
use Rattle.std.specs.Prelude.{ℕ, ◌+◌, ◌≤◌, ◌<◌, ◌≡◌, Bool, true, false, cond, List, ◌⊎◌, ◌≢◌, T, length, get_or}
use Rattle.bits.specs.Words.{bit, low32, high32, Within}
use Rattle.bits.specs.LittleEndian.{Below}
use Rattle.record.specs.Codec.{session_of, accepted_of}
use Rattle.blocks.specs.SetupLayout as Layout
use Rattle.call_specs.specs.SetupCall.{setup_call}
use Rattle.calls.specs.Reference.{msr_at, has_true_words, limits_of, pin_set, primary_set, primary_clear, Buffers, Consistent}

-- ---- what is not looked at

-- place i is one of these bytes
abbrev pub In : (from count i : ℕ) → Type 0
In from count i = (from ≤ i) × (i < from + count)

-- the high halves of the plain words
abbrev pub PlainHigh : ℕ → Type 0
PlainHigh i = In (Layout.PINBASED_CTLS + 4) 4 i ⊎ In (Layout.PROCBASED_CTLS + 4) 4 i ⊎ In (Layout.EXIT_CTLS + 4) 4 i ⊎ In (Layout.ENTRY_CTLS + 4) 4 i

-- the four TRUE words
abbrev pub TrueWords : ℕ → Type 0
TrueWords i = In Layout.TRUE_PINBASED_CTLS 32 i

-- the bytes that may differ, where the TRUE words are there and where they are not: IA32_VMX_BASIC counts by its bit 55 alone
abbrev pub MayDiffer : Bool → ℕ → Type 0
MayDiffer there i = In Layout.VMX_BASIC 8 i ⊎ cond there (PlainHigh i) (TrueWords i)

-- two blocks that are the same but for these
pub record SameLookedAt (block other : List ℕ) : Type 0 where
  pub long : length block ≡ length other
  pub there : has_true_words block ≡ has_true_words other
  pub bytes : (i : ℕ) → (MayDiffer (has_true_words block) i → ⊥) → get_or block i 0 ≡ get_or other i 0

-- setup gives both blocks of bytes the same number, record and frames
abbrev pub NotLookedAt : (b block other x y z : List ℕ) → Type 0
NotLookedAt b block other x y z = Below 256 block → Below 256 other → SameLookedAt block other → setup_call b block x y z ≡ setup_call b other x y z

-- ---- the older board

-- it has no TRUE words, and IA32_VMX_PROCBASED_CTLS demands a control that setup clears: CR3-load (bit 15), CR3-store (16), CR8-load (19) or CR8-store exiting (20)
pub record OlderBoard (block : List ℕ) : Type 0 where
  pub lacks : has_true_words block ≡ false
  pub place : ℕ
  pub cleared : T (bit place primary_clear)
  pub demanded : T (bit place (low32 (msr_at Layout.PROCBASED_CTLS block)))

-- no number before primary's 9 applies: not 2, 1 and 6, nor 8 of pin and of primary
pub record NoneBefore (b block x y z : List ℕ) : Type 0 where
  pub accepted : accepted_of b ≡ true
  pub buffers : Buffers block x y z
  pub fresh : (session_of b).progress.phase ≡ 0
  pub consistent : Consistent (limits_of block)
  pub pin : Within pin_set (high32 (msr_at Layout.PINBASED_CTLS block))
  pub primary : Within primary_set (high32 (msr_at Layout.PROCBASED_CTLS block))

-- setup never accepts it, and answers 9 where no number before that applies
pub record RefusesOlderBoard (b block x y z : List ℕ) : Type 0 where
  pub refused : OlderBoard block → (setup_call b block x y z).refusal ≢ 0
  pub nine : OlderBoard block → NoneBefore b block x y z → (setup_call b block x y z).refusal ≡ 9
