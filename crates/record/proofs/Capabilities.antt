-- The capabilities of a record's session, read in place. Assumes nothing.
use mathlib.Core.Path.{◌≡◌, refl}
use mathlib.Core.List.{List}
use Prim.Native.Nat.{ℕ, ◌+◌, ◌*◌, ◌<◌}
use lib.ListN.{drop}
use Rattle.vmcs.specs.Control.{no_pair, pair_at}
use Rattle.record.specs.Record as Record
use Rattle.record.specs.Codec.{pair_of, fixed_of, session_of}
use Rattle.record.proofs.Loops.{read_all_at}

module _ (b : List ℕ) where
  -- pair i of the five
  pub pair_read : (i : ℕ) → i < 5 → pair_of (drop (Record.PAIRS + i * 8) b) ≡ pair_at (session_of b).capabilities.pairs i
  unfolding session_of
  pair_read i h = read_all_at 8 pair_of 5 Record.PAIRS b i no_pair h

  pub cr0_read : fixed_of (drop Record.CR0 b) ≡ (session_of b).capabilities.cr0
  unfolding session_of
  cr0_read = refl

  pub cr4_read : fixed_of (drop Record.CR4 b) ≡ (session_of b).capabilities.cr4
  unfolding session_of
  cr4_read = refl
