use Prim.Native.Nat.{◌<◌}
use mathlib.Core.Path.{◌≡◌}
use lib.ListN.{drop}
use Rattle.replay.specs.Digest.{digest_from}
use Rattle.replay.proofs.digest.digest_of.Given as goal

abbrev pub invariant-loop-byte : goal.invariant-loop-byte
invariant-loop-byte l = (l.digest < 4294967291) × (digest_from 0 l.frame ≡ digest_from l.digest (drop l.byte-index l.frame))
