-- Laws of the loop that takes a digest: the whole's is that of the rest after digest. Assumes nothing.
use Prim.Native.Nat.{ℕ, ◌+◌, ◌*◌, ◌%◌, ◌≤◌, ◌<◌}
use native.Mathlib.Numerals.{add-one}
use mathlib.Core.Path.{◌≡◌}
use mathlib.Core.List.{List}
use lib.ListN.{length, get_or, drop, drop_of_length-le}
use lib.Seq.{drop-cons}
use Rattle.replay.specs.Digest.{digest_from}

module _ (s : List ℕ) (n digest i : ℕ) (inv : n ≡ digest_from digest (drop i s)) where
  pub digest_end : length s ≤ i → digest ≡ n
  unfolding digest_from
  digest_end h = rw (inv, drop_of_length-le s)

  pub digest_more : i < length s → (b : ℕ) → b ≡ get_or s i 0 → n ≡ digest_from ((digest * 257 + b + 1) % 4294967291) (drop (i + 1) s)
  unfolding digest_from
  digest_more h b e = rw (inv, e, drop-cons s i 0, add-one i)
