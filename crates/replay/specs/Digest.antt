-- The digest of a frame: a number of 32 bits that depends on every byte and its place. Assumes nothing.
use Rattle.std.specs.Prelude.{ℕ, ◌+◌, ◌*◌, ◌%◌, List, [], ◌∷◌}

-- the digest of the bytes after those of digest
unfoldable pub digest_from : ℕ → List ℕ → ℕ
digest_from digest [] = digest
digest_from digest (b ∷ rest) = digest_from ((digest * 257 + b + 1) % 4294967291) rest
