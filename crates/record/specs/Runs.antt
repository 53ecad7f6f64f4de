-- Runs of values in a list of bytes, each of one size. The bytes of a run are `flat_map write vs` of mathlib.Core.List. Assumes nothing.
use Rattle.std.specs.Prelude.{◌≡◌, Bool, ℕ, zero, suc, ◌^◌, ◌<◌, length, drop, eqb}
use mathlib.Core.List.{List, [], ◌∷◌, flat_map}
use Rattle.std.proofs.lemmas.List.Edits.{sets}
use Rattle.bits.specs.Words.{flag}
use Rattle.bits.specs.LittleEndian.{little_endian, bytes_of, Below}

module _ {A : Type 0} where
  -- the n values that a list of bytes starts with, `size` bytes each; `read` reads the first
  unfoldable pub read_all : ℕ → (List ℕ → A) → ℕ → List ℕ → List A
  read_all size read zero bs = []
  read_all size read (suc n) bs = read bs ∷ read_all size read n (drop size bs)

  -- P holds of each element
  abbrev pub All : (A → Type 0) → List A → Type 0
  All P [] = Unit
  All P (v ∷ vs) = P v × All P vs

  -- n values, and P holds of each
  pub record Run (n : ℕ) (P : A → Type 0) (vs : List A) : Type 0 where
    pub sized : length vs ≡ n
    pub each : All P vs

  -- a list with runs stored at their offsets
  abbrev pub stored_at : List ℕ → List (List A) → List A → List A
  stored_at [] ls b = b
  stored_at (o ∷ os) [] b = b
  stored_at (o ∷ os) (l ∷ ls) b = stored_at os ls (sets b o l)

-- ---- numbers of k bytes

abbrev pub numbers : ℕ → ℕ → List ℕ → List ℕ
numbers k n bs = read_all k (little_endian k) n bs

abbrev pub number_bytes : ℕ → List ℕ → List ℕ
number_bytes k vs = flat_map (bytes_of k) vs

-- a number takes at most k bytes
abbrev pub Takes : ℕ → ℕ → Type 0
Takes k v = v < 256 ^ k

-- n numbers, each of at most k bytes
pub record Numbers (n k : ℕ) (vs : List ℕ) : Type 0 where
  pub sized : length vs ≡ n
  pub below : Below (256 ^ k) vs

-- ---- yes/no bytes: 1 is yes, 0 is no

unfoldable pub flag_of : List ℕ → Bool
flag_of bs = eqb (little_endian 1 bs) 1

unfoldable pub flag_bytes : Bool → List ℕ
flag_bytes on = bytes_of 1 (flag on)
