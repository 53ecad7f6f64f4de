-- What stands at the start of a buffer that was filled is the start of what the stream had. Assumes nothing.
use Rattle.std.proofs.Common.{◌≡◌, ℕ, ◌<◌, ◌≤◌, List, [], ◌++◌, ◌⊎◌, inl, inr, Option, None, Some, IfSome, arith, length, take, sym, ap, ◌∙◌, append-nil, length-take-le, take_all}
use Rattle.std.proofs.Math.Nat.{eq-or-lt_of_le}
use Rattle.std.proofs.lemmas.List.{take_at}
use Rattle.std.specs.Io.KnownBytes.{Consumes, IsAtEnd}

-- of n bytes that were read into a buffer of that size
start_of : (given read left : List ℕ) (n size : ℕ) → given ≡ read ++ left → length read ≡ n → (n ≡ size) ⊎ (n < size) → (n < size → left ≡ []) → read ≡ take size given
start_of given read left n size e l (inl full) end = sym (ap (take size) e ∙ take_at read left size (l ∙ full))
start_of given read left n size e l (inr less) end =
    let whole = e ∙ ap (λ rest. read ++ rest) (end less) ∙ append-nil read in
    sym (ap (take size) whole ∙ take_all size read (omega arith))

pub filled : (old new : Option (List ℕ)) (buffer : List ℕ) (n : ℕ) → n ≤ length buffer → Consumes old new (take n buffer) → (n < length buffer → IsAtEnd new)
    → IfSome old (λ given. take n buffer ≡ take (length buffer) given)
filled None new buffer n h c end = tt
filled (Some given) None buffer n h c end = absurd c
filled (Some given) (Some left) buffer n h c end =
    start_of given (take n buffer) left n (length buffer) c (length-take-le n buffer h) (eq-or-lt_of_le h) end
