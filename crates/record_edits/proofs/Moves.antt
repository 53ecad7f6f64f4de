-- Bytes copied down. Assumes nothing.
use mathlib.Core.Path.{◌≡◌, sym, ◌∙◌}
use mathlib.Core.List.{List}
use Prim.Native.Nat.{ℕ, ◌+◌, ◌≤◌}
use native.Mathlib.Omega.{arith}
use lib.ListN.{length, take, drop, length-drop}
use lib.Seq.{sets, sets-eq, paste, length-take-le}

pub copied_down : (l : List ℕ) (at by n k : ℕ) → k ≡ n → at + by + n ≤ length l → paste l at (drop (at + by) l) k ≡ sets l at (take n (drop (at + by) l))
copied_down l at by n k e room =
    let us = take n (drop (at + by) l) in
    let count : length us ≡ n = length-take-le n (drop (at + by) l) (rw length-drop (omega arith)) in
    rw e (sym (sets-eq us l at (omega arith) ∙ rw count))
