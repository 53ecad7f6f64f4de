-- A chain of refusals that gives 0. Assumes nothing.
use mathlib.Core.Path.{◌≡◌, refl}
use mathlib.Core.Bool.{Bool, true, false, cond}
use Prim.Native.Nat.{ℕ, ◌<◌}
use native.Mathlib.Omega.{arith}

-- a chain of refusals gives 0: its first test failed, and so does the rest
pub passed : (t : Bool) (n m : ℕ) → 0 < n → cond t n m ≡ 0 → (t ≡ false) × (m ≡ 0)
passed true n m h e = absurd (omega arith)
passed false n m h e = (refl, e)
