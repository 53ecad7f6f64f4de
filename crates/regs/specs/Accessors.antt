-- The refusal of an index (document 01, "Registers"). Assumes nothing.
use Rattle.std.specs.Prelude.{cond, ℕ, eqb, ltb}

-- 23: index 4, the place of RSP, or above 15
unfoldable pub index_refusal : ℕ → ℕ
index_refusal i = cond (ltb 15 i) 23 (cond (eqb i 4) 23 0)
