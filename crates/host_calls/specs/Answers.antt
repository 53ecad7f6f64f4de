-- What the calls that a host makes answer, as results. Assumes nothing.
use Rattle.std.specs.Prelude.{ℕ, Result, Ok, Err}
use Rattle.call_specs.specs.Reads.{Reading}
use Rattle.replay.specs.Lines.{answered}

-- 0, or the number of the refusal
abbrev pub number_of : {A : Type 0} → Result A ℕ → ℕ
number_of (Ok x) = 0
number_of (Err n) = n

abbrev pub of_reading : Reading → Result ℕ ℕ
of_reading r = answered r.refusal r.value
