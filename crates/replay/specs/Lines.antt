-- What a call answers, as a result: 0 beside its results, or the number of its refusal. Assumes nothing.
use Rattle.std.specs.Prelude.{ℕ, cond, eqb, Result, Ok, Err}

abbrev pub answered : {A : Type 0} → ℕ → A → Result A ℕ
answered n x = cond (eqb n 0) (Ok x) (Err n)
