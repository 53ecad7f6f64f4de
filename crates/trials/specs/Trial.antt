-- A trial: what a call would answer and leave, shown in second buffers, while the first ones are only read (document 02, N5). Assumes nothing.
use Rattle.std.specs.Prelude.{Bool, cond, ℕ, eqb}

-- what a call answers: its number, and the buffers that it writes and its results as it leaves them
pub record Outcome (B R : Type 0) : Type 0 where
  pub refusal : ℕ
  pub left : B
  pub results : R

abbrev pub outcome : {B R : Type 0} → ℕ → B → R → Outcome B R
outcome n b x = record { refusal = n; left = b; results = x }

-- the number of a trial, from the call's and whether the second buffers have the first ones' lengths. 2: the call's. 25: they have not. Then the call's others
unfoldable pub trial_number : ℕ → Bool → ℕ
trial_number n alike =
    cond (eqb n 2) 2
    (cond alike n 25)

-- the trial of a call on the first buffers: what the call answers and leaves, or a number and nothing written
unfoldable pub trial_of : {B R : Type 0} → (B → B → Bool) → (B → R → Outcome B R) → B → B → R → Outcome B R
trial_of alike call first second results =
    let c = call first results in
    let n = trial_number c.refusal (alike first second) in
    cond (eqb n 0) c (outcome n second results)
