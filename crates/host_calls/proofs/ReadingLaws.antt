-- What a field is read as does not depend on what the variable lent to the call held before. Assumes nothing.
use mathlib.Core.Path.{◌≡◌, refl}
use mathlib.Core.Bool.{Bool, true, false}
use mathlib.Core.List.{List}
use Prim.Native.Nat.{ℕ}
use Rattle.std.specs.Prelude.{cond, Ok, Err}
use Rattle.vmcs.specs.Fields.{vmcs_read}
use Rattle.call_specs.specs.Reads.{reading, of_answer, read_field}
use Rattle.host_calls.specs.Answers.{of_reading}

in_each_case : (accepted known : Bool) (value x y : ℕ)
    → of_reading (cond accepted (of_answer (cond known (Ok value) (Err 3)) x) (reading 2 x)) ≡ of_reading (cond accepted (of_answer (cond known (Ok value) (Err 3)) y) (reading 2 y))
in_each_case true true value x y = refl
in_each_case true false value x y = refl
in_each_case false known value x y = refl

pub field_read : (b : List ℕ) (encoding x y : ℕ) → of_reading (read_field b encoding x) ≡ of_reading (read_field b encoding y)
unfolding read_field vmcs_read
field_read b encoding x y = in_each_case _ _ _ x y
