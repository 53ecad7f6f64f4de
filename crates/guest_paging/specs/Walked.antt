-- What a walk of the guest's page tables answers, and what an entry on the way gives (document 02, N6). Assumes nothing.
use Rattle.std.specs.Prelude.{ℕ, Bool}

-- the guest-physical address; or the level and the number of the first rule that its entry breaks; or refusal 26, an entry lies past the end of memory
pub data Walked : Type 0 where
  Address : ℕ → Walked
  Fails : ℕ → ℕ → Walked
  Refused : ℕ → Walked

-- the walk's end, or the table below and whether every entry so far lets the user in
pub data Next : Type 0 where
  Ends : Walked → Next
  Below : ℕ → Bool → Next
