-- The call on three frames and an output that has room is accepted, and puts the sheet. Assumes nothing.
use Rattle.std.proofs.Common.{◌≡◌, ℕ, ◌≤◌, List, ◌++◌, Result, Ok, Err, IsOk, refl, ap, ◌∙◌, arith, length, drop}
use Rattle.definitions.specs.declared.refusal.Refusal.{Refusal}
use Rattle.definitions.specs.declared.refusal.Refusal.TheVariants.{Phase, Bytes, Encoding, ReadOnly, Width, Pair, SetAndClear, Set, Clear, Port, Msr, Vector, Full, Reason, OwnedBits, Interrupt, Sum, CrAccess, Xcr0, Xcr, ApicAccess, Count, Index, Room, Shown, Memory}
use Rattle.definitions.specs.Refusals.{number}
use Rattle.trap_sheet.specs.Sheet.{TrapSheet, sheet_of, trap_sheet}
use Rattle.trap_sheet.specs.Answer.{answered}
use Rattle.trap_sheet.proofs.SheetLaws.{sheet_accepted}

some_number : (e : Refusal) → 1 ≤ number e
some_number e = elim e as (λ e. 1 ≤ number e) [
  | Phase ↦ omega arith
  | Bytes ↦ omega arith
  | Encoding ↦ omega arith
  | ReadOnly ↦ omega arith
  | Width ↦ omega arith
  | Pair ↦ omega arith
  | SetAndClear ↦ omega arith
  | Set ↦ omega arith
  | Clear ↦ omega arith
  | Port ↦ omega arith
  | Msr ↦ omega arith
  | Vector ↦ omega arith
  | Full ↦ omega arith
  | Reason ↦ omega arith
  | OwnedBits ↦ omega arith
  | Interrupt ↦ omega arith
  | Sum ↦ omega arith
  | CrAccess ↦ omega arith
  | Xcr0 ↦ omega arith
  | Xcr ↦ omega arith
  | ApicAccess ↦ omega arith
  | Count ↦ omega arith
  | Index ↦ omega arith
  | Room ↦ omega arith
  | Shown ↦ omega arith
  | Memory ↦ omega arith
]

module _ (a b msr d d₁ : List ℕ) (la : length a ≡ 4096) (lb : length b ≡ 4096) (lm : length msr ≡ 4096) (room : length (sheet_of a b msr) ≤ length d) where
  pub accepted : (answer : Result ℕ Refusal) → ((m : ℕ) → answered answer d₁ m ≡ trap_sheet a b msr d m) → IsOk answer
  accepted (Ok n) e = refl
  accepted (Err f) e = absurd (omega (arith, some_number f, ap (λ (x : TrapSheet). x.refusal) (e 0 ∙ sheet_accepted a b msr la lb lm d 0 room)))

  pub accepted_sheet : (answer : Result ℕ Refusal) (n : ℕ) → ((m : ℕ) → answered answer d₁ m ≡ trap_sheet a b msr d m) → answer ≡ Ok n
      → (n ≡ length (sheet_of a b msr)) × (d₁ ≡ sheet_of a b msr ++ drop n d)
  accepted_sheet answer n e o =
      let f = (rw o at (e 0)) ∙ sheet_accepted a b msr la lb lm d 0 room in
      let k = ap (λ (x : TrapSheet). x.size) f in
      (k, rw k (ap (λ (x : TrapSheet). x.output) f))
