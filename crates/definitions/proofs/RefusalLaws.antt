-- No refusal has the number 0, and `Bytes` alone has 2; what a yes/no byte's answer says of the byte. Assumes nothing.
use mathlib.Core.Path.{◌≡◌, refl, sym, ◌∙◌}
use mathlib.Core.Bool.{Bool, true, false, cond}
use Prim.Native.Nat.{ℕ, ◌≤◌, ◌<◌}
use lib.Dec.{eqb, ltb}
use borrow.Author.Tests.{ltb-true, ltb-false}
use Rattle.std.specs.Prelude.{Result, Ok, Err}
use Rattle.definitions.specs.Refusals.{number, yes_no}
use Rattle.definitions.specs.declared.refusal.Refusal.{Refusal}
use Rattle.definitions.specs.declared.refusal.Refusal.TheVariants.{Phase, Bytes, Encoding, ReadOnly, Width, Pair, SetAndClear, Set, Clear, Port, Msr, Vector, Full, Reason, OwnedBits, Interrupt, Sum, CrAccess, Xcr0, Xcr, ApicAccess, Count, Index, Room, Shown, Memory}

pub some : (e : Refusal) → eqb (number e) 0 ≡ false
some Phase = refl
some Bytes = refl
some Encoding = refl
some ReadOnly = refl
some Width = refl
some Pair = refl
some SetAndClear = refl
some Set = refl
some Clear = refl
some Port = refl
some Msr = refl
some Vector = refl
some Full = refl
some Reason = refl
some OwnedBits = refl
some Interrupt = refl
some Sum = refl
some CrAccess = refl
some Xcr0 = refl
some Xcr = refl
some ApicAccess = refl
some Count = refl
some Index = refl
some Room = refl
some Shown = refl
some Memory = refl

-- nor does a number that one has test as 0
pub some_at : (e : Refusal) (n : ℕ) → number e ≡ n → eqb n 0 ≡ false
some_at e n h = rw (← h) (some e)

pub positive : (e : Refusal) (n : ℕ) → number e ≡ n → n ≡ 0 → ⊥
positive e n h z = let t : eqb (number e) 0 ≡ true = rw (h, z) in let f : eqb (number e) 0 ≡ false = some e in cc

pub not_bytes : (e : Refusal) → (e ≡ Bytes → ⊥) → eqb (number e) 2 ≡ false
not_bytes Phase h = refl
not_bytes Bytes h = absurd (h refl)
not_bytes Encoding h = refl
not_bytes ReadOnly h = refl
not_bytes Width h = refl
not_bytes Pair h = refl
not_bytes SetAndClear h = refl
not_bytes Set h = refl
not_bytes Clear h = refl
not_bytes Port h = refl
not_bytes Msr h = refl
not_bytes Vector h = refl
not_bytes Full h = refl
not_bytes Reason h = refl
not_bytes OwnedBits h = refl
not_bytes Interrupt h = refl
not_bytes Sum h = refl
not_bytes CrAccess h = refl
not_bytes Xcr0 h = refl
not_bytes Xcr h = refl
not_bytes ApicAccess h = refl
not_bytes Count h = refl
not_bytes Index h = refl
not_bytes Room h = refl
not_bytes Shown h = refl
not_bytes Memory h = refl

-- ---- yes/no bytes

pub yes_no_refused : (v : ℕ) (e : Refusal) → Err e ≡ yes_no v → (1 < v) × (e ≡ Bytes)
yes_no_refused v e = go (ltb 1 v) refl
  where
    go : (t : Bool) → ltb 1 v ≡ t → ◌≡◌ {A = Result Bool Refusal} (Err e) (cond t (Err Bytes) (Ok (eqb v 1))) → (1 < v) × (e ≡ Bytes)
    go true t h = (ltb-true 1 v t, cc)
    go false t h = cc

pub yes_no_taken : (v : ℕ) (b : Bool) → Ok b ≡ yes_no v → (v ≤ 1) × (b ≡ eqb v 1)
yes_no_taken v b = go (ltb 1 v) refl
  where
    go : (t : Bool) → ltb 1 v ≡ t → ◌≡◌ {A = Result Bool Refusal} (Ok b) (cond t (Err Bytes) (Ok (eqb v 1))) → (v ≤ 1) × (b ≡ eqb v 1)
    go true t h = cc
    go false t h = (ltb-false 1 v t, cc)
