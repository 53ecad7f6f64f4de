-- The rules of the table of fields, each one test that antt computes over all of it, and what such a test by place says of each encoding. Assumes nothing.
use Prim.Native.Nat.{ℕ, ◌<◌}
use mathlib.Core.Path.{◌≡◌, refl}
use mathlib.Core.Bool.{Bool, true}
use mathlib.Core.List.{map}
use lib.ListN.{length, get_or}
use lib.Dec.{T}
use Rattle.bits.proofs.AllBelow.{below, at}
use Rattle.vmcs.specs.Named.{Named, named, encodings}
use Rattle.vmcs.specs.Fields.{position_of, field_at, field_of, width_of}
use Rattle.vmcs.specs.Rules.{laid_out, ascending, every}
use Rattle.vmcs.proofs.Scan.{at_position}

-- 154 fields, ascending, and each encoding even, with its kind in bits 10 to 11 and its width in bits 13 to 14
pub table : (length encodings ≡ 154) × (ascending encodings ≡ true) × (every laid_out named ≡ true)
unfolding encodings named width_of
table = (refl, refl, refl)

-- a test of a place and its encoding that passes at each place passes for each encoding of the table
pub each_listed : (f : ℕ → ℕ → Bool) → T (below (λ p. f p (get_or encodings p 0)) 154) → (e : ℕ) → position_of encodings e < 154 → T (f (position_of encodings e) e)
each_listed f passes e h =
    let p = position_of encodings e in
    let here : get_or encodings p 0 ≡ e = at_position encodings e (rw table.0 h) in
    rw here at (at (λ p. f p (get_or encodings p 0)) 154 passes p h)

-- each name is the field that its encoding leads to
pub names : map (λ (n : Named). field_of n.encoding) named ≡ map (λ (n : Named). n.field) named
unfolding encodings named field_at
names = refl
