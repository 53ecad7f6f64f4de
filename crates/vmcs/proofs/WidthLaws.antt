-- With the width by bits 13 to 14 in place of the ranges no write has another refusal. Assumes nothing. (Apart from the law on the width itself, so that an edit of that law
-- is refused by it alone.)
use Prim.Native.Nat.{ℕ, ◌<◌, ◌-◌, ◌^◌}
use mathlib.Core.Path.{◌≡◌, refl, ap}
use mathlib.Core.Bool.{Bool, true, false, cond}
use native.Mathlib.Omega.{arith}
use lib.ListN.{get_or}
use lib.Dec.{T, leb, ltb, ltb→lt}
use borrow.Author.Tests.{leb-false}
use Rattle.bits.proofs.AllBelow.{below}
use Rattle.vmcs.specs.Named.{named, encodings}
use Rattle.vmcs.specs.Fields.{position_of, greatest_of, read_only, write_refusal}
use Rattle.vmcs.specs.Rules.{width_by_bits}
use Rattle.vmcs.proofs.TableTest.{each_listed}
use Rattle.vmcs.proofs.FieldLaws.{same_width}

-- every encoding of the table is below 0x8000
below_0x8000 : T (below (λ p. ltb (get_or encodings p 0) 0x8000) 154)
unfolding encodings named
below_0x8000 = tt

-- so the greatest number of its field is that of the width by bits 13 to 14
pub greatest_by_bits : (e : ℕ) → position_of encodings e < 154 → greatest_of e ≡ 2 ^ width_by_bits e - 1
unfolding greatest_of
greatest_by_bits e h =
    let small : e < 0x8000 = ltb→lt _ _ (each_listed (λ p e. ltb e 0x8000) below_0x8000 e h) in
    ap (λ (w : ℕ). 2 ^ w - 1) (same_width e (omega arith))

-- for every number, in the table or not: the refusal of a write is the one that it has with the width by bits 13 to 14
pub no_answer_changes : (e x : ℕ)
    → write_refusal e x ≡ cond (leb 154 (position_of encodings e)) 3 (cond (read_only e) 4 (cond (ltb (2 ^ width_by_bits e - 1) x) 5 0))
unfolding write_refusal
no_answer_changes e x = go (leb 154 (position_of encodings e)) refl
  where
    go : (t : Bool) → leb 154 (position_of encodings e) ≡ t
        → cond {A = ℕ} t 3 (cond (read_only e) 4 (cond (ltb (greatest_of e) x) 5 0)) ≡ cond t 3 (cond (read_only e) 4 (cond (ltb (2 ^ width_by_bits e - 1) x) 5 0))
    go true a = refl
    go false a = rw (greatest_by_bits e (leb-false _ _ a))
