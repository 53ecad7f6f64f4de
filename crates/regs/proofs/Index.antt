-- A register read and written by the refusal of its index. Assumes nothing.
use mathlib.Core.Path.{◌≡◌, refl, sym, subst}
use mathlib.Core.Bool.{Bool, true, false, cond}
use Prim.Native.Nat.{ℕ, ◌<◌}
use native.Mathlib.Omega.{arith}
use lib.Dec.{eqb, ltb}
use lib.ListN.{get_or}
use borrow.Author.Tests.{ltb-false}
use Rattle.regs.specs.Registers.{list_of, reg_of_index, with_reg, RegWritten, reg_written, with_reg_of_index}
use Rattle.regs.specs.declared.GeneralRegisters.{GeneralRegisters}
use Rattle.std.specs.Prelude.{Result, Ok, Err}
use Rattle.regs.specs.Accessors.{index_refusal}

pub register_by_refusal : (g : GeneralRegisters) (i x : ℕ)
    → with_reg_of_index g i x ≡ cond (eqb (index_refusal i) 0) (reg_written 0 (with_reg g i x)) (reg_written (index_refusal i) g)
unfolding with_reg_of_index index_refusal
register_by_refusal g i x = go (ltb 15 i) (eqb i 4)
  where
    go : (p q : Bool) → cond p (reg_written 23 g) (cond q (reg_written 23 g) (reg_written 0 (with_reg g i x)))
        ≡ cond (eqb (cond p 23 (cond q 23 0)) 0) (reg_written 0 (with_reg g i x)) (reg_written (cond p 23 (cond q 23 0)) g)
    go true q = refl
    go false true = refl
    go false false = refl

pub register_known : (i : ℕ) → index_refusal i ≡ 0 → i < 16
unfolding index_refusal
register_known i = go (ltb 15 i) refl
  where
    go : (p : Bool) → ltb 15 i ≡ p → cond {A = ℕ} p 23 (cond (eqb i 4) 23 0) ≡ 0 → i < 16
    go true e z = absurd (omega arith)
    go false e z = omega (arith, ltb-false 15 i e)

pub register_read : (g : GeneralRegisters) (index : ℕ) → reg_of_index g index ≡ cond (eqb (index_refusal index) 0) (Ok (get_or (list_of g) index 0)) (Err (index_refusal index))
unfolding reg_of_index index_refusal
register_read g index = go (ltb 15 index) (eqb index 4)
  where
    go : (p q : Bool) → cond {A = Result ℕ ℕ} p (Err 23) (cond {A = Result ℕ ℕ} q (Err 23) (Ok (get_or (list_of g) index 0)))
        ≡ cond {A = Result ℕ ℕ} (eqb (cond p 23 (cond q 23 0)) 0) (Ok (get_or (list_of g) index 0)) (Err (cond p 23 (cond q 23 0)))
    go true q = refl
    go false true = refl
    go false false = refl

-- a refused write leaves the registers
pub register_stays : (g : GeneralRegisters) (i x : ℕ) (w : RegWritten) → w ≡ with_reg_of_index g i x → eqb w.refusal 0 ≡ false → w ≡ reg_written w.refusal g
unfolding with_reg_of_index
register_stays g i x w e = subst (λ (v : RegWritten). eqb v.refusal 0 ≡ false → v ≡ reg_written v.refusal g) (sym e) (go (ltb 15 i) (eqb i 4))
  where
    go : (p q : Bool) → let v : RegWritten = cond p (reg_written 23 g) (cond q (reg_written 23 g) (reg_written 0 (with_reg g i x))) in
        eqb v.refusal 0 ≡ false → v ≡ reg_written v.refusal g
    go true q h = refl
    go false true h = refl
    go false false h = cc
