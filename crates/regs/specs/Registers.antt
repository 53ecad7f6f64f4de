-- The general-purpose registers, by name and by index (document 01, "Registers"). Assumes nothing.
use Rattle.std.specs.Prelude.{cond, List, [], ◌∷◌, ℕ, Result, Ok, Err, get_or, set, eqb, ltb}
use Rattle.definitions.specs.Refusals.{number}
use Rattle.definitions.specs.declared.refusal.Refusal.{Refusal}
use Rattle.regs.specs.declared.GeneralRegisters.{GeneralRegisters}

-- the registers in the order of their encoding (SDM 2A, table 2-2)
abbrev pub list_of : GeneralRegisters → List ℕ
list_of g =
    g.rax ∷ g.rcx ∷ g.rdx ∷ g.rbx ∷ g._unused_rsp ∷ g.rbp ∷ g.rsi ∷ g.rdi
    ∷ g.r8 ∷ g.r9 ∷ g.r10 ∷ g.r11 ∷ g.r12 ∷ g.r13 ∷ g.r14 ∷ g.r15 ∷ []

abbrev pub of_list : List ℕ → GeneralRegisters
of_list l =
    record {
      rax = get_or l 0 0;
      rcx = get_or l 1 0;
      rdx = get_or l 2 0;
      rbx = get_or l 3 0;
      _unused_rsp = get_or l 4 0;
      rbp = get_or l 5 0;
      rsi = get_or l 6 0;
      rdi = get_or l 7 0;
      r8 = get_or l 8 0;
      r9 = get_or l 9 0;
      r10 = get_or l 10 0;
      r11 = get_or l 11 0;
      r12 = get_or l 12 0;
      r13 = get_or l 13 0;
      r14 = get_or l 14 0;
      r15 = get_or l 15 0;
    }

-- the registers with the one at an index changed
abbrev pub with_reg : GeneralRegisters → ℕ → ℕ → GeneralRegisters
with_reg g i x = of_list (set (list_of g) i x)

-- 23: index 4, the place of RSP, or above 15
unfoldable pub reg_of_index : GeneralRegisters → ℕ → Result ℕ ℕ
reg_of_index g i = cond (ltb 15 i) (Err 23) (cond (eqb i 4) (Err 23) (Ok (get_or (list_of g) i 0)))

-- the number of a write, and the registers after it: as they were where it is refused
pub record RegWritten : Type 0 where
  pub refusal : ℕ
  pub regs : GeneralRegisters

abbrev pub reg_written : ℕ → GeneralRegisters → RegWritten
reg_written n g = record { refusal = n; regs = g }

-- 23: index 4, the place of RSP, or above 15
unfoldable pub with_reg_of_index : GeneralRegisters → ℕ → ℕ → RegWritten
with_reg_of_index g i x = cond (ltb 15 i) (reg_written 23 g) (cond (eqb i 4) (reg_written 23 g) (reg_written 0 (with_reg g i x)))

-- a write's answer in the code, beside the registers that came in
abbrev pub written_from : GeneralRegisters → Result GeneralRegisters Refusal → RegWritten
written_from g (Ok next) = reg_written 0 next
written_from g (Err e) = reg_written (number e) g
