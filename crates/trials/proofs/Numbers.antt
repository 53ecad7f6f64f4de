-- 25 is no number of an entry, a report or an edit; 2 is none of a report on a session that a record holds. Assumes nothing.
use mathlib.Core.Path.{◌≡◌, sym, ◌∙◌}
use mathlib.Core.Bool.{Bool, true, cond, not, true≢false}
use mathlib.Core.Logic.{◌≢◌}
use Prim.Native.Nat.{ℕ, ◌+◌}
use native.Mathlib.Omega.{arith}
use lib.Dec.{eqb, leb, ltb}
use Rattle.bits.specs.Refuses.{or_else}
use Rattle.bits.proofs.Tells.{cond_all}
use Rattle.structs.specs.Frames.{port_refusal, msr_refusal}
use Rattle.definitions.specs.VmxExitReason as VmxExitReason
use Rattle.vmcs.specs.Efer.{is_long_mode, lacks_ia32e, update_efer}
use Rattle.vmcs.specs.Efer.{EferUpdate}
use Rattle.vmcs.specs.declared.controls.Pair.{Pair}
use Rattle.vcpu_session.specs.Phase as Phase
use Rattle.vcpu_session.specs.Session.{LAST_ENTRY, is_unlawful, Lawful}
use Rattle.vcpu_session.proofs.LawfulLaws.{of_lawful}
use Rattle.vcpu_session.specs.declared.Session.{Session}
use Rattle.vcpu_events.specs.Entry.{entry}
use Rattle.vcpu_events.specs.Entry.{Entered}
use Rattle.vcpu_exit.specs.Reading.{failed, turns_paging_on, past_end, reason_of}
use Rattle.vcpu_exit.specs.Refusal.{unknown_reason, owned_bits_differ, no_interrupt, other_access, other_xcr, refused_xcr0, efer_refusal, reason_refusal, exit_refusal, report_refusal}
use Rattle.vcpu_exit.specs.declared.Report.{Report}

abbrev Other : ℕ → Type 0
Other n = n ≢ 25

-- a choice between two
other_of : (t : Bool) (a b : ℕ) → Other a → Other b → Other (cond t a b)
other_of t a b p q = cond_all Other t a b (λ _. p) (λ _. q)

pub entry_other : (s : Session) (stack : ℕ) → Other (entry s stack).refusal
unfolding entry
entry_other s stack =
    let P : Entered → Type 0 = λ a. Other a.refusal in
    cond_all P (is_unlawful s) _ _ (λ _. omega arith)
    (λ _. cond_all P (not (eqb s.progress.phase Phase.READY)) _ _ (λ _. omega arith)
    (λ _. cond_all P (eqb s.progress.entries LAST_ENTRY) _ _ (λ _. omega arith) (λ _. omega arith)))

-- what holds of each number of a report holds of its number
module _ (P : ℕ → Type 0) where
  one_of : (t : Bool) (a b : ℕ) → P a → P b → P (cond t a b)
  one_of t a b p q = cond_all P t a b (λ _. p) (λ _. q)

  efer_one : P 0 → P 8 → (pair : Pair) (word : ℕ) (r : Report) → P (efer_refusal pair word r)
  unfolding efer_refusal update_efer
  efer_one p0 p8 pair word r =
      let Q : EferUpdate → Type 0 = λ u. P u.refusal in
      one_of (turns_paging_on r) _ 0 (cond_all Q (is_long_mode r.efer) _ _ (λ _. p0) (λ _. cond_all Q (lacks_ia32e pair.allowed1) _ _ (λ _. p8) (λ _. p0))) p0

  reason_one : P 0 → P 16 → P 18 → P 20 → P 19 → P 21 → (supported : ℕ) (r : Report) → P (reason_refusal supported r)
  unfolding reason_refusal
  reason_one p0 p16 p18 p20 p19 p21 supported r =
      one_of (no_interrupt r) 16 _ p16
      (one_of (other_access r) 18 _ p18 (one_of (other_xcr r) 20 _ p20 (one_of (refused_xcr0 supported r) 19 _ p19 (one_of (eqb (reason_of r) VmxExitReason.APIC_ACCESS) 21 0 p21 p0))))

  report_one : (s : Session) (r : Report) → (is_unlawful s ≡ true → P 2) → P 0 → P 1 → P 14 → P 15 → P 16 → P 18 → P 20 → P 19 → P 21 → P 17 → P 8 → P (report_refusal s r)
  unfolding report_refusal exit_refusal or_else
  report_one s r p2 p0 p1 p14 p15 p16 p18 p20 p19 p21 p17 p8 =
      cond_all P (is_unlawful s) 2 _ p2
      (λ _. one_of (not (eqb s.progress.phase Phase.RUNNING)) 1 _ p1
      (one_of (unknown_reason r) 14 _ p14
      (one_of (failed r) 0 _ p0
      (one_of (owned_bits_differ s.vmcs r) 15 _ p15
      (one_of (eqb (reason_refusal s.xcr0.supported r) 0) _ _ (one_of (past_end r) 17 _ p17 (efer_one p0 p8 _ _ r)) (reason_one p0 p16 p18 p20 p19 p21 s.xcr0.supported r))))))

pub report_other : (s : Session) (r : Report) → report_refusal s r ≢ 25
report_other s r =
    report_one Other s r (λ _. omega arith) (omega arith) (omega arith) (omega arith) (omega arith) (omega arith) (omega arith) (omega arith) (omega arith) (omega arith) (omega arith) (omega arith)

-- 2 is none of a session that a record holds
pub report_held : (s : Session) (r : Report) → Lawful s → report_refusal s r ≢ 2
report_held s r l =
    report_one (λ (n : ℕ). n ≢ 2) s r (λ e. absurd (true≢false (sym e ∙ of_lawful s l))) (omega arith) (omega arith) (omega arith) (omega arith) (omega arith) (omega arith) (omega arith) (omega arith)
    (omega arith) (omega arith) (omega arith)

pub port_other : (la lb base count : ℕ) → Other (port_refusal la lb base count)
unfolding port_refusal
port_other la lb base count =
    other_of (not (eqb la 4096)) 2 _ (omega arith)
    (other_of (not (eqb lb 4096)) 2 _ (omega arith) (other_of (eqb count 0) 0 _ (omega arith) (other_of (ltb 0x1_0000 (base + count)) 10 0 (omega arith) (omega arith))))

pub msr_other : (len from to : ℕ) → Other (msr_refusal len from to)
unfolding msr_refusal
msr_other len from to =
    other_of (not (eqb len 4096)) 2 _ (omega arith)
    (other_of (leb to 0x2000) 0 _ (omega arith)
    (other_of (ltb from 0xC000_0000) 11 _ (omega arith) (other_of (ltb 0xC000_2000 to) 11 0 (omega arith) (omega arith))))
