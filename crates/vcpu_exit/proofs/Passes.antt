-- What an accepted report has passed. Assumes nothing.
use mathlib.Core.Path.{◌≡◌}
use mathlib.Core.Bool.{Bool, false, cond, not}
use Prim.Native.Nat.{ℕ}
use native.Mathlib.Omega.{arith}
use lib.Dec.{eqb}
use Rattle.bits.proofs.Tells.{both_zero}
use Rattle.vmcs.specs.Field.{value_of}
use Rattle.vmcs.specs.Names.VmcsControl32 as VmcsControl32
use Rattle.vcpu_session.specs.Phase as Phase
use Rattle.vcpu_session.specs.Session.{is_unlawful}
use Rattle.vcpu_session.specs.declared.Session.{Session}
use Rattle.vcpu_exit.specs.Reading.{failed, past_end}
use Rattle.vcpu_exit.specs.Refusal.{unknown_reason, owned_bits_differ, no_interrupt, other_access, efer_refusal, entry_pair, reason_refusal, exit_refusal, report_refusal}
use Rattle.vcpu_exit.specs.declared.Report.{Report}
use Rattle.vcpu_exit.proofs.Conds.{passed}

pub record Passed (s : Session) (r : Report) : Type 0 where
  pub lawful : is_unlawful s ≡ false
  pub running : not (eqb s.progress.phase Phase.RUNNING) ≡ false
  pub known : unknown_reason r ≡ false
  pub owned : owned_bits_differ s.vmcs r ≡ false
  pub access : other_access r ≡ false
  pub sum : past_end r ≡ false
  pub entry : efer_refusal (entry_pair s.capabilities) (value_of s.vmcs VmcsControl32.VMENTRY_CONTROLS) r ≡ 0

not_failed : (t : Bool) (n : ℕ) → t ≡ false → cond t 0 n ≡ 0 → n ≡ 0
not_failed t n f e = rw f at e

pub passes : (s : Session) (r : Report) → report_refusal s r ≡ 0 → failed r ≡ false → Passed s r
unfolding report_refusal reason_refusal exit_refusal
passes s r e f =
    let a = passed (is_unlawful s) 2 _ (omega arith) e in
    let b = passed (not (eqb s.progress.phase Phase.RUNNING)) 1 _ (omega arith) a.1 in
    let d = passed (unknown_reason r) 14 _ (omega arith) b.1 in
    let g = passed (owned_bits_differ s.vmcs r) 15 _ (omega arith) (not_failed (failed r) _ f d.1) in
    let x = both_zero (reason_refusal s.xcr0.supported r) _ g.1 in
    let h = passed (no_interrupt r) 16 _ (omega arith) x.0 in
    let i = passed (other_access r) 18 _ (omega arith) h.1 in
    let m = passed (past_end r) 17 _ (omega arith) x.1 in
    record { lawful = a.0; running = b.0; known = d.0; owned = g.0; access = i.0; sum = m.0; entry = m.1 }
