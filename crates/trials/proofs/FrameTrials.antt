-- The numbers of the edits of frames, that a refused one leaves everything as it was, and an edit on a copy. Assumes nothing.
use mathlib.Core.Path.{◌≡◌, refl, sym, ap, ◌∙◌, subst}
use mathlib.Core.Bool.{Bool, true, false, cond}
use mathlib.Core.List.{List, []}
use mathlib.Core.Logic.{◌≢◌}
use Prim.Native.Nat.{ℕ, ◌+◌, ◌≤◌, ◌<◌}
use native.Mathlib.Omega.{arith}
use lib.Dec.{eqb, ltb}
use lib.ListN.{length}
use borrow.Author.Tests.{eqb-true, eqb-false, lt-ltb, le-ltb}
use Rattle.bits.proofs.Tells.{cond_all}
use Rattle.structs.specs.Frames.{IOBitmap, PortEdit, frames_of, port_refusal, edit_ports, MsrEdit, set_msrs, msr_refusal, edit_msrs}
use Rattle.structs.specs.declared.Access.{Access}
use Rattle.structs.proofs.PortLaws.{port_refused}
use Rattle.structs.proofs.MsrLaws.{msr_refused}
use Rattle.call_specs.specs.Calls.{port_call, msr_call}
use Rattle.trials.specs.Trial.{Outcome, outcome, trial_number, trial_of}
use Rattle.trials.specs.Trials.{same_length, same_lengths, ports_on, msr_on, try_ports, try_msr}
use Rattle.trials.proofs.TrialLaws.{Refusing, tried_0}
use Rattle.trials.proofs.Numbers.{port_other, msr_other}

-- ---- ports

module _ (io : IOBitmap) (base count v : ℕ) where
  pub port_byte : 1 < v → 2 ≡ (port_call io.a io.b base count v).refusal
  unfolding port_call
  port_byte h = rw (lt-ltb 1 v h)

  port_edit : v ≤ 1 → port_call io.a io.b base count v ≡ edit_ports io.a io.b base count (eqb v 1)
  unfolding port_call
  port_edit h = rw (le-ltb 1 v h)

  pub port_number : v ≤ 1 → {n : ℕ} → n ≡ port_refusal (length io.a) (length io.b) base count → n ≡ (port_call io.a io.b base count v).refusal
  unfolding edit_ports
  port_number h asked = asked ∙ sym (ap (λ (c : PortEdit). c.refusal) (port_edit h))

  port_keeps : (port_call io.a io.b base count v).refusal ≢ 0 → ports_on base count v io tt ≡ outcome (port_call io.a io.b base count v).refusal io tt
  unfolding port_call
  port_keeps =
      let P : PortEdit → Type 0 = λ c. (c.refusal ≢ 0) → outcome {R = Unit {0}} c.refusal (frames_of c) tt ≡ outcome c.refusal io tt in
      cond_all P (ltb 1 v) _ _ (λ _ _. refl)
      (λ _ o. ap (λ (f : IOBitmap). outcome (edit_ports io.a io.b base count (eqb v 1)).refusal f tt) (port_refused io.a io.b base count (eqb v 1) o))

  port_never : (port_call io.a io.b base count v).refusal ≢ 25
  unfolding port_call edit_ports
  port_never = cond_all (λ (c : PortEdit). c.refusal ≢ 25) (ltb 1 v) _ _ (λ _. omega arith) (λ _. port_other (length io.a) (length io.b) base count)

pub ports_refusing : (base count v : ℕ) → Refusing (ports_on base count v)
ports_refusing base count v = record { keeps = λ io x. port_keeps io base count v; other = λ io x. port_never io base count v }

-- the edit on copies of the frames
pub ports_shown : (io shown : IOBitmap) (base count v : ℕ) → v ≤ 1 → {n : ℕ} → n ≡ port_refusal (length io.a) (length io.b) base count → same_lengths io shown ≡ true → n ≡ 0
    → {copyA copyB : List ℕ} → copyA ≡ io.a → copyB ≡ io.b → {r : ℕ} {afterA afterB : List ℕ}
    → record { refusal = r; a = afterA; b = afterB } ≡ edit_ports copyA copyB base count (eqb v 1)
    → outcome r (record { a = afterA; b = afterB }) tt ≡ try_ports base count v io shown tt
ports_shown io shown base count v below asked same z ea eb done =
    ap (λ (c : PortEdit). outcome c.refusal (frames_of c) tt) (done ∙ (λ i. edit_ports (ea i) (eb i) base count (eqb v 1)) ∙ sym (port_edit io base count v below))
    ∙ tried_0 same_lengths (ports_on base count v) io shown tt (port_number io base count v below asked) same z

-- ---- MSRs

module _ (accesses : List Access) (frame : List ℕ) (msr v : ℕ) where
  pub msr_byte : 1 < v → 2 ≡ (msr_call accesses frame msr v).refusal
  unfolding msr_call
  msr_byte h = rw (lt-ltb 1 v h)

  msr_edit : v ≤ 1 → msr_call accesses frame msr v ≡ edit_msrs frame msr 1 accesses (eqb v 1)
  unfolding msr_call
  msr_edit h = rw (le-ltb 1 v h)

  pub msr_number : v ≤ 1 → {n : ℕ} → n ≡ msr_refusal (length frame) msr (msr + 1) → n ≡ (msr_call accesses frame msr v).refusal
  unfolding edit_msrs
  msr_number h asked = asked ∙ sym (ap (λ (c : MsrEdit). c.refusal) (msr_edit h))

  msr_keeps : (msr_call accesses frame msr v).refusal ≢ 0 → msr_on accesses msr v frame tt ≡ outcome (msr_call accesses frame msr v).refusal frame tt
  unfolding msr_call
  msr_keeps =
      let P : MsrEdit → Type 0 = λ c. (c.refusal ≢ 0) → outcome {R = Unit {0}} c.refusal c.frame tt ≡ outcome c.refusal frame tt in
      cond_all P (ltb 1 v) _ _ (λ _ _. refl)
      (λ _ o. ap (λ (f : List ℕ). outcome (edit_msrs frame msr 1 accesses (eqb v 1)).refusal f tt) (msr_refused frame msr 1 accesses (eqb v 1) o))

  msr_never : (msr_call accesses frame msr v).refusal ≢ 25
  unfolding msr_call edit_msrs
  msr_never = cond_all (λ (c : MsrEdit). c.refusal ≢ 25) (ltb 1 v) _ _ (λ _. omega arith) (λ _. msr_other (length frame) msr (msr + 1))

pub msr_refusing : (accesses : List Access) (msr v : ℕ) → Refusing (msr_on accesses msr v)
msr_refusing accesses msr v = record { keeps = λ f x. msr_keeps accesses f msr v; other = λ f x. msr_never accesses f msr v }

-- an edit of no access leaves the frame as it is
pub no_access : (frame : List ℕ) (msr v : ℕ) → (msr_call [] frame msr v).frame ≡ frame
unfolding msr_call edit_msrs set_msrs
no_access frame msr v =
    cond_all (λ (c : MsrEdit). c.frame ≡ frame) (ltb 1 v) _ _ (λ _. refl)
    (λ _. cond_all (λ (l : List ℕ). l ≡ frame) (eqb (msr_refusal (length frame) msr (msr + 1)) 0) _ _ (λ _. refl) (λ _. refl))

-- the edit on a copy of the frame
pub msr_shown : (accesses : List Access) (frame shown : List ℕ) (msr v : ℕ) → v ≤ 1 → {n : ℕ} → n ≡ msr_refusal (length frame) msr (msr + 1) → same_length frame shown ≡ true → n ≡ 0
    → {copy : List ℕ} → copy ≡ frame → {r : ℕ} {after : List ℕ} → record { refusal = r; frame = after } ≡ edit_msrs copy msr 1 accesses (eqb v 1)
    → outcome r after tt ≡ try_msr accesses msr v frame shown tt
msr_shown accesses frame shown msr v below asked same z e done =
    ap (λ (c : MsrEdit). outcome c.refusal c.frame tt) (done ∙ ap (λ (f : List ℕ). edit_msrs f msr 1 accesses (eqb v 1)) e ∙ sym (msr_edit accesses frame msr v below))
    ∙ tried_0 same_length (msr_on accesses msr v) frame shown tt (msr_number accesses frame msr v below asked) same z
