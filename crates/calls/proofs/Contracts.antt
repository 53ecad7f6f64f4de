-- What meets the contract of an exported function is the step of a list. Assumes nothing.
use Prim.Native.Nat.{ℕ}
use mathlib.Core.Path.{◌≡◌, refl, sym, ap, ◌∙◌, subst}
use mathlib.Core.Bool.{true, false, not}
use mathlib.Core.List.{List}
use lib.Dec.{eqb}
use lib.ListN.{length}
use borrow.Author.Tests.{eqb-true, not-false, eq-eqb}
use Rattle.bits.proofs.Tells.{cond_all}
use Rattle.record.specs.Record as Record
use Rattle.record.proofs.RoundTrip.{faithful}
use Rattle.call_specs.specs.Records.{EntryCall, FramesCall, frames_call, no_intercepts, new_call}
use Rattle.vcpu_events.specs.declared.Injection.TheVariants.{Empty}
use Rattle.call_specs.specs.ReportCall.{ReportCall}
use Rattle.calls.specs.Calls.{plain, framed, new_record, is_refused}
use Rattle.calls.specs.CallContracts.{NewLengths, Contracts}
use Rattle.calls.proofs.Records.{setup_left, entry_results, report_results}

module _ (bytes x y z : List ℕ) where
  new_made : NewLengths bytes x y z → new_call bytes x y z ≡ frames_call 0 new_record no_intercepts no_intercepts no_intercepts
  unfolding new_call
  new_made l =
      rw (eq-eqb _ _ l.0, eq-eqb _ _ l.1, eq-eqb _ _ l.2, eq-eqb _ _ l.3)
      (ap (λ (b : List ℕ). frames_call 0 b no_intercepts no_intercepts no_intercepts) faithful.new)

  new_refused : (NewLengths bytes x y z → ⊥) → new_call bytes x y z ≡ frames_call 2 bytes x y z
  unfolding new_call
  new_refused other =
      cond_all P (not (eqb (length bytes) Record.LENGTH)) _ _ (λ _. refl)
      (λ a. cond_all P (not (eqb (length x) 4096)) _ _ (λ _. refl)
      (λ b. cond_all P (not (eqb (length y) 4096)) _ _ (λ _. refl)
      (λ c. cond_all P (not (eqb (length z) 4096)) _ _ (λ _. refl) (λ d. absurd (other (same a, same b, same c, same d))))))
    where
      P : FramesCall → Type 0
      P r = r ≡ frames_call 2 bytes x y z

      same : {m n : ℕ} → not (eqb m n) ≡ false → m ≡ n
      same {m} {n} e = eqb-true m n (not-false _ e)

pub contracts : (b : List ℕ) → Contracts b
contracts b =
    record {
      new = λ bytes x y z r bytes' x' y' z' c. record { made = λ l. c ∙ new_made bytes x y z l; refused = λ n. c ∙ new_refused bytes x y z n };
      set_up = λ block x y z r after x' y' z' c.
          let number = ap (λ (o : FramesCall). o.refusal) c.answer in
          record {
            step = ap framed (sym c.answer);
            left = λ f.
                let e = c.answer ∙ setup_left block x y z b (subst (λ (n : ℕ). is_refused n ≡ true) number f) in
                (ap (λ (o : FramesCall). o.a) e, ap (λ (o : FramesCall). o.b) e, ap (λ (o : FramesCall). o.msr) e);
          };
      queue = λ vector coded code r after c. ap plain (sym c.answer);
      interrupt = λ vector r after c. ap plain (sym c.answer);
      enter = λ stack resumed injection r after x y c.
          let k = entry_results stack resumed injection b in
          let q = ap (λ (o : EntryCall). o.refusal) c.answer ∙ k.refusal in
          record {
            refusal = sym q;
            state = sym (ap (λ (o : EntryCall). o.bytes) c.answer ∙ k.bytes);
            resumes = λ f. sym (ap (λ (o : EntryCall). o.resumed) c.answer ∙ k.resumes (subst (λ (n : ℕ). is_refused n ≡ false) q f));
            answer = λ f. sym (ap (λ (o : EntryCall). o.injection) c.answer ∙ k.answer (subst (λ (n : ℕ). is_refused n ≡ false) q f));
            left = λ f.
                let e = c.answer ∙ k.left (subst (λ (n : ℕ). is_refused n ≡ true) q f) in
                (ap (λ (o : EntryCall). o.resumed) e, ap (λ (o : EntryCall). o.injection) e);
          };
      report = λ block words r after words' c.
          let k = report_results block words b in
          let q = ap (λ (o : ReportCall). o.refusal) c.answer ∙ k.0 in
          record {
            step = λ i. record { refusal = sym q i; answer = Empty; resumed = false; state = sym (ap (λ (o : ReportCall). o.bytes) c.answer ∙ k.1) i };
            left = λ f. ap (λ (o : ReportCall). o.answer) (c.answer ∙ k.2 (subst (λ (n : ℕ). is_refused n ≡ true) q f));
          };
      apic = λ value r after c. ap plain (sym c.answer);
      field = λ encoding value r after c. ap plain (sym c.answer);
      register = λ index value r after c. ap plain (sym c.answer);
    }
