-- A trial on a record: its ends, and that a refused report and a refused entry leave everything as it was. Assumes nothing.
use mathlib.Core.Path.{◌≡◌, refl, sym, ap, ◌∙◌, subst}
use mathlib.Core.Bool.{Bool, true, false, false≢true}
use mathlib.Core.List.{List}
use mathlib.Core.Logic.{◌≢◌, ◌⊎◌, inl, inr}
use Prim.Native.Nat.{ℕ}
use native.Mathlib.Omega.{arith}
use lib.Dec.{eqb}
use lib.ListN.{length}
use borrow.Author.Tests.{eq-eqb, eqb-true}
use Rattle.std.proofs.Common.{Option, None, Some}
use Rattle.std.specs.Prelude.{unwrap_or}
use Rattle.bits.specs.LittleEndian.{Below}
use Rattle.bits.proofs.Tells.{cond_all}
use Rattle.vcpu_session.specs.Phase as Phase
use Rattle.vcpu_events.specs.Entry.{entry}
use Rattle.vcpu_exit.specs.Refusal.{report_refusal}
use Rattle.vcpu_exit.specs.declared.Report.{Report}
use Rattle.vcpu_answers.specs.Answer.{answer_words}
use Rattle.vcpu_answers.specs.declared.AxVCpuExitReason.{AxVCpuExitReason}
use Rattle.vcpu_report.specs.ExitReport.{accepted}
use Rattle.record.specs.Codec.{session_of, accepted_of}
use Rattle.record.proofs.RoundTrip.{session_lawful}
use Rattle.record_edits.specs.Holds.{Holds}
use Rattle.blocks.specs.ReportBlock.{report_of}
use Rattle.call_specs.specs.Records.{EntryCall, entry_call, EntryCalled}
use Rattle.call_specs.specs.ReportCall.{ReportCall, report_answer, report_accepts, report_call, ReportCalled}
use Rattle.call_specs.proofs.ReportCalls.{report_no_record, report_stays, is_record, report_early, report_number, report_done}
use Rattle.trials.specs.Trial.{outcome}
use Rattle.trials.specs.Trials.{same_length, report_on, entry_on, try_report, try_entry, ReportTried, ReportBody, EntryTried, alike_of}
use Rattle.trials.proofs.TrialLaws.{Refusing, tried_2, tried_25, tried_other, tried_0}
use Rattle.trials.proofs.Numbers.{entry_other, report_other, report_held}

-- ---- an entry

module _ (stack : ℕ) (b : List ℕ) (resumed injection : ℕ) where
  entry_keeps : (entry_call stack b resumed injection).refusal ≢ 0 → entry_on stack b (resumed, injection) ≡ outcome (entry_call stack b resumed injection).refusal b (resumed, injection)
  unfolding entry_call
  entry_keeps =
      let P : EntryCall → Type 0 = λ c. (c.refusal ≢ 0) → outcome {R = ℕ × ℕ} c.refusal c.bytes (c.resumed, c.injection) ≡ outcome c.refusal b (resumed, injection) in
      cond_all P (accepted_of b) _ _ (λ _. cond_all P (eqb (entry (session_of b) stack).refusal 0) _ _ (λ _ o. absurd (o refl)) (λ _ _. refl)) (λ _ _. refl)

  entry_never : (entry_call stack b resumed injection).refusal ≢ 25
  unfolding entry_call
  entry_never =
      let P : EntryCall → Type 0 = λ c. c.refusal ≢ 25 in
      cond_all P (accepted_of b) _ _
      (λ _. cond_all P (eqb (entry (session_of b) stack).refusal 0) _ _ (λ _. omega arith) (λ _. entry_other (session_of b) stack))
      (λ _. omega arith)

  module _ {shown : List ℕ} where
    -- nothing is written
    pub entry_untouched : {n : ℕ} → outcome n shown (resumed, injection) ≡ try_entry stack b shown (resumed, injection) → n ≢ 0 → EntryTried stack b shown resumed injection n shown resumed injection
    entry_untouched e other = record { answer = e; decodes = λ z. absurd (other z) }

    -- the call on a copy
    pub entry_shown : {n : ℕ} → n ≡ (entry_call stack b resumed injection).refusal → n ≡ 0 → length shown ≡ length b → {copy after : List ℕ} {k x y : ℕ} → copy ≡ b
        → EntryCalled stack copy resumed injection k after x y → EntryTried stack b shown resumed injection k after x y
    entry_shown asked none same {after = after} {k = k} {x = x} {y = y} copied h =
        let c = subst (λ (l : List ℕ). EntryCalled stack l resumed injection k after x y) copied h in
        record {
          answer =
              ap (λ (z : EntryCall). outcome z.refusal z.bytes (z.resumed, z.injection)) c.answer
              ∙ tried_0 same_length (entry_on stack) b shown (resumed, injection) asked (eq-eqb _ _ same) none;
          decodes = c.decodes;
        }

pub entry_refusing : (stack : ℕ) → Refusing (entry_on stack)
entry_refusing stack = record { keeps = λ b x. entry_keeps stack b x.0 x.1; other = λ b x. entry_never stack b x.0 x.1 }

-- ---- a report

module _ (block b words : List ℕ) where
  report_never : (report_call b block words).refusal ≢ 25
  report_never = go (report_accepts b block) refl
    where
      go : (t : Bool) → report_accepts b block ≡ t → (report_call b block words).refusal ≢ 25
      go true ok z = report_other (session_of b) (report_of block) (sym (report_number b block (sym ok) refl words) ∙ z)
      go false f z = let two = ap (λ (c : ReportCall). c.refusal) (report_no_record b block (sym f) words refl).answer in absurd (omega arith)

  module _ {shown : List ℕ} where
    pub report_untouched : {n : ℕ} → outcome n shown words ≡ try_report block b shown words → n ≢ 0 → ReportTried b shown block words n shown words
    report_untouched e other = record { answer = e; decodes = λ z. absurd (other z) }

    pub report_shown : {n : ℕ} → n ≡ (report_call b block words).refusal → n ≡ 0 → length shown ≡ length b → {copy after wordsAfter : List ℕ} {k : ℕ} → copy ≡ b
        → ReportCalled copy block words k after wordsAfter → ReportTried b shown block words k after wordsAfter
    report_shown asked none same {after = after} {wordsAfter = wordsAfter} {k = k} copied h =
        let c = subst (λ (l : List ℕ). ReportCalled l block words k after wordsAfter) copied h in
        record {
          answer =
              ap (λ (z : ReportCall). outcome z.refusal z.bytes z.answer) c.answer ∙ tried_0 same_length (report_on block) b shown words asked (eq-eqb _ _ same) none;
          decodes = c.decodes;
        }

pub report_refusing : (block : List ℕ) → Refusing (report_on block)
report_refusing block =
    record {
      keeps = λ b words o. ap (λ (z : ReportCall). outcome z.refusal z.bytes z.answer) (report_stays b block refl words o);
      other = λ b words. report_never block b words;
    }

-- ---- the one body of the report and of its trial: the record that decides is the first in a trial, else the one that is given

module _ (f : Option (List ℕ)) (bytes block words : List ℕ) {d : List ℕ} (e : d ≡ unwrap_or f bytes) where
  -- refused: in a trial either by 2, or the lengths are the same
  on_refused : {n : ℕ} → n ≡ (report_call d block words).refusal → n ≢ 0 → (n ≡ 2) ⊎ ((n ≢ 2) × (alike_of f bytes ≡ true)) → ReportBody f bytes block words n bytes words
  on_refused {n} asked other which = go f e which
    where
      go : (f : Option (List ℕ)) → d ≡ unwrap_or f bytes → (n ≡ 2) ⊎ ((n ≢ 2) × (alike_of f bytes ≡ true)) → ReportBody f bytes block words n bytes words
      go (Some first) e which =
          let of : n ≡ (report_call first block words).refusal = asked ∙ ap (λ (l : List ℕ). (report_call l block words).refusal) e in
          report_untouched block first words
          (elim which [
            | inl two ↦ tried_2 same_length (report_on block) first bytes words of two
            | inr h ↦ tried_other same_length (report_on block) first bytes words of h.0 h.1 other
          ]) other
      go None e which =
          let of : n ≡ (report_call bytes block words).refusal = asked ∙ ap (λ (l : List ℕ). (report_call l block words).refusal) e in
          record {
            answer = ap (λ (k : ℕ). report_answer k bytes words) of ∙ sym (report_stays bytes block refl words (λ z. other (of ∙ z)));
            decodes = λ z. absurd (other z);
          }

  module _ {r : Bool} (a : r ≡ report_accepts d block) where
    pub on_bytes : r ≡ false → ReportBody f bytes block words 2 bytes words
    on_bytes none = on_refused (ap (λ (c : ReportCall). c.refusal) (report_no_record d block a words none).answer) (omega arith) (inl refl)

    module _ (ok : r ≡ true) where
      held : report_refusal (session_of d) (report_of block) ≢ 2
      held = report_held (session_of d) (report_of block) (session_lawful d (is_record d block a ok))

      pub on_length : alike_of f bytes ≡ false → ReportBody f bytes block words 25 bytes words
      on_length = go f e
        where
          go : (f : Option (List ℕ)) → d ≡ unwrap_or f bytes → alike_of f bytes ≡ false → ReportBody f bytes block words 25 bytes words
          go (Some first) e differ =
              let of : report_refusal (session_of d) (report_of block) ≡ (report_call first block words).refusal =
              sym (report_number d block a ok words) ∙ ap (λ (l : List ℕ). (report_call l block words).refusal) e in
              report_untouched block first words (tried_25 same_length (report_on block) first bytes words of held differ) (omega arith)
          go None e differ = absurd (false≢true (sym differ))

      module _ (same : alike_of f bytes ≡ true) where
        pub on_phase : ((session_of d).progress.phase ≡ Phase.RUNNING → ⊥) → ReportBody f bytes block words 1 bytes words
        on_phase other =
            on_refused (ap (λ (c : ReportCall). c.refusal) (report_early d block a ok words other).answer) (omega arith) (inr (omega arith, same))

        module _ {x : Report} (given : x ≡ report_of block) {n : ℕ} (asked : n ≡ report_refusal (session_of d) x) where
          of_d : n ≡ (report_call d block words).refusal
          of_d = asked ∙ ap (report_refusal (session_of d)) given ∙ sym (report_number d block a ok words)

          pub on_own : (n ≡ 0 → ⊥) → ReportBody f bytes block words n bytes words
          on_own other = on_refused of_d other (inr (λ z. held (sym (ap (report_refusal (session_of d)) given) ∙ sym asked ∙ z), same))

          pub on_done : n ≡ 0 → {copy after wordsAfter : List ℕ} {w : AxVCpuExitReason} → copy ≡ unwrap_or f bytes → Below 256 after
              → w ≡ (accepted (session_of copy) x).answer → Holds after (accepted (session_of copy) x).session → wordsAfter ≡ answer_words w
              → ReportBody f bytes block words 0 after wordsAfter
          on_done none {copy} {after} {wordsAfter} {w} copied below p h q =
              let c : copy ≡ d = copied ∙ sym e in
              go f e same
              (report_done d block a ok given below words (sym of_d ∙ none) (p ∙ ap (λ (l : List ℕ). (accepted (session_of l) x).answer) c)
              (subst (λ (l : List ℕ). Holds after (accepted (session_of l) x).session) c h) q)
            where
              go : (f : Option (List ℕ)) → d ≡ unwrap_or f bytes → alike_of f bytes ≡ true → ReportCalled d block words 0 after wordsAfter → ReportBody f bytes block words 0 after wordsAfter
              go (Some first) e same h = report_shown block first words (of_d ∙ ap (λ (l : List ℕ). (report_call l block words).refusal) e) none (eqb-true _ _ same) e h
              go None e same h = subst (λ (l : List ℕ). ReportCalled l block words 0 after wordsAfter) e h
