-- The law of trials, over any call that is a function of its buffers, and that it leaves one answer alone; the ends of a trial. Assumes nothing.
use mathlib.Core.Path.{◌≡◌, refl, sym, ap, ◌∙◌}
use mathlib.Core.Bool.{Bool, true, false, cond}
use mathlib.Core.List.{List, ◌++◌, append-nil}
use mathlib.Core.Logic.{◌≢◌}
use Prim.Native.Nat.{ℕ}
use native.Mathlib.Omega.{arith}
use lib.Dec.{eqb}
use lib.ListN.{length, take, drop}
use lib.Seq.{take-length, drop-length}
use borrow.Author.Tests.{eqb-true, eqb-false, eq-eqb, ne_eqb}
use Rattle.definitions.specs.Refusals.{number}
use Rattle.definitions.specs.declared.refusal.Refusal.{Refusal}
use Rattle.definitions.proofs.RefusalLaws.{some}
use Rattle.bits.proofs.Tells.{Tells, cond_all}
use Rattle.trials.specs.Trial.{Outcome, outcome, trial_number, trial_of}
use Rattle.trials.specs.Reference.{Trial}

-- a buffer copied over one of its length
pub copied : (src dst : List ℕ) → length dst ≡ length src → take (length src) src ++ drop (length src) dst ≡ src
copied src dst e = rw (take-length src, ← e, drop-length dst) (append-nil src)

-- a trial that is not refused: nor is its call, and the buffers are alike
pub taken : (n : ℕ) (a : Bool) → 0 ≡ trial_number n a → (n ≡ 0) × (a ≡ true)
unfolding trial_number
taken n a = go (eqb n 2) a
  where
    go : (t a : Bool) → 0 ≡ cond {A = ℕ} t 2 (cond a n 25) → (n ≡ 0) × (a ≡ true)
    go true a h = absurd (omega arith)
    go false true h = (sym h, refl)
    go false false h = absurd (omega arith)

-- a call that, where it is refused, leaves everything as it was, and that has no number 25
pub record Refusing {B R : Type 0} (call : B → R → Outcome B R) : Type 0 where
  pub keeps : (b : B) (x : R) → (call b x).refusal ≢ 0 → call b x ≡ outcome (call b x).refusal b x
  pub other : (b : B) (x : R) → (call b x).refusal ≢ 25

module _ {B R : Type 0} (alike : B → B → Bool) (call : B → R → Outcome B R) (first second : B) (x : R) where
  -- ---- the ends of a trial, by the call's number

  module _ {n : ℕ} (asked : n ≡ (call first x).refusal) where
    pub tried_2 : n ≡ 2 → outcome n second x ≡ trial_of alike call first second x
    unfolding trial_number trial_of
    tried_2 e = rw (← asked, e)

    pub tried_25 : n ≢ 2 → alike first second ≡ false → outcome 25 second x ≡ trial_of alike call first second x
    unfolding trial_number trial_of
    tried_25 o d = rw (← asked, ne_eqb n 2 o, d)

    pub tried_other : n ≢ 2 → alike first second ≡ true → n ≢ 0 → outcome n second x ≡ trial_of alike call first second x
    unfolding trial_number trial_of
    tried_other o a p = rw (← asked, ne_eqb n 2 o, a, ne_eqb n 0 p)

    pub tried_0 : alike first second ≡ true → n ≡ 0 → call first x ≡ trial_of alike call first second x
    unfolding trial_number trial_of
    tried_0 a z = rw (← asked, a, z)

    -- refused by its own number
    pub tried_by : (e : Refusal) → number e ≡ trial_number n (alike first second) → outcome (number e) second x ≡ trial_of alike call first second x
    unfolding trial_of
    tried_by e h = rw (← asked, ← h, some e)

  -- ---- the law

  module _ (lengths : B → List ℕ) (same : Tells (alike first second) (lengths second ≡ lengths first)) where
    pub trial : Refusing call → Trial lengths call first second x (trial_of alike call first second x)
    unfolding trial_number trial_of
    trial c = go (eqb n 2) (alike first second) refl refl
      where
        n : ℕ
        n = (call first x).refusal

        at_2 : n ≡ 2 → Trial lengths call first second x (outcome 2 second x)
        at_2 e =
            record {
              shows = λ z. absurd (omega arith);
              refuses = λ _ _. c.keeps first x (omega arith) ∙ ap (λ (k : ℕ). outcome k first x) e;
              is_25 = (λ z. absurd (omega arith), λ h. absurd (h.0 e));
              stays = λ _. refl;
            }

        at_25 : n ≢ 2 → (lengths second ≢ lengths first) → Trial lengths call first second x (outcome 25 second x)
        at_25 o d =
            record {
              shows = λ z. absurd (omega arith);
              refuses = λ _ z. absurd (z refl);
              is_25 = (λ _. (o, d), λ _. refl);
              stays = λ _. refl;
            }

        at_0 : n ≡ 0 → lengths second ≡ lengths first → Trial lengths call first second x (call first x)
        at_0 z a =
            record {
              shows = λ _. refl;
              refuses = λ o _. absurd (o z);
              is_25 = (λ e. absurd (c.other first x e), λ h. absurd (h.1 a));
              stays = λ o. absurd (o z);
            }

        at_other : n ≢ 0 → lengths second ≡ lengths first → Trial lengths call first second x (outcome n second x)
        at_other o a =
            record {
              shows = λ z. absurd (o z);
              refuses = λ _ _. c.keeps first x o;
              is_25 = (λ e. absurd (c.other first x e), λ h. absurd (h.1 a));
              stays = λ _. refl;
            }

        go : (t a : Bool) → eqb n 2 ≡ t → alike first second ≡ a
            → Trial lengths call first second x (cond (eqb (cond t 2 (cond a n 25)) 0) (call first x) (outcome (cond t 2 (cond a n 25)) second x))
        go true a e f = at_2 (eqb-true n 2 e)
        go false false e f = at_25 (eqb-false n 2 e) (same.not_so f)
        go false true e f =
            cond_all (Trial lengths call first second x) (eqb n 0) _ _ (λ z. at_0 (eqb-true n 0 z) (same.yes_so f)) (λ z. at_other (eqb-false n 0 z) (same.yes_so f))

    -- one answer alone
    pub only : {t : Outcome B R} → Trial lengths call first second x t → t ≡ trial_of alike call first second x
    unfolding trial_number trial_of
    only {t} h = go (eqb n 2) (alike first second) (eqb t.refusal 0) refl refl refl
      where
        n : ℕ
        n = (call first x).refusal

        shown : t.refusal ≡ 0 → n ≡ 0
        shown z = ap (λ (o : Outcome B R). o.refusal) (h.shows z) ∙ z

        refused : t.refusal ≢ 0 → t.refusal ≢ 25 → n ≡ t.refusal
        refused o p = ap (λ (o : Outcome B R). o.refusal) (h.refuses o p)

        go : (a b z : Bool) → eqb n 2 ≡ a → alike first second ≡ b → eqb t.refusal 0 ≡ z
            → t ≡ cond (eqb (cond a 2 (cond b n 25)) 0) (call first x) (outcome (cond a 2 (cond b n 25)) second x)
        go true b true e f g = let p = shown (eqb-true _ 0 g) in let q = eqb-true n 2 e in absurd (omega arith)
        go true b false e f g =
            let o = eqb-false _ 0 g in
            let q : n ≡ t.refusal = refused o (λ w. (h.is_25.0 w).0 (eqb-true n 2 e)) in
            h.stays o ∙ ap (λ (k : ℕ). outcome k second x) (sym q ∙ eqb-true n 2 e)
        go false false z e f g =
            let w : t.refusal ≡ 25 = h.is_25.1 (eqb-false n 2 e, same.not_so f) in
            h.stays (omega arith) ∙ ap (λ (k : ℕ). outcome k second x) w
        go false true true e f g = let z = eqb-true _ 0 g in rw (eq-eqb n 0 (shown z)) (sym (h.shows z))
        go false true false e f g =
            let o = eqb-false _ 0 g in
            let q : n ≡ t.refusal = refused o (λ w. (h.is_25.0 w).1 (same.yes_so f)) in
            rw (ne_eqb n 0 (λ w. o (sym q ∙ w))) (h.stays o ∙ ap (λ (k : ℕ). outcome k second x) (sym q))
