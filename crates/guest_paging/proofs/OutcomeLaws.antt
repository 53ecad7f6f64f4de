-- The walk's answer is the outcome that the statement has, and no other. Assumes nothing.
use Prim.Native.Nat.{ℕ, zero, suc, ◌+◌, ◌-◌, ◌≤◌, ◌<◌}
use mathlib.Core.Path.{◌≡◌, refl, sym, ap, ◌∙◌, subst}
use mathlib.Core.Bool.{Bool, true, false, cond, true≢false}
use mathlib.Core.List.{List, [], ◌∷◌, ◌++◌}
use mathlib.Core.Logic.{◌⊎◌, ◌≢◌, inl, inr}
use native.Mathlib.Omega.{arith}
use borrow.Author.Tests.{eqb-true, eqb-false, eq-eqb, ne_eqb, ltb-true, ltb-false}
use lib.Dec.{eqb, ltb}
use lib.ListN.{length}
use Rattle.bits.specs.LittleEndian.{Below as BelowAll}
use Rattle.bits.specs.Refuses.{or_else, Refuses}
use Rattle.bits.proofs.Tells.{Tells, cond_all, refuses_one, both_zero}
use Rattle.vcpu_readings.specs.declared.GuestPageWalkInfo.{GuestPageWalkInfo}
use Rattle.guest_paging.specs.Walked.{Address, Fails, Refused, Next, Ends, Below}
use Rattle.guest_paging.specs.Walk.{entry_at, place_of, broken_rule, page_address, next_table, level_gives, gone_on, walk_from, top_table, cut_address}
use Rattle.guest_paging.specs.Reference.{Kind, Met, Open, Made, entry_rules, page_rules, place, OfLevel, Meets, Top, Path, Judged, Outcome, reaches, fails, past}
use Rattle.guest_paging.proofs.WalkLaws.{walk_step}
use Rattle.guest_paging.proofs.KindLaws.{right_of, Found, found}
use Rattle.guest_paging.proofs.PathLaws.{opened, number_at, spelt_at, past_gives, met_gives, opened_tells, met_judged, met_alone, page_made, page_alone, table_made, table_alone}

-- ---- the top table

pub top_made : (i : GuestPageWalkInfo) (m : List ℕ) (a : ℕ) → Top m i a (top_table i.level i.top_entry)
unfolding top_table
top_made i m a =
    record {
      four = λ h. rw h (omega arith, (omega arith, omega arith));
      three = λ h. rw h (omega arith, (omega arith, omega arith));
      two = λ h. rw h (omega arith, (omega arith, omega arith));
    }

pub top_alone : (i : GuestPageWalkInfo) (m : List ℕ) (a t : ℕ) → (i.level ≡ 2) ⊎ (i.level ≡ 3) ⊎ (i.level ≡ 4) → Top m i a t → t ≡ top_table i.level i.top_entry
unfolding top_table
top_alone i m a t (inl h) p = let d = p.two h in rw h (omega (arith, d.0, d.1.0, d.1.1))
top_alone i m a t (inr (inl h)) p = let d = p.three h in rw h (omega (arith, d.0, d.1.0, d.1.1))
top_alone i m a t (inr (inr h)) p = let d = p.four h in rw h (omega (arith, d.0, d.1.0, d.1.1))

-- ---- paths

-- of a memory of bytes, with paging on
module _ (m : List ℕ) (typed : BelowAll 256 m) (i : GuestPageWalkInfo) (a : ℕ) (paging : (i.level ≡ 2) ⊎ (i.level ≡ 3) ⊎ (i.level ≡ 4)) where
  some_levels : 2 ≤ i.level
  some_levels = elim paging [ inl h ↦ omega (arith, h) | inr p ↦ elim p [ inl h ↦ omega (arith, h) | inr h ↦ omega (arith, h) ] ]

  pub counted : (xs : List Met) (l t : ℕ) → Path m i a xs l t → length xs + l ≡ i.level
  counted [] l t p = omega (arith, p.0)
  counted (x ∷ xs) l t p = let c = counted xs (suc l) p.0 p.1.0 in omega (arith, c)

  pub above_none : (xs : List Met) (l t : ℕ) → Path m i a xs l t → 1 ≤ l
  above_none [] l t p = omega (arith, p.0, some_levels)
  above_none (x ∷ xs) l t p =
      let o = p.1.1.0.of_level in
      let d = (right_of x.kind o.listed).deeper p.1.1.1.0 in
      omega (arith, d, o.level_is)

  pub opens : (xs : List Met) (l t : ℕ) → Path m i a xs l t → Tells (opened i xs) (Open xs)
  opens [] l t p = record { yes_so = λ e. tt; not_so = λ e o. true≢false e }
  opens (x ∷ xs) l t p = opened_tells m typed i a p.1.1.0 xs (opens xs (suc l) p.0 p.1.0)

  -- a path's walk goes on where the path leads
  pub led : (xs : List Met) (l t : ℕ) → Path m i a xs l t
      → walk_from m i (cut_address i.level a) i.level (top_table i.level i.top_entry) true ≡ walk_from m i (cut_address i.level a) l t (opened i xs)
  unfolding walk_from or_else
  led [] l t p = rw (p.0, ← (top_alone i m a t paging p.1))
  led (x ∷ xs) l t p =
      let w = p.1.1.0 in
      let none : broken_rule i (suc l) x.kind.page x.entry ≡ 0 = refuses_one (entry_rules i x) _ 0 (met_alone m typed i a w) p.1.1.1.1.0 in
      let below = table_alone m typed i a w p.1.1.1.0 t p.1.1.1.1.1 in
      led xs (suc l) p.0 p.1.0 ∙ rw (met_gives m typed i a w xs, none, p.1.1.1.0, below)

  -- ---- the answer is an outcome

  -- at one level, if it is so below
  level_outcome : (l : ℕ) → ((xs : List Met) (t : ℕ) → Path m i a xs l t → Outcome m i a (walk_from m i (cut_address i.level a) l t (opened i xs)))
      → (xs : List Met) (t : ℕ) (x : Met) → Path m i a xs (suc l) t → Meets m i a (suc l) t x
      → Outcome m i a (gone_on (level_gives m i (cut_address i.level a) (suc l) t (opened i xs)) (λ t u. walk_from m i (cut_address i.level a) l t u))
  level_outcome l below xs t x p w =
      rw (met_gives m typed i a w xs)
      (cond_all P (eqb n 0) (cond x.kind.page (Ends (Address (page_address i.level (suc l) x.entry (cut_address i.level a)))) (Below (next_table x.entry) (opened i (x ∷ xs)))) (Ends (Fails (suc l) n))
      (λ z.
      cond_all P x.kind.page (Ends (Address (page_address i.level (suc l) x.entry (cut_address i.level a)))) (Below (next_table x.entry) (opened i (x ∷ xs)))
      (λ h. reaches (suc l) x (page_address i.level (suc l) x.entry (cut_address i.level a)) (judged 0 (eqb-true n 0 z)) h (page_made m typed i a w h))
      (λ h. below (x ∷ xs) (next_table x.entry) (t, (p, (w, (h, (alone z, table_made m typed i a w h)))))))
      (λ z. fails (suc l) n x (judged n refl) (eqb-false n 0 z)))
    where
      n : ℕ
      n = number_at i (suc l) x xs

      P : Next → Type 0
      P s = Outcome m i a (gone_on s (λ t u. walk_from m i (cut_address i.level a) l t u))

      judged : (r : ℕ) → n ≡ r → Judged m i a (suc l) r x
      judged r e =
          record {
            path = xs;
            table = t;
            leads = p;
            meets = w;
            judged = subst (Refuses (entry_rules i x ++ page_rules i x xs)) e (met_judged m typed i a w xs (opens xs (suc l) t p));
          }

      alone : eqb n 0 ≡ true → Refuses (entry_rules i x) 0
      alone z = subst (Refuses (entry_rules i x)) (both_zero _ _ (eqb-true n 0 z)).0 (met_alone m typed i a w)

  -- there is an entry, or none that is whole in memory
  level_met : (l : ℕ) → ((xs : List Met) (t : ℕ) → Path m i a xs l t → Outcome m i a (walk_from m i (cut_address i.level a) l t (opened i xs)))
      → (xs : List Met) (t : ℕ) → Path m i a xs (suc l) t
      → Outcome m i a (gone_on (level_gives m i (cut_address i.level a) (suc l) t (opened i xs)) (λ t u. walk_from m i (cut_address i.level a) l t u))
  level_met l below xs t p = go (ltb (length m) (place m i a f.kind t + f.kind.bytes)) refl
    where
      e : ℕ
      e = entry_at m (place_of i.level (suc l) (cut_address i.level a) t) i.level

      f : Found i.level (suc l) i.pse e
      f = found i.pse e i.level (suc l) paging (omega arith) (omega (arith, counted xs (suc l) t p))

      o : OfLevel m i a f.kind (suc l)
      o = record { listed = f.listed; levels = f.levels_are; level_is = f.level_is }

      go : (b : Bool) → ltb (length m) (place m i a f.kind t + f.kind.bytes) ≡ b
          → Outcome m i a (gone_on (level_gives m i (cut_address i.level a) (suc l) t (opened i xs)) (λ t u. walk_from m i (cut_address i.level a) l t u))
      go true h = rw (past_gives m typed i a o t (opened i xs) (ltb-true _ _ h)) (past xs (suc l) t f.kind p o (ltb-true _ _ h))
      go false h =
          level_outcome l below xs t (record { kind = f.kind; entry = e }) p
          (record { of_level = o; told = f.told; within = ltb-false _ _ h; spelt = sym (spelt_at m typed i a o t) })

  walked : (l : ℕ) (xs : List Met) (t : ℕ) → Path m i a xs l t → Outcome m i a (walk_from m i (cut_address i.level a) l t (opened i xs))
  unfolding walk_from
  walked zero xs t p = let h = above_none xs zero t p in absurd (omega (arith, h))
  walked (suc l) xs t p = level_met l (walked l) xs t p

  pub outcome : Outcome m i a (walk_from m i (cut_address i.level a) i.level (top_table i.level i.top_entry) true)
  outcome = walked i.level [] (top_table i.level i.top_entry) (refl, top_made i m a)

  -- ---- and no other

  -- the walk from a level on, by what the level gives
  at_level : (l : ℕ) (xs : List Met) (t : ℕ) → Path m i a xs l t
      → walk_from m i (cut_address i.level a) i.level (top_table i.level i.top_entry) true
      ≡ gone_on (level_gives m i (cut_address i.level a) l t (opened i xs)) (λ t u. walk_from m i (cut_address i.level a) (l - 1) t u)
  at_level l xs t p = led xs l t p ∙ walk_step m i (cut_address i.level a) l t (opened i xs) (above_none xs l t p)

  pub only_reaches : (l : ℕ) (x : Met) (p : ℕ) → Judged m i a l 0 x → x.kind.page ≡ true → Made x.kind.offset x.kind.pieces x.entry a p
      → Address p ≡ walk_from m i (cut_address i.level a) i.level (top_table i.level i.top_entry) true
  only_reaches l x p j h d =
      let n = refuses_one (entry_rules i x ++ page_rules i x j.path) _ 0 (met_judged m typed i a j.meets j.path (opens j.path l j.table j.leads)) j.judged in
      rw (at_level l j.path j.table j.leads, met_gives m typed i a j.meets j.path, eq-eqb (number_at i l x j.path) 0 n, h) (ap Address (page_alone m typed i a j.meets h p d))

  pub only_fails : (l r : ℕ) (x : Met) → Judged m i a l r x → r ≢ 0
      → Fails l r ≡ walk_from m i (cut_address i.level a) i.level (top_table i.level i.top_entry) true
  only_fails l r x j some =
      let n = refuses_one (entry_rules i x ++ page_rules i x j.path) _ r (met_judged m typed i a j.meets j.path (opens j.path l j.table j.leads)) j.judged in
      rw (at_level l j.path j.table j.leads, met_gives m typed i a j.meets j.path, n, ne_eqb r 0 some)

  pub only_past : (xs : List Met) (l t : ℕ) (k : Kind) → Path m i a xs l t → OfLevel m i a k l → length m < place m i a k t + k.bytes
      → Refused 26 ≡ walk_from m i (cut_address i.level a) i.level (top_table i.level i.top_entry) true
  only_past xs l t k p o h = rw (at_level l xs t p, past_gives m typed i a o t (opened i xs) h)
