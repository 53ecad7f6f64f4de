-- The number of the rule that an entry breaks is that of the first rule in the statement's list. Assumes nothing.
use Prim.Native.Nat.{ℕ, ◌/◌, ◌%◌, ◌^◌}
use mathlib.Core.Path.{◌≡◌, refl, sym, ap, ◌∙◌, subst}
use mathlib.Core.Bool.{Bool, true, false, cond, not, ◌&&◌, ◌||◌, false≢true, true≢false}
use mathlib.Core.List.{List, [], ◌∷◌, ◌++◌}
use lib.Bits.{bit_and}
use lib.Dec.{eqb}
use Rattle.bits.specs.Words.{bit, mask_of}
use Rattle.bits.specs.Refuses.{or_else, Refuses}
use Rattle.bits.proofs.Tells.{Tells, tells_on, tells_off, tells_clear, tells_and, tells_or, tells_is, Rung, rung, number_on, ladder, ladder_then}
use Rattle.vcpu_readings.specs.declared.GuestPageWalkInfo.{GuestPageWalkInfo}
use Rattle.guest_paging.specs.Walk.{is_pae_top, reserved_bits, broken_right, broken_rule, passes_user, broken_at_page}
use Rattle.guest_paging.specs.Reference.{Listed, kinds, Met, Open, entry_rules, page_rules}
use Rattle.guest_paging.proofs.MaskLaws.{mask_tells}
use Rattle.guest_paging.proofs.KindLaws.{Right, right_of}

-- ---- choices, as ladders of tests

-- u user, w write, f fetch, n NXE; z2 and z1 that bits 2 and 1 are 0, b bit 63
rights_ladder : (r u z2 w z1 p f n b : Bool)
    → ◌≡◌ {A = ℕ} (cond (not r) 0 (cond (u && z2) 3 (cond (w && z1 && (u || p)) 4 (cond (f && n && b) 5 0))))
    (cond (r && (u && z2)) 3 (cond (r && (w && (z1 && (u || p)))) 4 (cond (r && (f && (n && b))) 5 0)))
rights_ladder false u z2 w z1 p f n b = refl
rights_ladder true u z2 true z1 p true n b = refl
rights_ladder true u z2 true z1 p false n b = refl
rights_ladder true u z2 false z1 p true n b = refl
rights_ladder true u z2 false z1 p false n b = refl

-- p page, u user, o open to the user at every level, f fetch, e SMEP, a SMAP
page_ladder : (p u o f e a : Bool)
    → ◌≡◌ {A = ℕ} (cond p (cond (u || not o) 0 (cond f (cond e 6 0) (cond a 7 0))) 0)
    (cond (p && (not u && (o && (f && e)))) 6 (cond (p && (not u && (o && (not f && a)))) 7 0))
page_ladder false u o f e a = refl
page_ladder true true o f e a = refl
page_ladder true false false f e a = refl
page_ladder true false true true true a = refl
page_ladder true false true true false a = refl
page_ladder true false true false e a = refl

-- ---- the ladders' tests tell the rules

either_tells : (r b : Bool) → Tells (not r || b) (r ≡ true → b ≡ true)
either_tells true b = record { yes_so = λ h x. h; not_so = λ h f. true≢false (sym (f refl) ∙ h) }
either_tells false b = record { yes_so = λ h x. absurd (false≢true x); not_so = λ h f. true≢false h }

module _ (i : GuestPageWalkInfo) (x : Met) where
  entry_rungs : List Rung
  entry_rungs =
      rung 1 (tells_clear (x.entry / 2 ^ 0)) ∷
      rung 2 (mask_tells (cond i.nxe x.kind.reserved (x.kind.reserved ++ x.kind.without_nxe)) x.entry) ∷
      rung 3 (tells_and (tells_on x.kind.rights) (tells_and (tells_on i.is_user_mode_access) (tells_clear (x.entry / 2 ^ 2)))) ∷
      rung 4
      (tells_and (tells_on x.kind.rights)
      (tells_and (tells_on i.is_write_access)
      (tells_and (tells_clear (x.entry / 2 ^ 1)) (tells_or (tells_on i.is_user_mode_access) (tells_on i.wp))))) ∷
      rung 5
      (tells_and (tells_on x.kind.rights) (tells_and (tells_on i.is_inst_fetch) (tells_and (tells_on i.nxe) (tells_on (bit 63 x.entry))))) ∷
      []

  page_rungs : (xs : List Met) {o : Bool} → Tells o (Open (x ∷ xs)) → List Rung
  page_rungs xs t =
      rung 6
      (tells_and (tells_on x.kind.page)
      (tells_and (tells_off i.is_user_mode_access) (tells_and t (tells_and (tells_on i.is_inst_fetch) (tells_on i.is_smep_on))))) ∷
      rung 7
      (tells_and (tells_on x.kind.page)
      (tells_and (tells_off i.is_user_mode_access) (tells_and t (tells_and (tells_off i.is_inst_fetch) (tells_on i.is_smap_on))))) ∷
      []

  module _ (listed : Listed x.kind kinds) {level : ℕ} (levels_are : x.kind.levels ≡ i.level) (level_is : x.kind.level ≡ level) where
    right : Right x.kind
    right = right_of x.kind listed

    top_is : is_pae_top i.level level ≡ not x.kind.rights
    top_is = rw (← levels_are, ← level_is) right.top

    reserved_is : reserved_bits i.level level x.kind.page i.nxe ≡ mask_of (cond i.nxe x.kind.reserved (x.kind.reserved ++ x.kind.without_nxe))
    reserved_is = rw (← levels_are, ← level_is) (right.reserves i.nxe)

    pub passes_tells : Tells (passes_user i.level level x.entry) (x.kind.rights ≡ true → bit 2 x.entry ≡ true)
    unfolding passes_user
    passes_tells = tells_is (ap (λ (t : Bool). t || bit 2 x.entry) top_is) (either_tells x.kind.rights (bit 2 x.entry))

    entry_number_lem : broken_rule i level x.kind.page x.entry ≡ number_on entry_rungs 0
    unfolding broken_rule broken_right entry_rungs
    entry_number_lem =
        rw (reserved_is, top_is)
        (ap (λ (n : ℕ). cond (eqb (x.entry / 2 ^ 0 % 2) 0) 1 (cond (not (eqb (bit_and x.entry (mask_of (cond i.nxe x.kind.reserved (x.kind.reserved ++ x.kind.without_nxe)))) 0)) 2 n))
        (rights_ladder x.kind.rights i.is_user_mode_access (eqb (x.entry / 2 ^ 2 % 2) 0) i.is_write_access (eqb (x.entry / 2 ^ 1 % 2) 0) i.wp i.is_inst_fetch i.nxe
        (bit 63 x.entry)))

    -- the rules of the entry by itself
    pub entry_judged : Refuses (entry_rules i x) (broken_rule i level x.kind.page x.entry)
    unfolding entry_rungs
    entry_judged = subst (Refuses (entry_rules i x)) (sym entry_number_lem) (ladder entry_rungs [] 0 refl)

    -- all seven
    pub all_judged : (xs : List Met) (o : Bool) → Tells o (Open (x ∷ xs))
        → Refuses (entry_rules i x ++ page_rules i x xs) (or_else (broken_rule i level x.kind.page x.entry) (cond x.kind.page (broken_at_page i o) 0))
    unfolding entry_rungs page_rungs broken_at_page
    all_judged xs o t =
        rw (entry_number_lem, page_ladder x.kind.page i.is_user_mode_access o i.is_inst_fetch i.is_smep_on i.is_smap_on)
        (ladder_then entry_rungs (refl, (refl, (refl, (refl, (refl, tt))))) (page_rules i x xs) (number_on (page_rungs xs t) 0) (ladder (page_rungs xs t) [] 0 refl))
