-- What the entry at the end of a path gives the walk. Assumes nothing.
use Prim.Native.Nat.{ℕ, ◌+◌, ◌^◌, ◌<◌}
use mathlib.Core.Path.{◌≡◌, refl, sym, ap, ◌∙◌, subst}
use mathlib.Core.Bool.{Bool, true, false, cond, ◌&&◌}
use mathlib.Core.List.{List, [], ◌∷◌, ◌++◌}
use lib.Dec.{eqb}
use lib.ListN.{length, drop}
use Rattle.bits.specs.LittleEndian.{little_endian, Below as BelowAll}
use Rattle.bits.specs.Refuses.{or_else, Refuses}
use Rattle.bits.proofs.LittleEndianLaws.{little_below, below_drop}
use Rattle.bits.proofs.Tells.{Tells, tells_and}
use Rattle.vcpu_readings.specs.declared.GuestPageWalkInfo.{GuestPageWalkInfo}
use Rattle.guest_paging.specs.Walked.{Walked, Address, Fails, Refused, Next, Ends, Below}
use Rattle.guest_paging.specs.Walk.{entry_size, entry_at, place_of, is_page, broken_rule, passes_user, broken_at_page, page_address, at_page, next_table, entry_gives, level_gives, cut_address}
use Rattle.guest_paging.specs.Reference.{Kind, Met, Open, Made, entry_rules, page_rules, place, OfLevel, Meets}
use Rattle.guest_paging.proofs.WalkLaws.{level_past, level_within}
use Rattle.guest_paging.proofs.KindLaws.{Right, right_of}
use Rattle.guest_paging.proofs.RuleLaws.{passes_tells, entry_judged, all_judged}

-- ---- an entry, by the number of the rule that it breaks

ends_of : (c : Bool) (x y : Walked) → Ends (cond c x y) ≡ cond c (Ends x) (Ends y)
ends_of true x y = refl
ends_of false x y = refl

by_number : (r b : ℕ) (p : Bool) (w : ℕ) (n : Next) (l : ℕ)
    → cond (eqb r 0) (cond p (Ends (cond (eqb b 0) (Address w) (Fails l b))) n) (Ends (Fails l r))
    ≡ cond (eqb (or_else r (cond p b 0)) 0) (cond p (Ends (Address w)) n) (Ends (Fails l (or_else r (cond p b 0))))
unfolding or_else
by_number r b p w n l = go (eqb r 0) refl
  where
    page : (q : Bool) → cond q (Ends (cond (eqb b 0) (Address w) (Fails l b))) n ≡ cond (eqb (cond q b 0) 0) (cond q (Ends (Address w)) n) (Ends (Fails l (cond q b 0)))
    page true = ends_of (eqb b 0) (Address w) (Fails l b)
    page false = refl

    go : (t : Bool) → eqb r 0 ≡ t
        → cond t (cond p (Ends (cond (eqb b 0) (Address w) (Fails l b))) n) (Ends (Fails l r))
        ≡ cond (eqb (cond t (cond p b 0) r) 0) (cond p (Ends (Address w)) n) (Ends (Fails l (cond t (cond p b 0) r)))
    go true h = page p
    go false h = rw h

-- ---- the entries met so far

-- each lets the user in
abbrev pub opened : GuestPageWalkInfo → List Met → Bool
opened i [] = true
opened i (x ∷ xs) = opened i xs && passes_user i.level x.kind.level x.entry

-- the first of the seven rules that x breaks, after xs, or 0
abbrev pub number_at : GuestPageWalkInfo → ℕ → Met → List Met → ℕ
number_at i level x xs = or_else (broken_rule i level x.kind.page x.entry) (cond x.kind.page (broken_at_page i (opened i (x ∷ xs))) 0)

-- of a memory of bytes
module _ (m : List ℕ) (typed : BelowAll 256 m) (i : GuestPageWalkInfo) (a : ℕ) where
  module _ {k : Kind} {l : ℕ} (o : OfLevel m i a k l) where
    size_is : k.bytes ≡ entry_size i.level
    size_is = rw (← o.levels) (sym (right_of k o.listed).size)

    place_is : (t : ℕ) → place m i a k t ≡ place_of i.level l (cut_address i.level a) t
    place_is t = rw (← o.levels, ← o.level_is) (sym ((right_of k o.listed).placed a t))

    spells_as : (at : ℕ) → little_endian k.bytes (drop at m) ≡ entry_at m at i.level
    spells_as at = rw (← o.levels) (sym ((right_of k o.listed).spells m at))

    -- the bytes at the place of an entry, as the walk reads them
    pub spelt_at : (t : ℕ) → little_endian k.bytes (drop (place m i a k t) m) ≡ entry_at m (place_of i.level l (cut_address i.level a) t) i.level
    spelt_at t = spells_as (place m i a k t) ∙ ap (λ (at : ℕ). entry_at m at i.level) (place_is t)

    pub past_gives : (t : ℕ) (u : Bool) → length m < place m i a k t + k.bytes → level_gives m i (cut_address i.level a) l t u ≡ Ends (Refused 26)
    past_gives t u h = sym (level_past m i (cut_address i.level a) l t u (place_is t) size_is h)

  module _ {l t : ℕ} {x : Met} (w : Meets m i a l t x) where
    right : Right x.kind
    right = right_of x.kind w.of_level.listed

    pub entry_small : x.entry < 256 ^ x.kind.bytes
    entry_small = rw w.spelt (little_below x.kind.bytes (drop (place m i a x.kind t) m) (below_drop (place m i a x.kind t) m typed))

    pub page_is : is_page i.level l i.pse x.entry ≡ x.kind.page
    page_is = rw (← w.of_level.levels, ← w.of_level.level_is) (right.paged i.pse x.entry w.told)

    -- the number of the rule decides what the level gives
    pub met_gives : (xs : List Met)
        → level_gives m i (cut_address i.level a) l t (opened i xs)
        ≡ cond (eqb (number_at i l x xs) 0)
        (cond x.kind.page (Ends (Address (page_address i.level l x.entry (cut_address i.level a)))) (Below (next_table x.entry) (opened i (x ∷ xs))))
        (Ends (Fails l (number_at i l x xs)))
    unfolding entry_gives at_page
    met_gives xs =
        sym
        (level_within m i (cut_address i.level a) l t (opened i xs) (place_is w.of_level t) (size_is w.of_level) w.within (w.spelt ∙ spells_as w.of_level (place m i a x.kind t))
        refl)
        ∙ rw (page_is, w.of_level.level_is) (by_number (broken_rule i l x.kind.page x.entry) (broken_at_page i (opened i xs && passes_user i.level l x.entry)) x.kind.page (page_address i.level l x.entry (cut_address i.level a)) (Below (next_table x.entry) (opened i xs && passes_user i.level l x.entry)) l)

    pub opened_tells : (xs : List Met) → Tells (opened i xs) (Open xs) → Tells (opened i (x ∷ xs)) (Open (x ∷ xs))
    opened_tells xs t = tells_and t (passes_tells i x w.of_level.listed w.of_level.levels refl)

    pub met_judged : (xs : List Met) → Tells (opened i xs) (Open xs) → Refuses (entry_rules i x ++ page_rules i x xs) (number_at i l x xs)
    met_judged xs t = all_judged i x w.of_level.listed w.of_level.levels w.of_level.level_is xs (opened i (x ∷ xs)) (opened_tells xs t)

    pub met_alone : Refuses (entry_rules i x) (broken_rule i l x.kind.page x.entry)
    met_alone = entry_judged i x w.of_level.listed w.of_level.levels w.of_level.level_is

    pub page_made : x.kind.page ≡ true → Made x.kind.offset x.kind.pieces x.entry a (page_address i.level l x.entry (cut_address i.level a))
    page_made h =
        rw (← w.of_level.levels, ← w.of_level.level_is)
        (subst (λ (b : Bool). Made x.kind.offset x.kind.pieces x.entry (cond b a 0) (cond b (page_address x.kind.levels x.kind.level x.entry (cut_address x.kind.levels a)) (next_table x.entry)))
        h (right.makes x.entry a entry_small))

    pub page_alone : x.kind.page ≡ true → (p : ℕ) → Made x.kind.offset x.kind.pieces x.entry a p → p ≡ page_address i.level l x.entry (cut_address i.level a)
    page_alone h p d =
        rw (← w.of_level.levels, ← w.of_level.level_is)
        (subst (λ (b : Bool). Made x.kind.offset x.kind.pieces x.entry (cond b a 0) p → p ≡ cond b (page_address x.kind.levels x.kind.level x.entry (cut_address x.kind.levels a)) (next_table x.entry))
        h (right.alone x.entry a p entry_small) d)

    pub table_made : x.kind.page ≡ false → Made x.kind.offset x.kind.pieces x.entry 0 (next_table x.entry)
    table_made h =
        subst (λ (b : Bool). Made x.kind.offset x.kind.pieces x.entry (cond b a 0) (cond b (page_address x.kind.levels x.kind.level x.entry (cut_address x.kind.levels a)) (next_table x.entry)))
        h (right.makes x.entry a entry_small)

    pub table_alone : x.kind.page ≡ false → (p : ℕ) → Made x.kind.offset x.kind.pieces x.entry 0 p → p ≡ next_table x.entry
    table_alone h p d =
        subst (λ (b : Bool). Made x.kind.offset x.kind.pieces x.entry (cond b a 0) p → p ≡ cond b (page_address x.kind.levels x.kind.level x.entry (cut_address x.kind.levels a)) (next_table x.entry))
        h (right.alone x.entry a p entry_small) d
