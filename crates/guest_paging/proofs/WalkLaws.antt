-- Laws of the walk's definitions. Assumes nothing.
use mathlib.Core.Path.{◌≡◌, refl}
use mathlib.Core.Bool.{Bool, true, false, cond}
use mathlib.Core.List.{List}
use Prim.Native.Nat.{ℕ, zero, suc, ◌+◌, ◌-◌, ◌/◌, ◌%◌, ◌^◌, ◌≤◌, ◌<◌}
use native.Mathlib.Omega.{arith}
use borrow.Author.Tests.{lt-ltb, le-ltb, eq-eqb, ne_eqb}
use mathlib.Core.Logic.{◌≢◌}
use lib.Bits.{bit_and}
use lib.Dec.{eqb, ltb}
use lib.ListN.{length}
use Rattle.vcpu_readings.specs.declared.GuestPageWalkInfo.{GuestPageWalkInfo}
use Rattle.guest_paging.specs.Entry as Entry
use Rattle.guest_paging.specs.Rule as Rule
use Rattle.guest_paging.specs.Walked.{Walked, Refused, Next, Ends, Below}
use Rattle.guest_paging.specs.Walk.{entry_size, entry_at, is_page, is_pae_top, reserved_bits, broken_right, broken_rule, next_table, place_of, entry_gives, level_gives, gone_on, walk_from}

-- ---- the first rule that an entry breaks, by the answers of its parts

module _ (i : GuestPageWalkInfo) (level : ℕ) (page : Bool) (e : ℕ) where
  pub rule_absent : e / 2 ^ Entry.P % 2 ≡ 0 → Rule.NOT_PRESENT ≡ broken_rule i level page e
  unfolding broken_rule
  rule_absent h = rw (eq-eqb (e / 2 ^ Entry.P % 2) 0 h)

  module _ (present : e / 2 ^ Entry.P % 2 ≢ 0) {m : ℕ} (bits : m ≡ reserved_bits i.level level page i.nxe) where
    pub rule_reserved : bit_and e m ≢ 0 → Rule.RESERVED ≡ broken_rule i level page e
    unfolding broken_rule
    rule_reserved h = rw (ne_eqb (e / 2 ^ Entry.P % 2) 0 present, ← bits, ne_eqb (bit_and e m) 0 h)

    module _ (clear : bit_and e m ≡ 0) {t : Bool} (top : t ≡ is_pae_top i.level level) where
      pub rule_none : t ≡ true → 0 ≡ broken_rule i level page e
      unfolding broken_rule
      rule_none h = rw (ne_eqb (e / 2 ^ Entry.P % 2) 0 present, ← bits, eq-eqb (bit_and e m) 0 clear, ← top, h)

      pub rule_right : t ≡ false → {r : ℕ} → r ≡ broken_right i e → r ≡ broken_rule i level page e
      unfolding broken_rule
      rule_right h {r} right = rw (ne_eqb (e / 2 ^ Entry.P % 2) 0 present, ← bits, eq-eqb (bit_and e m) 0 clear, ← top, h) right

-- ---- one level

module _ (memory : List ℕ) (i : GuestPageWalkInfo) (address level table : ℕ) (user : Bool) {at : ℕ} (place : at ≡ place_of i.level level address table) where
  pub level_past : {size : ℕ} → size ≡ entry_size i.level → length memory < at + size → Ends (Refused 26) ≡ level_gives memory i address level table user
  unfolding level_gives
  level_past {size} sized h = rw (← place, ← sized, lt-ltb (length memory) (at + size) h)

  pub level_within : {size : ℕ} → size ≡ entry_size i.level → at + size ≤ length memory → {e : ℕ} → e ≡ entry_at memory at i.level → {s : Next} → s ≡ entry_gives i address level user e
      → s ≡ level_gives memory i address level table user
  unfolding level_gives
  level_within {size} sized h {e} entry {s} gives = rw (← place, ← sized, le-ltb (length memory) (at + size) h, ← entry, gives)

-- ---- a level below another: there is one, and its table lies below 2 ^ 52

below_of : (b c d : Bool) (x y z : Walked) (n t : ℕ) (v u : Bool) → cond b (Ends x) (cond c (cond d (Ends y) (Below n v)) (Ends z)) ≡ Below t u → (d ≡ false) × (n ≡ t)
below_of true c d x y z n t v u h = let o : ◌≡◌ {A = ℕ} 0 1 = cc in absurd (omega arith)
below_of false false d x y z n t v u h = let o : ◌≡◌ {A = ℕ} 0 1 = cc in absurd (omega arith)
below_of false true true x y z n t v u h = let o : ◌≡◌ {A = ℕ} 0 1 = cc in absurd (omega arith)
below_of false true false x y z n t v u h = (refl, cc)

no_page_above : (levels level : ℕ) (pse : Bool) (e : ℕ) → 1 ≤ level → is_page levels level pse e ≡ false → 2 ≤ level
unfolding is_page
no_page_above levels zero pse e h f = absurd (omega arith)
no_page_above levels (suc zero) pse e h f = let o : ◌≡◌ {A = ℕ} 0 1 = cc in absurd (omega arith)
no_page_above levels (suc (suc n)) pse e h f = omega arith

pub level_below : (memory : List ℕ) (i : GuestPageWalkInfo) (address level table : ℕ) (user : Bool) {t : ℕ} {u : Bool} → 1 ≤ level
    → level_gives memory i address level table user ≡ Below t u → (2 ≤ level) × (t < 2 ^ 52)
unfolding level_gives entry_gives
level_below memory i address level table user {t} {u} h e =
    let x = entry_at memory (place_of i.level level address table) i.level in
    let b = below_of (ltb (length memory) (place_of i.level level address table + entry_size i.level)) (eqb (broken_rule i level (is_page i.level level i.pse x) x) 0) (is_page i.level level i.pse x) _ _ _ (next_table x) t _ u e in
    (no_page_above i.level level i.pse x h b.0, omega (arith, b.1))

-- ---- the walk

pub walk_step : (memory : List ℕ) (i : GuestPageWalkInfo) (address level table : ℕ) (user : Bool) → 1 ≤ level
    → walk_from memory i address level table user ≡ gone_on (level_gives memory i address level table user) (λ t u. walk_from memory i address (level - 1) t u)
unfolding walk_from
walk_step memory i address zero table user h = absurd (omega arith)
walk_step memory i address (suc n) table user h = let e : suc n - 1 ≡ n = omega arith in rw e
