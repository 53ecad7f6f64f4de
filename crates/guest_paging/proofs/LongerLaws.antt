-- A longer memory with the same bytes first changes no answer but 26. Assumes nothing.
use Prim.Native.Nat.{ℕ, zero, suc, ◌+◌, ◌≤◌}
use mathlib.Core.Path.{◌≡◌, refl, ap}
use mathlib.Core.Bool.{Bool, true, false, cond}
use mathlib.Core.List.{List, ◌++◌}
use mathlib.Core.Logic.{◌≢◌}
use native.Mathlib.Omega.{arith}
use borrow.Author.Tests.{ltb-false, le-ltb}
use lib.Dec.{eqb, ltb}
use lib.ListN.{length, drop}
use Rattle.std.proofs.lemmas.List.{take-append-le, drop-append-le, length-append, length-drop}
use Rattle.bits.specs.LittleEndian.{little_endian}
use Rattle.vcpu_readings.specs.declared.GuestPageWalkInfo.{GuestPageWalkInfo}
use Rattle.guest_paging.specs.Walked.{Walked, Address, Refused, Next, Ends, Below}
use Rattle.guest_paging.specs.Walk.{entry_size, entry_at, place_of, entry_gives, level_gives, gone_on, walk_from, cut_address, top_table, page_walk_of}

part_more : (k at : ℕ) (m more : List ℕ) → at + k ≤ length m → little_endian k (drop at (m ++ more)) ≡ little_endian k (drop at m)
part_more k at m more h = rw (drop-append-le at m more (omega arith), take-append-le k (drop at m) more (omega (arith, length-drop at m)))

entry_more : (m more : List ℕ) (at levels : ℕ) → at + entry_size levels ≤ length m → entry_at (m ++ more) at levels ≡ entry_at m at levels
unfolding entry_at entry_size
entry_more m more at levels = go (eqb levels 2)
  where
    go : (b : Bool) → at + cond b 4 8 ≤ length m
        → cond b (little_endian 4 (drop at (m ++ more))) (little_endian 8 (drop at (m ++ more))) ≡ cond b (little_endian 4 (drop at m)) (little_endian 8 (drop at m))
    go true h = part_more 4 at m more h
    go false h = part_more 8 at m more h

level_more : (m more : List ℕ) (i : GuestPageWalkInfo) (a l t : ℕ) (u : Bool) → level_gives m i a l t u ≢ Ends (Refused 26) → level_gives (m ++ more) i a l t u ≡ level_gives m i a l t u
unfolding level_gives
level_more m more i a l t u = go (ltb (length m) (place_of i.level l a t + entry_size i.level)) refl
  where
    at : ℕ
    at = place_of i.level l a t

    go : (b : Bool) → ltb (length m) (at + entry_size i.level) ≡ b
        → cond b (Ends (Refused 26)) (entry_gives i a l u (entry_at m at i.level)) ≢ Ends (Refused 26)
        → cond (ltb (length (m ++ more)) (at + entry_size i.level)) (Ends (Refused 26)) (entry_gives i a l u (entry_at (m ++ more) at i.level))
        ≡ cond b (Ends (Refused 26)) (entry_gives i a l u (entry_at m at i.level))
    go true h n = absurd (n refl)
    go false h n =
        let k = ltb-false (length m) (at + entry_size i.level) h in
        rw (le-ltb (length (m ++ more)) (at + entry_size i.level) (omega (arith, k, length-append m more)), entry_more m more at i.level k)

-- of two steps with the same answer, the second is the first, or goes on as it does
gone_on_lem : (s : Next) (f g : ℕ → Bool → Walked) → ((t : ℕ) (u : Bool) → f t u ≢ Refused 26 → g t u ≡ f t u) → gone_on s f ≢ Refused 26 → gone_on s g ≡ gone_on s f
gone_on_lem (Ends w) f g same n = refl
gone_on_lem (Below t u) f g same n = same t u n

not_past : (s : Next) (f : ℕ → Bool → Walked) → gone_on s f ≢ Refused 26 → s ≢ Ends (Refused 26)
not_past s f n e = n (ap (λ (x : Next). gone_on x f) e)

walk_more : (m more : List ℕ) (i : GuestPageWalkInfo) (a l t : ℕ) (u : Bool) → walk_from m i a l t u ≢ Refused 26 → walk_from (m ++ more) i a l t u ≡ walk_from m i a l t u
unfolding walk_from
walk_more m more i a zero t u n = refl
walk_more m more i a (suc l) t u n =
    let below : ℕ → Bool → Walked = λ t u. walk_from m i a l t u in
    rw (level_more m more i a (suc l) t u (not_past (level_gives m i a (suc l) t u) below n))
    (gone_on_lem (level_gives m i a (suc l) t u) below (λ t u. walk_from (m ++ more) i a l t u) (λ t u. walk_more m more i a l t u) n)

pub longer : (m more : List ℕ) (i : GuestPageWalkInfo) (a : ℕ) → page_walk_of m i a ≢ Refused 26 → page_walk_of (m ++ more) i a ≡ page_walk_of m i a
unfolding page_walk_of
longer m more i a = go (eqb i.level 0)
  where
    walk : List ℕ → Walked
    walk b = walk_from b i (cut_address i.level a) i.level (top_table i.level i.top_entry) true

    go : (b : Bool) → cond b (Address a) (walk m) ≢ Refused 26 → cond b (Address a) (walk (m ++ more)) ≡ cond b (Address a) (walk m)
    go true n = refl
    go false n = walk_more m more i (cut_address i.level a) i.level (top_table i.level i.top_entry) true n
