-- What holds of every walk, over every memory, reading and address. Assumes nothing.
use Rattle.std.specs.Prelude.{ℕ, suc, ◌%◌, ◌^◌, ◌≤◌, ◌<◌, ◌≡◌, ◌⊎◌, ◌≢◌, true, List, ◌++◌, length}
use Rattle.vcpu_readings.specs.declared.GuestPageWalkInfo.{GuestPageWalkInfo}
use Rattle.guest_paging.specs.Walk.{page_walk_of}
use Rattle.guest_paging.specs.Reference.{Met, Meets, Path, Outcome}
use Rattle.guest_paging.specs.Walked.{Walked, Address, Refused}

-- how many levels a reading may have: none without paging, else those of 32-bit, PAE and 4-level paging
abbrev pub Levels : ℕ → Type 0
Levels n = (n ≡ 0) ⊎ (n ≡ 2) ⊎ (n ≡ 3) ⊎ (n ≡ 4)

-- what the reading of every session has: these levels, and bit 7 is judged but for 32-bit paging, where CR4.PSE says so
pub record Reads (i : GuestPageWalkInfo) : Type 0 where
  pub levels : Levels i.level
  pub judged : i.level ≢ 2 → i.pse ≡ true

pub record Walks (memory : List ℕ) (i : GuestPageWalkInfo) (address : ℕ) : Type 0 where
  -- the walk's answer is an outcome, and there is no other outcome: each answer is given exactly where the statement says
  pub answered : Outcome memory i address (page_walk_of memory i address)
  pub alone : (w : Walked) → Outcome memory i address w → w ≡ page_walk_of memory i address
  -- a longer memory with the same bytes first changes no answer but 26
  pub longer : (more : List ℕ) → page_walk_of memory i address ≢ Refused 26 → page_walk_of (memory ++ more) i address ≡ page_walk_of memory i address
  -- with paging on, an answered address is below 2 ^ 52 and has the low 12 bits of the virtual one
  pub bounded : i.level ≢ 0 → (p : ℕ) → page_walk_of memory i address ≡ Address p → (p < 2 ^ 52) × (p % 2 ^ 12 ≡ address % 2 ^ 12)
  -- the entries met, the one that a path leads to included, are at most as many as the levels
  pub entries : (path : List Met) (level t : ℕ) (x : Met) → Path memory i address path level t → Meets memory i address level t x → suc (length path) ≤ i.level
