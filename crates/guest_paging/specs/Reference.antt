-- What a walk of the guest's page tables answers, said without the walk: by the manual's tables of entries (SDM 3A, tables 4-4 to 4-6, 4-8 to 4-11 and 4-15 to 4-20), by the
-- rules in their order, and by paths of entries. It shares with the definition of the walk only how bytes spell a number. Assumes nothing.
use Rattle.std.specs.Prelude.{ℕ, zero, suc, ◌+◌, ◌-◌, ◌*◌, ◌/◌, ◌%◌, ◌^◌, ◌≤◌, ◌<◌, ◌≡◌, ◌⊎◌, ◌≢◌, Bool, true, false, cond, List, [], ◌∷◌, ◌++◌, length, drop}
use Rattle.bits.specs.Words.{bit}
use Rattle.bits.specs.LittleEndian.{little_endian}
use Rattle.bits.specs.Refuses.{Rule, by, Refuses}
use Rattle.vcpu_readings.specs.declared.GuestPageWalkInfo.{GuestPageWalkInfo}
use Rattle.guest_paging.specs.Walked.{Walked, Address, Fails, Refused}

-- ---- bits of a number

-- the number in bits first to last
abbrev pub field : ℕ → ℕ → ℕ → ℕ
field first last x = x / 2 ^ first % 2 ^ (suc last - first)

abbrev from : ℕ → ℕ → List ℕ
from first zero = []
from first (suc n) = first ∷ from (suc first) n

-- the numbers first to last
abbrev pub through : ℕ → ℕ → List ℕ
through first last = from first (suc last - first)

-- one of these bits is 1
abbrev pub OneSet : List ℕ → ℕ → Type 0
OneSet [] x = ⊥
OneSet (k ∷ ks) x = (bit k x ≡ true) ⊎ OneSet ks x

-- ---- the kinds of entries

-- bits first to last of an address are those of an entry (or of CR3), from bit source on
pub record Piece : Type 0 where
  pub first : ℕ
  pub last : ℕ
  pub source : ℕ

abbrev pub piece : ℕ → ℕ → ℕ → Piece
piece first last source = record { first = first; last = last; source = source }

-- no bit is set from bit top on, but for the pieces
abbrev pub Filled : ℕ → List Piece → ℕ → ℕ → Type 0
Filled top [] e p = p < 2 ^ top
Filled top (c ∷ cs) e p = (field c.first c.last p ≡ field c.source (c.source + (c.last - c.first)) e) × Filled (suc c.last) cs e p

-- p has the lowest bits, offset of them, of a, and above them the pieces of e
abbrev pub Made : ℕ → List Piece → ℕ → ℕ → ℕ → Type 0
Made offset pieces e a p = (p % 2 ^ offset ≡ a % 2 ^ offset) × Filled offset pieces e p

-- what tells an entry's kind from another of its level: nothing, since there is one alone; or that bit 7 is set and judged, or not
pub data Told : Type 0 where
  always : Told
  large : Told
  small : Told

-- bit 7 is judged with 2 levels only if CR4.PSE is set (with 3 and 4 the reading's PSE is yes)
abbrev pub IsTold : Told → Bool → ℕ → Type 0
IsTold always pse e = Unit {0}
IsTold large pse e = (pse ≡ true) × (bit 7 e ≡ true)
IsTold small pse e = ((pse ≡ true) × (bit 7 e ≡ true)) → ⊥

pub record Kind : Type 0 where
  -- of how many levels, and at which
  pub levels : ℕ
  pub level : ℕ
  pub told : Told
  -- it maps a page, or leads to a table
  pub page : Bool
  -- the address bits that index its table, and the bytes of an entry
  pub first : ℕ
  pub last : ℕ
  pub bytes : ℕ
  -- it has the bits 1 (writable), 2 (user) and 63 (execute disable)
  pub rights : Bool
  -- its reserved bits, and those that are reserved while NXE is clear
  pub reserved : List ℕ
  pub without_nxe : List ℕ
  -- the address of the page or of the table: how many bits it leaves open, and the pieces of the entry above them
  pub offset : ℕ
  pub pieces : List Piece

abbrev pub kind : ℕ → ℕ → Told → Bool → ℕ → ℕ → ℕ → Bool → List ℕ → List ℕ → ℕ → List Piece → Kind
kind levels level told page first last bytes rights reserved without_nxe offset pieces =
    record {
      levels = levels;
      level = level;
      told = told;
      page = page;
      first = first;
      last = last;
      bytes = bytes;
      rights = rights;
      reserved = reserved;
      without_nxe = without_nxe;
      offset = offset;
      pieces = pieces;
    }

-- the numbers of a row, in the order of Kind: levels and level, how told, whether a page; index bits, bytes; whether rights, reserved bits, those while NXE is clear; open bits and pieces
abbrev pub kinds : List Kind
kinds =
    -- 32-bit paging: a page-directory entry that maps a 4-MByte page (table 4-4), one that leads to a page table (4-5), a page-table entry (4-6)
    kind 2 2 large true 22 31 4 true (21 ∷ []) [] 22 (piece 22 31 22 ∷ piece 32 39 13 ∷ [])
    ∷ kind 2 2 small false 22 31 4 true [] [] 12 (piece 12 31 12 ∷ [])
    ∷ kind 2 1 always true 12 21 4 true [] [] 12 (piece 12 31 12 ∷ [])
    -- PAE paging: a page-directory-pointer-table entry (4-8), a page-directory entry that maps a 2-MByte page (4-9), one that leads to a page table (4-10), a page-table entry (4-11)
    ∷ kind 3 3 always false 30 31 8 false (1 ∷ 2 ∷ through 5 8 ++ through 52 63) [] 12 (piece 12 51 12 ∷ [])
    ∷ kind 3 2 large true 21 29 8 true (through 13 20 ++ through 52 62) (63 ∷ []) 21 (piece 21 51 21 ∷ [])
    ∷ kind 3 2 small false 21 29 8 true (through 52 62) (63 ∷ []) 12 (piece 12 51 12 ∷ [])
    ∷ kind 3 1 always true 12 20 8 true (through 52 62) (63 ∷ []) 12 (piece 12 51 12 ∷ [])
    -- 4-level paging: a PML4 entry (4-15), a page-directory-pointer-table entry that maps a 1-GByte page (4-16), one that leads to a page directory (4-17), a page-directory entry that maps
    -- a 2-MByte page (4-18), one that leads to a page table (4-19), a page-table entry (4-20)
    ∷ kind 4 4 always false 39 47 8 true (7 ∷ []) (63 ∷ []) 12 (piece 12 51 12 ∷ [])
    ∷ kind 4 3 large true 30 38 8 true (through 13 29) (63 ∷ []) 30 (piece 30 51 30 ∷ [])
    ∷ kind 4 3 small false 30 38 8 true [] (63 ∷ []) 12 (piece 12 51 12 ∷ [])
    ∷ kind 4 2 large true 21 29 8 true (through 13 20) (63 ∷ []) 21 (piece 21 51 21 ∷ [])
    ∷ kind 4 2 small false 21 29 8 true [] (63 ∷ []) 12 (piece 12 51 12 ∷ [])
    ∷ kind 4 1 always true 12 20 8 true [] (63 ∷ []) 12 (piece 12 51 12 ∷ [])
    ∷ []

abbrev pub Listed : Kind → List Kind → Type 0
Listed k [] = ⊥
Listed k (x ∷ xs) = (k ≡ x) ⊎ Listed k xs

-- ---- the rules

-- an entry that is met, and its kind
pub record Met : Type 0 where
  pub kind : Kind
  pub entry : ℕ

-- every entry that has rights has bit 2, user
abbrev pub Open : List Met → Type 0
Open [] = Unit {0}
Open (x ∷ xs) = Open xs × (x.kind.rights ≡ true → bit 2 x.entry ≡ true)

-- 1 not present, 2 reserved bit, 3 user, 4 write, 5 execute
abbrev pub entry_rules : GuestPageWalkInfo → Met → List Rule
entry_rules i x =
    by 1 (bit 0 x.entry ≡ false) ∷
    by 2 (OneSet (cond i.nxe x.kind.reserved (x.kind.reserved ++ x.kind.without_nxe)) x.entry) ∷
    by 3 ((x.kind.rights ≡ true) × ((i.is_user_mode_access ≡ true) × (bit 2 x.entry ≡ false))) ∷
    by 4
    ((x.kind.rights ≡ true) × ((i.is_write_access ≡ true) × ((bit 1 x.entry ≡ false) × ((i.is_user_mode_access ≡ true) ⊎ (i.wp ≡ true))))) ∷
    by 5 ((x.kind.rights ≡ true) × ((i.is_inst_fetch ≡ true) × ((i.nxe ≡ true) × (bit 63 x.entry ≡ true)))) ∷
    []

-- 6 SMEP, 7 SMAP, at a page and by all entries met; AC counts as clear
abbrev pub page_rules : GuestPageWalkInfo → Met → List Met → List Rule
page_rules i x xs =
    by 6 ((x.kind.page ≡ true) × ((i.is_user_mode_access ≡ false) × (Open (x ∷ xs) × ((i.is_inst_fetch ≡ true) × (i.is_smep_on ≡ true))))) ∷
    by 7 ((x.kind.page ≡ true) × ((i.is_user_mode_access ≡ false) × (Open (x ∷ xs) × ((i.is_inst_fetch ≡ false) × (i.is_smap_on ≡ true))))) ∷
    []

-- ---- paths

-- of a memory, a reading and an address
module _ (memory : List ℕ) (i : GuestPageWalkInfo) (address : ℕ) where
  -- where the entry of a kind lies in the table at t
  abbrev pub place : Kind → ℕ → ℕ
  place k t = t + k.bytes * field k.first k.last address

  -- the kind is of this level of the reading's tables
  pub record OfLevel (k : Kind) (level : ℕ) : Type 0 where
    pub listed : Listed k kinds
    pub levels : k.levels ≡ i.level
    pub level_is : k.level ≡ level

  -- x is the entry of the table at t of a level
  pub record Meets (level t : ℕ) (x : Met) : Type 0 where
    pub of_level : OfLevel x.kind level
    pub told : IsTold x.kind.told i.pse x.entry
    pub within : place x.kind t + x.kind.bytes ≤ length memory
    pub spelt : x.entry ≡ little_endian x.kind.bytes (drop (place x.kind t) memory)

  -- the top table: of CR3 bits 12 to 51 with 4 levels, 5 to 31 with 3, 12 to 31 with 2
  pub record Top (t : ℕ) : Type 0 where
    pub four : i.level ≡ 4 → Made 12 (piece 12 51 12 ∷ []) i.top_entry 0 t
    pub three : i.level ≡ 3 → Made 5 (piece 5 31 5 ∷ []) i.top_entry 0 t
    pub two : i.level ≡ 2 → Made 12 (piece 12 31 12 ∷ []) i.top_entry 0 t

  -- the entries met, the last first, lead to the table at t of a level: each breaks no rule, maps no page, and has the address of the next table
  abbrev pub Path : List Met → ℕ → ℕ → Type 0
  Path [] level t = (level ≡ i.level) × Top t
  Path (x ∷ xs) level t =
      (above : ℕ) × (Path xs (suc level) above × (Meets (suc level) above x × ((x.kind.page ≡ false) × (Refuses (entry_rules i x) 0 × Made x.kind.offset x.kind.pieces x.entry 0 t))))

  -- a path leads to the entry x of a level, and r is the number of the first rule that it breaks, or 0
  pub record Judged (level r : ℕ) (x : Met) : Type 0 where
    pub path : List Met
    pub table : ℕ
    pub leads : Path path level table
    pub meets : Meets level table x
    pub judged : Refuses (entry_rules i x ++ page_rules i x path) r

  -- what may be answered
  pub data Outcome : Walked → Type 0 where
    -- without paging
    itself : i.level ≡ 0 → Outcome (Address address)
    -- a path leads to an entry that breaks none of the seven rules and maps the page that p lies in
    reaches : (level : ℕ) (x : Met) (p : ℕ) → Judged level 0 x → x.kind.page ≡ true → Made x.kind.offset x.kind.pieces x.entry address p → Outcome (Address p)
    -- a path leads to an entry of the level, and r is the first rule that it breaks
    fails : (level r : ℕ) (x : Met) → Judged level r x → r ≢ 0 → Outcome (Fails level r)
    -- a path leads to an entry that is not whole in memory
    past : (path : List Met) (level t : ℕ) (k : Kind) → Path path level t → OfLevel k level → length memory < place k t + k.bytes → Outcome (Refused 26)
