-- The walk of the guest's page tables (document 02, N6; SDM 3A, 4.3 to 4.6), with physical addresses of 52 bits. Assumes nothing.
use Rattle.std.specs.Prelude.{ℕ, zero, suc, ◌+◌, ◌-◌, ◌*◌, ◌/◌, ◌%◌, ◌^◌, Bool, true, cond, not, ◌&&◌, ◌||◌, List, eqb, ltb, length, drop}
use Rattle.std.specs.Int.Bits.{bit_and, bit_or}
use Rattle.bits.specs.Words.{bit}
use Rattle.bits.specs.LittleEndian.{little_endian}
use Rattle.vcpu_readings.specs.declared.GuestPageWalkInfo.{GuestPageWalkInfo}
use Rattle.guest_paging.specs.Access as Access
use Rattle.guest_paging.specs.Rule as Rule
use Rattle.guest_paging.specs.Entry as Entry
use Rattle.guest_paging.specs.Walked.{Walked, Address, Fails, Refused, Next, Ends, Below}

-- a reading for a kind of access: its write and fetch, which are no, give way to the kind
abbrev pub for_access : GuestPageWalkInfo → ℕ → GuestPageWalkInfo
for_access i kind =
    record {
      top_entry = i.top_entry;
      level = i.level;
      width = i.width;
      is_user_mode_access = i.is_user_mode_access;
      is_write_access = eqb kind Access.WRITE;
      is_inst_fetch = eqb kind Access.FETCH;
      pse = i.pse;
      wp = i.wp;
      nxe = i.nxe;
      is_smap_on = i.is_smap_on;
      is_smep_on = i.is_smep_on;
    }

-- ---- where an entry lies

-- 4 bytes with 2 levels, else 8
unfoldable pub entry_size : ℕ → ℕ
entry_size levels = cond (eqb levels 2) 4 8

-- 10 bits of the address at each level of 2, 9 at each of 3 and 4 (of 3, the top has 2 left)
unfoldable pub index_of : ℕ → ℕ → ℕ → ℕ
index_of levels level address =
    cond (eqb levels 2)
    (cond (eqb level 2) (address / 2 ^ 22 % 1024) (address / 2 ^ 12 % 1024))
    (cond (eqb level 4) (address / 2 ^ 39 % 512)
    (cond (eqb level 3) (address / 2 ^ 30 % 512)
    (cond (eqb level 2) (address / 2 ^ 21 % 512) (address / 2 ^ 12 % 512))))

unfoldable pub place_of : ℕ → ℕ → ℕ → ℕ → ℕ
place_of levels level address table = cond (eqb levels 2) (table + index_of levels level address * 4) (table + index_of levels level address * 8)

unfoldable pub entry_at : List ℕ → ℕ → ℕ → ℕ
entry_at memory at levels = cond (eqb levels 2) (little_endian 4 (drop at memory)) (little_endian 8 (drop at memory))

-- ---- what an entry says

-- the entry maps a page: always at level 1; by PS at level 2 and at level 3 of 4 (with 2 levels the reading's PSE is CR4.PSE, else it is yes)
unfoldable pub is_page : ℕ → ℕ → Bool → ℕ → Bool
is_page levels level pse e = eqb level 1 || ((eqb level 2 || (eqb level 3 && eqb levels 4)) && pse && bit Entry.PS e)

-- an entry of PAE's top table, which has no rights
unfoldable pub is_pae_top : ℕ → ℕ → Bool
is_pae_top levels level = eqb levels 3 && eqb level 3

-- the word with bits first to last
abbrev through : ℕ → ℕ → ℕ
through first last = 2 ^ (last + 1) - 2 ^ first

-- above the address: bit 63 without NXE, and with 3 levels bits 52 to 62
unfoldable pub reserved_high : ℕ → Bool → ℕ
reserved_high levels nxe = cond (eqb levels 3) (cond nxe (through 52 62) (through 52 63)) (cond nxe 0 (2 ^ Entry.XD))

-- below the address: PS at level 4, bits 13 to 29 of a page of 1 GByte, bits 13 to 20 of one of 2 MBytes
unfoldable pub reserved_low : ℕ → Bool → ℕ
reserved_low level page =
    cond (eqb level 4) (2 ^ Entry.PS)
    (cond (not page) 0
    (cond (eqb level 3) (through 13 29)
    (cond (eqb level 2) (through 13 20) 0)))

-- the bits that must be 0, with 52 physical bits (SDM 3A, tables 4-4 to 4-20): with 2 levels bit 21 of a page of 4 MBytes; in PAE's top table bits 1, 2, 5 to 8 and 52 to 63
unfoldable pub reserved_bits : ℕ → ℕ → Bool → Bool → ℕ
reserved_bits levels level page nxe =
    cond (eqb levels 2) (cond (eqb level 2 && page) (2 ^ 21) 0)
    (cond (is_pae_top levels level) (through 1 2 + through 5 8 + through 52 63)
    (bit_or (reserved_high levels nxe) (reserved_low level page)))

-- the first of the rules on rights that an entry breaks, or 0
unfoldable pub broken_right : GuestPageWalkInfo → ℕ → ℕ
broken_right i e =
    cond (i.is_user_mode_access && eqb (e / 2 ^ Entry.US % 2) 0) Rule.USER
    (cond (i.is_write_access && eqb (e / 2 ^ Entry.RW % 2) 0 && (i.is_user_mode_access || i.wp)) Rule.WRITE
    (cond (i.is_inst_fetch && i.nxe && bit Entry.XD e) Rule.EXECUTE
    0))

-- the first rule that an entry breaks by itself, or 0
unfoldable pub broken_rule : GuestPageWalkInfo → ℕ → Bool → ℕ → ℕ
broken_rule i level page e =
    cond (eqb (e / 2 ^ Entry.P % 2) 0) Rule.NOT_PRESENT
    (cond (not (eqb (bit_and e (reserved_bits i.level level page i.nxe)) 0)) Rule.RESERVED
    (cond (is_pae_top i.level level) 0
    (broken_right i e)))

unfoldable pub passes_user : ℕ → ℕ → ℕ → Bool
passes_user levels level e = is_pae_top levels level || bit Entry.US e

-- ---- at the page

-- a supervisor's access to a page that every level opens to the user
unfoldable pub broken_at_page : GuestPageWalkInfo → Bool → ℕ
broken_at_page i user =
    cond (i.is_user_mode_access || not user) 0
    (cond i.is_inst_fetch (cond i.is_smep_on Rule.SMEP 0)
    (cond i.is_smap_on Rule.SMAP 0))

-- 4 KBytes at level 1, 4 MBytes with bits 32 to 39 in bits 13 to 20 (PSE-36) or 2 MBytes at level 2, 1 GByte at level 3
unfoldable pub page_address : ℕ → ℕ → ℕ → ℕ → ℕ
page_address levels level e address =
    cond (eqb level 1) (e / 2 ^ 12 % 0x100_0000_0000 * 0x1000 + address % 0x1000)
    (cond (eqb level 2)
    (cond (eqb levels 2) (e / 2 ^ 13 % 256 * 0x1_0000_0000 + e / 2 ^ 22 % 1024 * 0x40_0000 + address % 0x40_0000)
    (e / 2 ^ 21 % 0x8000_0000 * 0x20_0000 + address % 0x20_0000))
    (e / 2 ^ 30 % 0x40_0000 * 0x4000_0000 + address % 0x4000_0000))

unfoldable pub at_page : GuestPageWalkInfo → ℕ → ℕ → ℕ → Bool → Walked
at_page i address level e user =
    cond (eqb (broken_at_page i user) 0) (Address (page_address i.level level e address)) (Fails level (broken_at_page i user))

-- ---- the walk

-- bits 12 to 51, of which a 4-byte entry has those to 31
abbrev pub next_table : ℕ → ℕ
next_table e = e / 2 ^ 12 % 0x100_0000_0000 * 0x1000

-- an entry e of a level: the first rule that it breaks; else the page that it maps; else the table below
unfoldable pub entry_gives : GuestPageWalkInfo → ℕ → ℕ → Bool → ℕ → Next
entry_gives i address level user e =
    cond (eqb (broken_rule i level (is_page i.level level i.pse e) e) 0)
    (cond (is_page i.level level i.pse e) (Ends (at_page i address level e (user && passes_user i.level level e)))
    (Below (next_table e) (user && passes_user i.level level e)))
    (Ends (Fails level (broken_rule i level (is_page i.level level i.pse e) e)))

-- 26: the entry lies past the end of memory
unfoldable pub level_gives : List ℕ → GuestPageWalkInfo → ℕ → ℕ → ℕ → Bool → Next
level_gives memory i address level table user =
    cond (ltb (length memory) (place_of i.level level address table + entry_size i.level)) (Ends (Refused 26))
    (entry_gives i address level user (entry_at memory (place_of i.level level address table) i.level))

-- the end, or else the walk of the table below
abbrev pub gone_on : Next → (ℕ → Bool → Walked) → Walked
gone_on (Ends w) below = w
gone_on (Below table user) below = below table user

-- from the table of a level down: each level takes the table below it until a page is met (level 0 has no table, and is not reached)
unfoldable pub walk_from : List ℕ → GuestPageWalkInfo → ℕ → ℕ → ℕ → Bool → Walked
walk_from memory i address zero table user = Refused 26
walk_from memory i address (suc below) table user = gone_on (level_gives memory i address (suc below) table user) (λ t u. walk_from memory i address below t u)

-- of CR3 bits 12 to 51 with 4 levels, 5 to 31 with 3, 12 to 31 with 2
unfoldable pub top_table : ℕ → ℕ → ℕ
top_table levels cr3 =
    cond (eqb levels 4) (cr3 / 2 ^ 12 % 0x100_0000_0000 * 0x1000)
    (cond (eqb levels 3) (cr3 / 2 ^ 5 % 0x800_0000 * 0x20)
    (cr3 / 2 ^ 12 % 0x10_0000 * 0x1000))

unfoldable pub cut_address : ℕ → ℕ → ℕ
cut_address levels address = cond (eqb levels 4) (address % 0x1_0000_0000_0000) (address % 0x1_0000_0000)

-- without paging the address itself
unfoldable pub page_walk_of : List ℕ → GuestPageWalkInfo → ℕ → Walked
page_walk_of memory i address =
    cond (eqb i.level 0) (Address address)
    (walk_from memory i (cut_address i.level address) i.level (top_table i.level i.top_entry) true)
