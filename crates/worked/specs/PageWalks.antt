-- The cases that document 02, N6, has worked by hand: each with what the definitions give, and what it should be. A memory is 0 but for its named words. Assumes nothing.
use Rattle.std.specs.Prelude.{ℕ, ◌+◌, ◌-◌, List, [], ◌∷◌, ◌++◌, replicate}
use Rattle.bits.specs.LittleEndian.{bytes_of}
use Rattle.vcpu_readings.specs.declared.PagingWords.{PagingWords}
use Rattle.vcpu_readings.specs.Readings.{page_walk}
use Rattle.guest_paging.specs.Access as Access
use Rattle.guest_paging.specs.Walk.{for_access, page_walk_of}
use Rattle.guest_paging.specs.Walked.{Walked, Address, Fails, Refused}

-- a word of 8 bytes and its place
pub record Word : Type 0 where
  pub at : ℕ
  pub value : ℕ

abbrev word : ℕ → ℕ → Word
word at value = record { at = at; value = value }

-- from an address to an end, the words in ascending order
abbrev filled : ℕ → List Word → ℕ → List ℕ
filled from [] end = replicate (end - from) 0
filled from (w ∷ ws) end = replicate (w.at - from) 0 ++ bytes_of 8 w.value ++ filled (w.at + 8) ws end

pub record Case : Type 0 where
  pub given : Walked
  pub wanted : Walked

-- a read of an address in a memory of 0x6000 bytes
abbrev case : PagingWords → List Word → ℕ → Walked → Case
case w words address wanted = record { given = page_walk_of (filled 0 words 0x6000) (for_access (page_walk w) Access.READ) address; wanted = wanted }

-- 4 levels with CR3 0x1000, the supervisor, NXE, and WP, SMEP and SMAP clear: CR0.PG and PE; CR4.PAE; EFER.NXE, LMA and LME
abbrev four_levels : PagingWords
four_levels = record { cr0 = 0x8000_0001; cr3 = 0x1000; cr4 = 0x20; efer = 0xD00; ssrights = 0 }

-- the same for a user: SS has DPL 3
abbrev as_user : PagingWords
as_user = record { cr0 = 0x8000_0001; cr3 = 0x1000; cr4 = 0x20; efer = 0xD00; ssrights = 0x60 }

-- the same with CR4.SMAP
abbrev with_smap : PagingWords
with_smap = record { cr0 = 0x8000_0001; cr3 = 0x1000; cr4 = 0x20_0020; efer = 0xD00; ssrights = 0 }

-- PAE paging with CR3 0x1020
abbrev three_levels : PagingWords
three_levels = record { cr0 = 0x8000_0001; cr3 = 0x1020; cr4 = 0x20; efer = 0x800; ssrights = 0 }

-- 32-bit paging with CR4.PSE, and without
abbrev two_levels : PagingWords
two_levels = record { cr0 = 0x8000_0001; cr3 = 0x1000; cr4 = 0x10; efer = 0; ssrights = 0 }

abbrev without_pse : PagingWords
without_pse = record { cr0 = 0x8000_0001; cr3 = 0x1000; cr4 = 0; efer = 0; ssrights = 0 }

abbrev pub walks : List Case
walks =
    -- through four tables to a page of 4 KBytes; with an entry of a page of 2 MBytes; with bit 13 of it, which is reserved
    case four_levels (word 0x1008 0x2007 ∷ word 0x2008 0x3007 ∷ word 0x3008 0x4007 ∷ word 0x4008 0x5007 ∷ []) 0x80_4020_1ABC (Address 0x5ABC)
    ∷ case four_levels (word 0x1008 0x2007 ∷ word 0x2008 0x3007 ∷ word 0x3008 0x2000_0087 ∷ []) 0x80_4020_1ABC (Address 0x2000_1ABC)
    ∷ case four_levels (word 0x1008 0x2007 ∷ word 0x2008 0x3007 ∷ word 0x3008 0x2000_2087 ∷ []) 0x80_4020_1ABC (Fails 2 2)
    -- user at level 4 comes before not present at level 3; a table past the end
    ∷ case as_user (word 0x1008 0x2003 ∷ []) 0x80_4020_1ABC (Fails 4 3)
    ∷ case four_levels (word 0x1008 0xF_FFFF_FFFF_F003 ∷ []) 0x80_4020_1ABC (Refused 26)
    -- a page of 4 MBytes by PSE-36; without PSE, a table past the end
    ∷ case two_levels (word 0x100C 0x80_2087 ∷ []) 0xC0_1234 (Address 0x1_0080_1234)
    ∷ case without_pse (word 0x100C 0x80_2087 ∷ []) 0xC0_1234 (Refused 26)
    -- bit 1 of an entry of PAE's top table is reserved
    ∷ case three_levels (word 0x1020 0x2003 ∷ []) 0 (Fails 3 2)
    -- every level is open to the user
    ∷ case with_smap (word 0x1008 0x2007 ∷ word 0x2008 0x3007 ∷ word 0x3008 0x4007 ∷ word 0x4008 0x5007 ∷ []) 0x80_4020_1ABC (Fails 1 7)
    ∷ []
