-- Which bytes are the record of a session, in ≤ and ≡ alone (document 01, refusal 2). Assumes nothing.
use Rattle.std.specs.Prelude.{◌≡◌, List, ℕ, ◌≤◌, length, get_or, drop}
use Rattle.bits.specs.LittleEndian.{little_endian}
use Rattle.record.specs.Record as Record

pub record Acceptable (b : List ℕ) : Type 0 where
  pub whole : length b ≡ Record.LENGTH
  pub phase : get_or b Record.PHASE 0 ≤ 4
  pub launched : get_or b Record.LAUNCHED 0 ≤ 1
  pub held : little_endian 4 (drop Record.HELD b) ≤ little_endian 4 (drop Record.ENTRIES b)
  pub waiting : get_or b Record.WAITING 0 ≤ 64
