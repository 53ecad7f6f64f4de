use mathlib.Core.Path.{◌∙◌}
use borrow.Author.Rules.{rules}
use Rattle.bits.specs.LittleEndian.{little_endian}
use Rattle.record.specs.Record as Record
use Rattle.record.specs.Codec.{session_of}
use Rattle.record.proofs.Loops.{read_all_at}
use Rattle.record.proofs.w32_at.Goals as goal

pub returns : goal.returns
unfolding session_of
returns c = let a = c.args in
    c.get.ensures ∙ read_all_at 4 (little_endian 4) 50 Record.W32 a.b.now a.place 0 (search rules)
