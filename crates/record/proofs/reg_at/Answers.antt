use mathlib.Core.Path.{sym, ap, ◌∙◌}
use mathlib.Core.List.{List}
use Prim.Native.Nat.{ℕ}
use lib.ListN.{get_or, drop}
use borrow.Author.Rules.{rules}
use Rattle.bits.specs.LittleEndian.{little_endian}
use Rattle.record.specs.Record as Record
use Rattle.record.specs.Codec.{session_of}
use Rattle.record.proofs.Loops.{read_all_at}
use Rattle.record.proofs.Codecs.{registers_read}
use Rattle.record.proofs.reg_at.Goals as goal

pub returns : goal.returns
unfolding session_of
returns c = let a = c.args in
    c.get.ensures
    ∙ read_all_at 8 (little_endian 8) 16 Record.REGS a.b.now a.index 0 (search rules)
    ∙ ap (λ (l : List ℕ). get_or l a.index 0) (sym (registers_read (drop Record.REGS a.b.now)))
