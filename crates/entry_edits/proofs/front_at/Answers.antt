use Prim.Native.Nat.{ℕ, ◌%◌}
use mathlib.Core.Path.{sym, ap, ◌∙◌}
use lib.Dec.{lit<, eqb}
use Rattle.bits.specs.LittleEndian.{little_endian}
use Rattle.bits.proofs.BitLaws.{bit_zero}
use Rattle.vcpu_events.specs.Queue.{given}
use Rattle.record.specs.Record as Record
use Rattle.record.specs.Codec.{session_of}
use Rattle.record.proofs.Loops.{read_all_at}
use Rattle.entry_edits.proofs.front_at.Goals as goal

pub returns : goal.returns
unfolding session_of
returns c = let b = c.args.b.now in
    let vector = c.get.ensures ∙ read_all_at 1 (little_endian 1) 64 Record.VECTORS b 0 0 (lit< tt) in
    let coded = ap (λ (x : ℕ). eqb (x % 2) 1) c.coded_at.ensures ∙ sym (bit_zero (session_of b).queue.coded) in
    let value = c.get-2.ensures ∙ read_all_at 4 (little_endian 4) 64 Record.CODES b 0 0 (lit< tt) in
    c.new.ensures ∙ (λ i. given (record { vector = vector i; coded = coded i; code = value i }))
