use mathlib.Core.Path.{◌∙◌}
use native.Mathlib.Omega.{arith}
use Rattle.bits.proofs.LittleEndianLaws.{length_bytes_of}
use Rattle.record.proofs.Stores.{part_stored, le_bytes}
use Rattle.record.proofs.words.U32Stored.put.Goals as goal

pub returns-clause-b_after : goal.returns-clause-b_after
returns-clause-b_after c = let a = c.args in
    let bytes = c.copy_from_slice.ensures.after ∙ c.to_le_bytes.ensures ∙ le_bytes 4 a.v in
    rw (← bytes) (part_stored a.b.now c.copy_from_slice.new.self a.at _ (rw (bytes, length_bytes_of) (omega arith)) (omega arith))
