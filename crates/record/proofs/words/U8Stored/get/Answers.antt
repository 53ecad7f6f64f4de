use mathlib.Core.Path.{sym}
use native.Mathlib.Omega.{arith}
use Rattle.bits.proofs.LittleEndianLaws.{number_one}
use Rattle.record.proofs.words.U8Stored.get.Goals as goal

pub returns : goal.returns
returns c = sym (number_one c.args.b.now c.args.at (omega arith))
