use mathlib.Core.Path.{refl}
use Prim.Native.Nat.{◌^◌}
use lib.Dec.{lit<}
use Rattle.regs.specs.Registers.{list_of}
use Rattle.record.proofs.Codecs.{all_below}
use Rattle.record.proofs.GeneralRegistersStored.put.Goals as goal

pub returns-clause-fits : goal.returns-clause-fits
returns-clause-fits c =
    let put = rw c.from.ensures at c.put_all.ensures in
    record { sized = refl; below = all_below (256 ^ 8) (list_of c.args.v) (lit< tt) put.fits }
