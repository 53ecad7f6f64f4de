-- What is claimed of every list of edits, put together. Assumes nothing.
use mathlib.Core.Path.{◌∙◌}
use Rattle.intercepts.specs.Edits.{Frames, after}
use Rattle.intercepts.specs.TwoHands.{TwoHands}
use Rattle.intercepts.proofs.EditLaws as EditLaws
use Rattle.intercepts.proofs.Lists as Lists
use Rattle.intercepts.proofs.Bits as Bits
use Rattle.intercepts.proofs.SetUp as SetUp

pub two_hands : (f : Frames) → TwoHands f
two_hands f =
    record {
      numbers = EditLaws.numbers f;
      alike = λ g same e. EditLaws.alike f g same e;
      anywhere = Lists.anywhere f;
      refused = EditLaws.refused f;
      lengths = Lists.lengths f;
      bytes = λ w es. Bits.bytes (after f es) (Lists.lengths f es ∙ w);
      stay_bytes = λ b es. Lists.stay_bytes f es b;
      either_order = EditLaws.either_order f;
      two_lists = Lists.two_lists f;
      shuffled = λ xs ys zs s. Lists.shuffled f s;
      last_decides = Lists.last_decides f;
      decided = Lists.decided f;
      untouched = Lists.untouched f;
      setup_whole = λ session block. SetUp.setup_whole session block f;
      after_setup = λ session block. SetUp.after_setup session block f;
      bit = Bits.bit f;
      in_bytes = Bits.in_bytes;
      every_bit = Bits.every_bit;
      one_item = Bits.one_item;
      same_bytes = Bits.same_bytes f;
    }
