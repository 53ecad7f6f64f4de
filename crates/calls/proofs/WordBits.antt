-- The word of a vector, by the reference's tables: antt computes it for each of the 256 vectors and both values of CR0.PE. Assumes nothing.
use Prim.Native.Nat.{ℕ, ◌<◌}
use mathlib.Core.Path.{◌≡◌, refl}
use mathlib.Core.Bool.{Bool, true, false, ◌&&◌, beq}
use lib.Dec.{T, eqb, leb, eqb→eq}
use lib.ListN.{get_or}
use Rattle.bits.specs.Words.{bit}
use Rattle.bits.proofs.AllBelow.{at}
use Rattle.bits.proofs.WordLaws.{is_true}
use Rattle.definitions.specs.Interruption.{type_number, from_vector, is_soft, has_error_code, event_word}
use Rattle.calls.specs.Reference.{types, codes, word_for}

-- all that the tables say of a vector
pub record Tabled (v : ℕ) (pe : Bool) : Type 0 where
  pub word : event_word v (has_error_code v && pe) ≡ word_for v pe
  pub valid : bit 31 (word_for v pe) ≡ true
  pub coded : has_error_code v ≡ eqb (get_or codes v 0) 1
  pub soft : is_soft (from_vector v) ≡ (leb 4 (get_or types v 0) && leb (get_or types v 0) 6)

same : (a b : Bool) → T (beq a b) → a ≡ b
same true true t = refl
same true false t = absurd t
same false true t = absurd t
same false false t = refl

abbrev reads : Bool → ℕ → Bool
reads pe v =
    eqb (event_word v (has_error_code v && pe)) (word_for v pe)
    && bit 31 (word_for v pe)
    && beq (has_error_code v) (eqb (get_or codes v 0) 1)
    && beq (is_soft (from_vector v)) (leb 4 (get_or types v 0) && leb (get_or types v 0) 6)

split : (a b c d : Bool) → T (a && b && c && d) → T a × T b × T c × T d
split true true true true t = (tt, tt, tt, tt)
split true true true false t = absurd t
split true true false d t = absurd t
split true false c d t = absurd t
split false b c d t = absurd t

all_read : (pe : Bool) (v : ℕ) → v < 256 → T (reads pe v)
unfolding type_number from_vector is_soft
all_read true = at (reads true) 256 tt
all_read false = at (reads false) 256 tt

pub tabled : (v : ℕ) (pe : Bool) → v < 256 → Tabled v pe
tabled v pe h =
    let p =
    split (eqb (event_word v (has_error_code v && pe)) (word_for v pe)) (bit 31 (word_for v pe)) (beq (has_error_code v) (eqb (get_or codes v 0) 1))
    (beq (is_soft (from_vector v)) (leb 4 (get_or types v 0) && leb (get_or types v 0) 6)) (all_read pe v h) in
    record { word = eqb→eq _ _ p.0; valid = is_true _ p.1; coded = same _ _ p.2; soft = same _ _ p.3 }
