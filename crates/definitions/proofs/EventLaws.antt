-- The word of an event read bit by bit, by one computed test over the 256 vectors. Assumes nothing.
use mathlib.Core.Path.{◌≡◌, refl}
use mathlib.Core.Bool.{Bool, true, false, ◌&&◌, beq}
use Prim.Native.Nat.{ℕ, ◌/◌, ◌%◌, ◌^◌, ◌<◌}
use lib.Dec.{T, eqb, ltb, eqb→eq, ltb→lt}
use Rattle.bits.specs.Words.{bit}
use Rattle.bits.proofs.AllBelow.{at}
use Rattle.bits.proofs.WordLaws.{is_true}
use Rattle.definitions.specs.Interruption.{type_number, from_vector, event_word, EventBits}

abbrev reads : Bool → ℕ → Bool
reads code v =
    eqb (event_word v code % 2 ^ 8) v
    && eqb (event_word v code / 2 ^ 8 % 8) (type_number (from_vector v))
    && beq (bit 11 (event_word v code)) code
    && eqb (event_word v code / 2 ^ 12 % 2 ^ 19) 0
    && bit 31 (event_word v code)
    && ltb (event_word v code) (2 ^ 32)

all_read : (code : Bool) (v : ℕ) → v < 256 → T (reads code v)
unfolding type_number from_vector
all_read true = at (reads true) 256 tt
all_read false = at (reads false) 256 tt

same : (a b : Bool) → T (beq a b) → a ≡ b
same true true t = refl
same true false t = absurd t
same false true t = absurd t
same false false t = refl

-- six tests joined
split : (a b c d e f : Bool) → T (a && b && c && d && e && f) → T a × T b × T c × T d × T e × T f
split true true true true true true t = (tt, tt, tt, tt, tt, tt)
split true true true true true false t = absurd t
split true true true true false f t = absurd t
split true true true false e f t = absurd t
split true true false d e f t = absurd t
split true false c d e f t = absurd t
split false b c d e f t = absurd t

pub event_bits : (v : ℕ) (code : Bool) → v < 256 → EventBits v code (event_word v code)
event_bits v code h =
    let w = event_word v code in
    let p =
    split (eqb (w % 2 ^ 8) v) (eqb (w / 2 ^ 8 % 8) (type_number (from_vector v))) (beq (bit 11 w) code) (eqb (w / 2 ^ 12 % 2 ^ 19) 0) (bit 31 w) (ltb w (2 ^ 32))
    (all_read code v h) in
    record {
      its_vector = eqb→eq _ _ p.0;
      its_type = eqb→eq _ _ p.1;
      its_code = same _ _ p.2;
      reserved = eqb→eq _ _ p.3;
      valid = is_true _ p.4;
      fits = ltb→lt _ _ p.5;
    }
