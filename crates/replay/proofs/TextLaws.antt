-- Laws of the loops that read a text. Assumes nothing.
use Prim.Native.Nat.{ℕ, ◌+◌, ◌*◌, ◌%◌, ◌^◌, ◌≤◌, ◌<◌}
use native.Mathlib.Numerals.{add-one}
use mathlib.Core.Path.{◌≡◌}
use mathlib.Core.List.{List, [], ◌∷◌}
use borrow.Author.Tests.{lt-ltb, le-ltb, eq-eqb, ne_eqb}
use lib.ListN.{length, get_or, drop, drop_of_length-le}
use lib.Seq.{drop-cons}
use Rattle.replay.specs.declared.text.Number.{Number}
use Rattle.replay.specs.Text.{digit_value, number_from, number_at, after_byte, case_at}

-- ---- a number: the whole spells what the rest spells after value

module _ (s : List ℕ) (n : Number) (value i : ℕ) (inv : n ≡ number_from value i (drop i s)) where
  pub number_end : length s ≤ i → record { value = value; next = i } ≡ n
  unfolding number_from
  number_end h = rw (inv, drop_of_length-le s)

  module _ (h : i < length s) where
    pub number_blank : get_or s i 0 < 48 → get_or s i 0 ≡ 32 → record { value = value; next = i + 1 } ≡ n
    unfolding number_from
    number_blank l e = rw (inv, drop-cons s i 0, lt-ltb (get_or s i 0) 48, eq-eqb (get_or s i 0) 32)

    pub number_stop : get_or s i 0 < 48 → (get_or s i 0 ≡ 32 → ⊥) → record { value = value; next = i } ≡ n
    unfolding number_from
    number_stop l e = rw (inv, drop-cons s i 0, lt-ltb (get_or s i 0) 48, ne_eqb (get_or s i 0) 32)

    pub number_more : 48 ≤ get_or s i 0 → (d : ℕ) → d ≡ digit_value (get_or s i 0) → n ≡ number_from (value % 2 ^ 60 * 16 + d) (i + 1) (drop (i + 1) s)
    unfolding number_from
    number_more l d e = rw (inv, e, drop-cons s i 0, le-ltb (get_or s i 0) 48, add-one)

-- ---- a case, from its numbers

pub eight : (s : List ℕ) (at next : ℕ) (a b c d e f g h : Number) → a ≡ number_at s at → b ≡ number_at s a.next → c ≡ number_at s b.next → d ≡ number_at s c.next
    → e ≡ number_at s d.next → f ≡ number_at s e.next → g ≡ number_at s f.next → h ≡ number_at s g.next → next ≡ after_byte (length s) h.next
    → record { numbers = a.value ∷ b.value ∷ c.value ∷ d.value ∷ e.value ∷ f.value ∷ g.value ∷ h.value ∷ []; next = next } ≡ case_at s at
unfolding case_at
eight s at next a b c d e f g h ea eb ec ed ee ef eg eh en = rw (en, eh, eg, ef, ee, ed, ec, eb, ea)
