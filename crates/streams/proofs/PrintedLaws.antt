-- A program that reads the start of a stream, one byte more than it takes, and prints what it makes of the whole. Assumes nothing.
use Rattle.std.proofs.Common.{◌≡◌, ℕ, ◌<◌, ◌≤◌, List, ◌++◌, Option, None, Some, IfSome, OnOk, Result, Ok, Err, Bool, true, false, refl, arith, length, take, sym, ap, subst, ◌∙◌, length-take-le, take_all}
use Rattle.std.proofs.lemmas.List.{take_at}
use Rattle.std.specs.Io.KnownBytes.{Appends}
use lib.Dec.{ltb}
use borrow.Author.Tests.{ltb-true, ltb-false}

-- what is printed for a text, where every text of so many bytes or more is refused alike
module _ (printed : List ℕ → List ℕ) (size : ℕ) (refused : List ℕ) (long : (text : List ℕ) → size ≤ length text → printed text ≡ refused) where
  start_at : (text : List ℕ) (t : Bool) → ltb (length text) size ≡ t → printed (take size text) ≡ printed text
  start_at text true e = let less : length text < size = ltb-true _ _ e in ap printed (take_all size text (omega arith))
  start_at text false e =
      let h : size ≤ length text = ltb-false _ _ e in
      long (take size text) (omega (arith, length-take-le size text h)) ∙ sym (long text h)

  -- the start of a text decides
  start_decides : (text : List ℕ) → printed (take size text) ≡ printed text
  start_decides text = start_at text (ltb (length text) size) refl

  -- what is printed for the start that was read stood at a buffer's start, and was written
  pub written : {E : Type 0} (given old new : Option (List ℕ)) (read buffer rest : List ℕ) (n room : ℕ) (r : Result (Unit {0}) E) → room ≡ size
      → IfSome given (λ text. read ≡ take room text) → n ≡ length (printed read) → buffer ≡ printed read ++ rest → OnOk r (Appends old new (take n buffer))
      → OnOk r (IfSome given (λ text. Appends old new (printed text)))
  written None old new read buffer rest n room (Ok x) z s l b w = tt
  written (Some text) old new read buffer rest n room (Ok x) z s l b w =
      let put : take n buffer ≡ printed read = ap (take n) b ∙ take_at (printed read) rest n (sym l) in
      subst (Appends old new) (put ∙ ap printed (s ∙ ap (λ m. take m text) z) ∙ start_decides text) w
  written given old new read buffer rest n room (Err e) z s l b w = tt
