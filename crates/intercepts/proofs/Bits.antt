-- Each of the 98,304 bits of the frames is that of exactly one item. Assumes nothing.
use Prim.Native.Nat.{ℕ, ◌+◌, ◌-◌, ◌*◌, ◌<◌}
use native.Mathlib.Decide.{dec_lt}
use native.Mathlib.Omega.{arith}
use mathlib.Core.Path.{◌≡◌, refl, sym, ap, ap₂, ◌∙◌}
use mathlib.Core.Logic.{inl, inr, dite}
use mathlib.Core.List.{◌++◌}
use lib.ListN.{length, length-append}
use borrow.Author.Tests.{lt-ltb, le-ltb}
use Rattle.structs.specs.declared.Access.{Access}
use Rattle.structs.specs.declared.Access.TheVariants.{Read, Write}
use Rattle.structs.specs.Bitmap.{bit_at}
use Rattle.structs.specs.Frames.{msr_index}
use Rattle.structs.specs.Numbers.{IsMsr}
use Rattle.structs.proofs.BitmapLaws as BitmapLaws
use Rattle.structs.proofs.BitmapLaws.{bit_at_first, bit_at_second}
use Rattle.structs.proofs.PortLaws.{port_in_a, port_in_b, port_bit}
use Rattle.structs.proofs.MsrLaws.{number, low_index, high_index, index_lt, msr_of_bit, one_msr}
use Rattle.intercepts.specs.Edits.{Frames, bytes_of, Item, port, access, Real, trapped}
use Rattle.intercepts.specs.TwoHands.{Whole, Bytes, msr_place, place, HasItem}

-- ---- the place of an item

msr_place_lem : (x : Access) (m : ℕ) → IsMsr m → msr_index x m ≡ number x * 0x4000 + msr_place m
msr_place_lem x m (inl l) = rw (lt-ltb m 0x2000 (omega arith)) (low_index x m l)
msr_place_lem x m (inr h) = rw (le-ltb m 0x2000 (omega arith)) (omega (arith, high_index x m h))

place_as : (x : Access) (m : ℕ) → IsMsr m → place (access x m) ≡ 0x1_0000 + msr_index x m
place_as Read m r = omega (arith, msr_place_lem Read m r)
place_as Write m r = omega (arith, msr_place_lem Write m r)

pub in_bytes : (i : Item) → Real i → place i < 98304
in_bytes (port p) r = omega arith
in_bytes (access x m) r = omega (arith, place_as x m r, index_lt x m r)

pub every_bit : (n : ℕ) → n < 98304 → HasItem n
every_bit n h =
    dite (dec_lt n 0x1_0000)
    (λ l. record { item = port n; real = omega arith; at = refl })
    (λ g. let o = msr_of_bit (n - 0x1_0000) (omega arith) in
    record { item = access o.access o.msr; real = o.real; at = omega (arith, place_as o.access o.msr o.real, o.index) })

pub one_item : (i j : Item) → Real i → Real j → place i ≡ place j → i ≡ j
one_item (port p) (port q) r s e = ap port e
one_item (port p) (access y n) r s e = absurd (omega (arith, place_as y n s))
one_item (access x m) (port q) r s e = absurd (omega (arith, place_as x m r))
one_item (access x m) (access y n) r s e =
    let o = one_msr x y m n r s (omega (arith, place_as x m r, place_as y n s)) in
    ap₂ access o.0 o.1

-- ---- its bit

module _ (f : Frames) (w : Whole f) where
  in_a : length f.a ≡ 4096
  in_a = ap (λ (l : ℕ × ℕ × ℕ). l.0) w

  in_b : length f.b ≡ 4096
  in_b = ap (λ (l : ℕ × ℕ × ℕ). l.1) w

  in_msr : length f.msr ≡ 4096
  in_msr = ap (λ (l : ℕ × ℕ × ℕ). l.2) w

  ports_length : length (f.a ++ f.b) ≡ 8192
  ports_length = rw (length-append f.a f.b) (omega (arith, in_a, in_b))

  pub bytes : length (bytes_of f) ≡ 12288
  bytes = rw (length-append (f.a ++ f.b) f.msr) (omega (arith, ports_length, in_msr))

  pub bit : (i : Item) → Real i → trapped f i ≡ bit_at (bytes_of f) (place i)
  bit (port p) r = port_bit f.a f.b in_a p ∙ sym (bit_at_first (f.a ++ f.b) f.msr p (omega (arith, ports_length)))
  bit (access x m) r =
      let e : place (access x m) ≡ 8 * length (f.a ++ f.b) + msr_index x m = omega (arith, place_as x m r, ports_length) in
      sym (ap (bit_at (bytes_of f)) e ∙ bit_at_second (f.a ++ f.b) f.msr (msr_index x m))

-- ---- frames that agree on all items

pub same_bytes : (f g : Frames) → Whole f → Whole g → Bytes f → Bytes g → ((i : Item) → Real i → trapped f i ≡ trapped g i) → f ≡ g
same_bytes f g w u x y e =
    three
    (BitmapLaws.same_bytes f.a g.a (in_a f w ∙ sym (in_a g u)) x.0 y.0
    (λ n h. let l : n < 0x8000 = omega (arith, in_a f w) in
    sym (port_in_a f.a f.b n l) ∙ e (port n) (omega arith) ∙ port_in_a g.a g.b n l))
    (BitmapLaws.same_bytes f.b g.b (in_b f w ∙ sym (in_b g u)) x.1 y.1
    (λ n h. sym (port_in_b f.a f.b n) ∙ e (port (0x8000 + n)) (omega (arith, in_b f w)) ∙ port_in_b g.a g.b n))
    (BitmapLaws.same_bytes f.msr g.msr (in_msr f w ∙ sym (in_msr g u)) x.2 y.2
    (λ n h. let o = msr_of_bit n (omega (arith, in_msr f w)) in
    ap (bit_at f.msr) (sym o.index) ∙ e (access o.access o.msr) o.real ∙ ap (bit_at g.msr) o.index))
  where
    three : f.a ≡ g.a → f.b ≡ g.b → f.msr ≡ g.msr → f ≡ g
    three p q r i = record { a = p i; b = q i; msr = r i }
