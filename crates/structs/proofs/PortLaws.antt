-- Laws of port edits: what each number means, what each port's intercept is after an accepted edit, that edits with no port in common commute, and which bit of A
-- or B is a port's. Edits of ports and of MSRs in one list: crate `intercepts`. Assumes nothing.
use mathlib.Core.Path.{◌≡◌, refl, sym, ap, ◌∙◌}
use mathlib.Core.Bool.{Bool, true, false, cond}
use mathlib.Core.List.{List, ◌++◌}
use mathlib.Core.Logic.{◌≢◌, dite, ◌⊎◌, inl, inr, ⊎_elim, ◌↔◌}
use Prim.Native.Nat.{ℕ, zero, suc, ◌+◌, ◌-◌, ◌*◌, ◌≤◌, ◌<◌, min}
use native.Mathlib.Decide.{dec_lt, ℕ_discrete}
use native.Mathlib.Omega.{arith}
use lib.Dec.{T, eqb, eqb→eq}
use lib.ListN.{length}
use borrow.Author.Tests.{lt-ltb, le-ltb, eq-eqb, ne_eqb}
use Rattle.bits.specs.LittleEndian.{Below}
use Rattle.structs.specs.Bitmap.{bit_at, set_bit, set_bits, in_range}
use Rattle.structs.specs.Frames.{port_index, port_intercept, IOBitmap, set_port, set_ports, port_refusal, frames_of, edit_ports}
use Rattle.structs.specs.Numbers.{PortNumbers, IsPort}
use Rattle.structs.proofs.BitmapLaws.{length_set_bits, below_set_bits, inside, outside, by_range, in_range_lem, set_bits_comm, next_bit, bit_at_first, bit_at_second, guarded_comm}

-- ---- the numbers

module _ (la lb base count : ℕ) where
  refused_a : la ≢ 4096 → port_refusal la lb base count ≡ 2
  unfolding port_refusal
  refused_a a = simp (ne_eqb la 4096 a)

  refused_b : la ≡ 4096 → lb ≢ 4096 → port_refusal la lb base count ≡ 2
  unfolding port_refusal
  refused_b a b = simp (eq-eqb la 4096 a, ne_eqb lb 4096 b)

  refused_last : la ≡ 4096 → lb ≡ 4096 → count ≢ 0 → 0x1_0000 < base + count → port_refusal la lb base count ≡ 10
  unfolding port_refusal
  refused_last a b c l = simp (eq-eqb la 4096 a, eq-eqb lb 4096 b, ne_eqb count 0 c, lt-ltb 0x1_0000 (base + count) l)

  accepted_none : la ≡ 4096 → lb ≡ 4096 → count ≡ 0 → port_refusal la lb base count ≡ 0
  unfolding port_refusal
  accepted_none a b c = simp (eq-eqb la 4096 a, eq-eqb lb 4096 b, eq-eqb count 0 c)

  accepted_some : la ≡ 4096 → lb ≡ 4096 → count ≢ 0 → base + count ≤ 0x1_0000 → port_refusal la lb base count ≡ 0
  unfolding port_refusal
  accepted_some a b c l = simp (eq-eqb la 4096 a, eq-eqb lb 4096 b, ne_eqb count 0 c, le-ltb 0x1_0000 (base + count) l)

  not_2 : la ≡ 4096 → lb ≡ 4096 → port_refusal la lb base count ≢ 2 → (port_refusal la lb base count ≡ 2) ↔ ((la ≢ 4096) ⊎ (lb ≢ 4096))
  not_2 a b n = (λ e. absurd (n e), ⊎_elim (λ f. absurd (f a)) (λ f. absurd (f b)))

  numbers : PortNumbers la lb base count (port_refusal la lb base count)
  numbers =
      dite (ℕ_discrete la 4096)
      (λ a. dite (ℕ_discrete lb 4096)
      (λ b. dite (ℕ_discrete count 0)
      (λ c. let e = accepted_none a b c in record { is_2 = not_2 a b (omega arith); is_10 = omega arith; is_0 = omega arith })
      (λ c. dite (dec_lt 0x1_0000 (base + count))
      (λ l. let e = refused_last a b c l in
      record { is_2 = not_2 a b (omega arith); is_10 = omega arith; is_0 = (omega arith, λ t. let f : base + count - 1 ≤ 65535 = t.2 (omega arith) in absurd (omega arith)) })
      (λ l. let e = accepted_some a b c (omega arith) in record { is_2 = not_2 a b (omega arith); is_10 = omega arith; is_0 = omega arith })))
      (λ b. let e = refused_b a b in record { is_2 = (λ _. inr b, λ _. e); is_10 = omega arith; is_0 = omega arith }))
      (λ a. let e = refused_a a in record { is_2 = (λ _. inl a, λ _. e); is_10 = omega arith; is_0 = omega arith })

  -- what is known where an edit is accepted
  pub port_accepted : {n : ℕ} → n ≡ port_refusal la lb base count → n ≡ 0 → (la ≡ 4096) × (lb ≡ 4096) × (0 < count → base + count - 1 ≤ 65535)
  port_accepted asked none = numbers.is_0.0 (sym asked ∙ none)

-- ---- the ports from base to below end, as bits of A and as bits of B

abbrev pub bits_of_a : List ℕ → ℕ → ℕ → Bool → List ℕ
bits_of_a a base end v = set_bits a (min base 0x8000) (min end 0x8000 - min base 0x8000) v

abbrev pub bits_of_b : List ℕ → ℕ → ℕ → Bool → List ℕ
bits_of_b b base end v = set_bits b (base - 0x8000) (end - 0x8000 - (base - 0x8000)) v

-- what of x lies past A
pub past_a : (x : ℕ) → x - min x 0x8000 ≡ x - 0x8000
past_a x = omega arith

module _ (xs : List ℕ) (base p : ℕ) (v : Bool) where
  next_in_a : base ≤ p → p < 0x8000 → set_bit (bits_of_a xs base p v) p v ≡ bits_of_a xs base (p + 1) v
  next_in_a h l =
      let e : min p 0x8000 ≡ p = omega arith in
      let f : min (p + 1) 0x8000 ≡ p + 1 = omega arith in
      rw (e, f) (next_bit xs (min base 0x8000) p v (omega arith))

  same_in_a : 0x8000 ≤ p → bits_of_a xs base p v ≡ bits_of_a xs base (p + 1) v
  same_in_a g =
      let e : min p 0x8000 ≡ min (p + 1) 0x8000 = omega arith in
      rw e

  next_in_b : base ≤ p → 0x8000 ≤ p → set_bit (bits_of_b xs base p v) (p - 0x8000) v ≡ bits_of_b xs base (p + 1) v
  next_in_b h g =
      let e : p + 1 - 0x8000 ≡ p - 0x8000 + 1 = omega arith in
      rw e (next_bit xs (base - 0x8000) (p - 0x8000) v (omega arith))

  same_in_b : p < 0x8000 → bits_of_b xs base p v ≡ bits_of_b xs base (p + 1) v
  same_in_b l =
      let e : p + 1 - 0x8000 ≡ p - 0x8000 = omega arith in
      rw e

both : {a c b d : List ℕ} → a ≡ c → b ≡ d → ◌≡◌ {A = IOBitmap} (record { a = a; b = b }) (record { a = c; b = d })
both p q i = record { a = p i; b = q i }

-- a range of ports is a range of bits of A and one of B, each perhaps empty
pub set_ports_frames : (io : IOBitmap) (base count : ℕ) (v : Bool) → set_ports io base count v ≡ record { a = bits_of_a io.a base (base + count) v; b = bits_of_b io.b base (base + count) v }
unfolding set_ports set_port port_index set_bits
set_ports_frames io base zero v =
    let e : min (base + 0) 0x8000 - min base 0x8000 ≡ 0 = omega arith in
    let f : base + 0 - 0x8000 - (base - 0x8000) ≡ 0 = omega arith in
    rw (e, f)
set_ports_frames io base (suc count) v =
    let p = base + count in
    let e : base + suc count ≡ base + count + 1 = omega arith in
    rw (e, set_ports_frames io base count v)
    (dite (dec_lt (base + count) 0x8000)
    (λ l. simp (lt-ltb (base + count) 0x8000 l) (both (next_in_a io.a base (base + count) v (omega arith) l) (same_in_b io.b base (base + count) v l)))
    (λ g. let h : 0x8000 ≤ base + count = omega arith in
    simp (le-ltb (base + count) 0x8000 h) (both (same_in_a io.a base (base + count) v h) (next_in_b io.b base (base + count) v (omega arith) h))))

-- ---- what an edit leaves

-- an edit is accepted, and the frames after an edit
abbrev accepted : IOBitmap → ℕ → ℕ → Bool
accepted io base count = eqb (port_refusal (length io.a) (length io.b) base count) 0

abbrev after : IOBitmap → ℕ → ℕ → Bool → IOBitmap
after io base count v = cond (accepted io base count) (set_ports io base count v) io

length_after : (io : IOBitmap) (base count : ℕ) (v : Bool) → (length (after io base count v).a ≡ length io.a) × (length (after io base count v).b ≡ length io.b)
length_after io base count v = go (accepted io base count)
  where
    go : (t : Bool) → (length (cond t (set_ports io base count v) io).a ≡ length io.a) × (length (cond t (set_ports io base count v) io).b ≡ length io.b)
    go true = rw (set_ports_frames io base count v) (length_set_bits io.a _ _ v, length_set_bits io.b _ _ v)
    go false = (refl, refl)

below_after : (io : IOBitmap) (base count : ℕ) (v : Bool) → Below 256 io.a → Below 256 io.b → Below 256 (after io base count v).a × Below 256 (after io base count v).b
below_after io base count v x y = go (accepted io base count)
  where
    go : (t : Bool) → Below 256 (cond t (set_ports io base count v) io).a × Below 256 (cond t (set_ports io base count v) io).b
    go true = rw (set_ports_frames io base count v) (below_set_bits io.a _ _ v x, below_set_bits io.b _ _ v y)
    go false = (x, y)

module _ (a b : List ℕ) (base count : ℕ) (v : Bool) where
  -- accepted, and refused by each number, exactly where document 01 says
  pub port_numbers : PortNumbers (length a) (length b) base count (edit_ports a b base count v).refusal
  unfolding edit_ports
  port_numbers = numbers (length a) (length b) base count

  -- a refused edit changes nothing
  pub port_refused : (edit_ports a b base count v).refusal ≢ 0 → frames_of (edit_ports a b base count v) ≡ record { a = a; b = b }
  unfolding edit_ports
  port_refused n = rw (ne_eqb (port_refusal (length a) (length b) base count) 0 n)

  -- an edit keeps each frame's length
  pub port_length_a : length (edit_ports a b base count v).a ≡ length a
  unfolding edit_ports
  port_length_a = (length_after (record { a = a; b = b }) base count v).0

  pub port_length_b : length (edit_ports a b base count v).b ≡ length b
  unfolding edit_ports
  port_length_b = (length_after (record { a = a; b = b }) base count v).1

  -- bytes stay bytes
  pub port_below : Below 256 a → Below 256 b → Below 256 (edit_ports a b base count v).a × Below 256 (edit_ports a b base count v).b
  unfolding edit_ports
  port_below = below_after (record { a = a; b = b }) base count v

  -- after an accepted edit a port's intercept is what was asked if the port is one of those edited, and else as before
  pub port_edited : (edit_ports a b base count v).refusal ≡ 0 → (port : ℕ)
      → port_intercept (edit_ports a b base count v).a (edit_ports a b base count v).b port ≡ cond (in_range base count port) v (port_intercept a b port)
  unfolding edit_ports port_index port_intercept
  port_edited e port =
      let n = (numbers (length a) (length b) base count).is_0.0 e in
      rw (e, set_ports_frames (record { a = a; b = b }) base count v)
      (by_range base count port
      (λ h k. let last : base + count - 1 ≤ 65535 = n.2 (omega arith) in
      dite (dec_lt port 0x8000)
      (λ l. simp (lt-ltb port 0x8000 l) (inside a _ _ port v (omega arith) (omega arith) (omega arith)))
      (λ g. simp (le-ltb port 0x8000 (omega arith)) (inside b _ _ (port - 0x8000) v (omega arith) (omega arith) (omega arith))))
      (λ o. dite (dec_lt port 0x8000)
      (λ l. simp (lt-ltb port 0x8000 l) (outside a _ _ port v (λ h k. o (omega arith) (omega arith))))
      (λ g. simp (le-ltb port 0x8000 (omega arith)) (outside b _ _ (port - 0x8000) v (λ h k. o (omega arith) (omega arith))))))

-- ---- edits with no port in common commute

set_ports_comm : (io : IOBitmap) (f c g d : ℕ) (v u : Bool) → ((p : ℕ) → f ≤ p → p < f + c → g ≤ p → p < g + d → ⊥)
    → set_ports (set_ports io f c v) g d u ≡ set_ports (set_ports io g d u) f c v
set_ports_comm io f c g d v u apart =
    rw (set_ports_frames (set_ports io f c v) g d u, set_ports_frames (set_ports io g d u) f c v, set_ports_frames io f c v, set_ports_frames io g d u)
    (both
    (set_bits_comm io.a _ _ _ _ v u (λ k h i j l. apart k (omega arith) (omega arith) (omega arith) (omega arith)))
    (set_bits_comm io.b _ _ _ _ v u (λ k h i j l. apart (k + 0x8000) (omega arith) (omega arith) (omega arith) (omega arith))))

-- two edits of the same frames, accepted or not
pub ports_commute : (a b : List ℕ) (f c g d : ℕ) (v u : Bool) → ((port : ℕ) → IsPort port → T (in_range f c port) → T (in_range g d port) → ⊥)
    → frames_of (edit_ports (edit_ports a b f c v).a (edit_ports a b f c v).b g d u) ≡ frames_of (edit_ports (edit_ports a b g d u).a (edit_ports a b g d u).b f c v)
unfolding edit_ports
ports_commute a b f c g d v u apart =
    let io : IOBitmap = record { a = a; b = b } in
    let x = length_after io f c v in
    let y = length_after io g d u in
    rw (x.0, x.1, y.0, y.1)
    (guarded_comm (λ z. set_ports z f c v) (λ z. set_ports z g d u) io (accepted io f c) (accepted io g d)
    (λ s _. let n = (numbers (length a) (length b) f c).is_0.0 (eqb→eq _ 0 s) in
    set_ports_comm io f c g d v u
    (λ p h i j k. let last : f + c - 1 ≤ 65535 = n.2 (omega arith) in
    apart p (omega arith) (in_range_lem f c p h i) (in_range_lem g d p j k))))

-- ---- the bits of ports

pub port_in_a : (a b : List ℕ) (n : ℕ) → n < 0x8000 → port_intercept a b n ≡ bit_at a n
unfolding port_intercept port_index
port_in_a a b n l = rw (lt-ltb n 0x8000 l)

pub port_in_b : (a b : List ℕ) (n : ℕ) → port_intercept a b (0x8000 + n) ≡ bit_at b n
unfolding port_intercept port_index
port_in_b a b n =
    let e : 0x8000 + n - 0x8000 ≡ n = omega arith in
    rw (le-ltb (0x8000 + n) 0x8000 (omega arith), e)

-- of A and B one after the other
pub port_bit : (a b : List ℕ) → length a ≡ 4096 → (n : ℕ) → port_intercept a b n ≡ bit_at (a ++ b) n
port_bit a b la n =
    dite (dec_lt n 0x8000)
    (λ l. port_in_a a b n l ∙ sym (bit_at_first a b n (omega arith)))
    (λ g. let e : n ≡ 0x8000 + (n - 0x8000) = omega arith in
    let f : n ≡ 8 * length a + (n - 0x8000) = omega arith in
    ap (port_intercept a b) e ∙ port_in_b a b (n - 0x8000) ∙ sym (ap (bit_at (a ++ b)) f ∙ bit_at_second a b (n - 0x8000)))
