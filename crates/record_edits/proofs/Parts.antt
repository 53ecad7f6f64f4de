-- Stores in the bytes of a session, part by part. Assumes nothing.
use mathlib.Core.Path.{◌≡◌, refl, sym, ap, ◌∙◌}
use mathlib.Core.List.{List, [], ◌∷◌, ◌++◌, map, flat_map, flatten, append_assoc}
use Prim.Native.Nat.{ℕ, zero, suc, ◌+◌, ◌*◌, ◌≤◌, ◌<◌}
use native.Mathlib.Nat.{zero-add, add-zero, suc-add, zero-mul, suc-mul, add_assoc, mul-le-mul_right, not-suc-le-zero}
use native.Mathlib.Omega.{arith}
use lib.ListN.{length, get_or, take, drop, set, length-set, length-append, length-drop, take-append-drop}
use lib.Seq.{sets, sets-eq, set-append_left, drop_at, take_at, drop-drop, drop-cons, length-take-le}
use Rattle.vcpu_events.specs.Queue.{shifted}
use Rattle.vcpu_session.specs.declared.Session.{Session}
use Rattle.record.specs.Codec.{parts_of, encode_of}
use Rattle.record.specs.Fitting.{Fitting}
use Rattle.record.proofs.Stores.{sets_append, sets_whole}
use Rattle.record.proofs.Loops.{length_flat_map, flat_map_append, all_of}
use Rattle.record.proofs.Parts.{total, from_part}
use Rattle.record.proofs.PartNames.{sizes}
use Rattle.record.proofs.RoundTrip.{lengths}

module _ {A : Type 0} where
  sets_left : (a b us : List A) (m : ℕ) → m + length us ≤ length a → sets (a ++ b) m us ≡ sets a m us ++ b
  sets_left a b [] m h = refl
  sets_left a b (u ∷ us) m h =
      let within : suc m + length us ≤ length (set a m u) = rw (length-set a m u) (omega arith) in
      rw (set-append_left a b m u (omega arith)) (sets_left (set a m u) b us (suc m) within)

  sets_later : (x : A) (l us : List A) (m : ℕ) → sets (x ∷ l) (suc m) us ≡ x ∷ sets l m us
  sets_later x l [] m = refl
  sets_later x l (u ∷ us) m = sets_later x (set l m u) us (suc m)

  sets_right : (a b us : List A) (m : ℕ) → sets (a ++ b) (length a + m) us ≡ a ++ sets b m us
  sets_right [] b us m = rw zero-add
  sets_right (x ∷ a) b us m = rw (suc-add, sets_later, sets_right a b us m)

  -- in part k
  sets_part : (k : ℕ) (ls : List (List A)) (m : ℕ) (us : List A) → k < length ls → m + length us ≤ length (get_or ls k [])
      → sets (flatten ls) (total (take k (map length ls)) + m) us ≡ flatten (set ls k (sets (get_or ls k []) m us))
  unfolding flatten
  sets_part k [] m us l h = absurd (not-suc-le-zero l)
  sets_part zero (p ∷ ls) m us l h = rw zero-add (sets_left p (flatten ls) us m h)
  sets_part (suc k) (p ∷ ls) m us l h = rw (add_assoc, sets_right, sets_part k ls m us (omega arith) h)

-- ---- values of one size

-- how a value is written, and in how many bytes
pub record Form (A : Type 0) : Type 0 where
  pub size : ℕ
  pub write : A → List ℕ
  pub each : (v : A) → length (write v) ≡ size

module _ {A : Type 0} (form : Form A) where
  pub length_run : (vs : List A) → length (flat_map form.write vs) ≡ length vs * form.size
  length_run vs = length_flat_map form.size form.write vs (all_of form.each vs)

  -- value i of a run
  sets_value : (vs : List A) (i : ℕ) (x : A) → i < length vs → sets (flat_map form.write vs) (i * form.size) (form.write x) ≡ flat_map form.write (set vs i x)
  unfolding flat_map
  sets_value [] i x h = absurd (not-suc-le-zero h)
  sets_value (v ∷ vs) zero x h =
      let same : length (form.write x) ≡ length (form.write v) = form.each x ∙ sym (form.each v) in
      rw (zero-mul, sets_left (form.write v) (flat_map form.write vs) (form.write x) 0 (omega arith), sets_whole (form.write v) (form.write x) same)
  sets_value (v ∷ vs) (suc i) x h =
      let place : suc i * form.size ≡ length (form.write v) + i * form.size = omega (arith, suc-mul i form.size, form.each v) in
      rw (place, sets_right, sets_value vs i x (omega arith))

  -- the first n values of a run, and the others
  module _ (n : ℕ) (vs : List A) (within : n ≤ length vs) where
    split : flat_map form.write vs ≡ flat_map form.write (take n vs) ++ flat_map form.write (drop n vs)
    split = ap (flat_map form.write) (sym (take-append-drop n vs)) ∙ flat_map_append form.write (take n vs) (drop n vs)

    first : length (flat_map form.write (take n vs)) ≡ n * form.size
    first = length_run (take n vs) ∙ ap (λ (m : ℕ). m * form.size) (length-take-le n vs within)

    run_before : (rest : List ℕ) → take (n * form.size) (flat_map form.write vs ++ rest) ≡ flat_map form.write (take n vs)
    run_before rest = rw (split, append_assoc) (take_at (flat_map form.write (take n vs)) _ (n * form.size) first)

    run_after : drop (n * form.size) (flat_map form.write vs) ≡ flat_map form.write (drop n vs)
    run_after = rw split (drop_at (flat_map form.write (take n vs)) _ (n * form.size) first)

-- ---- part k of a session's bytes

-- the bytes of a session whose numbers fit
pub record Spells (b : List ℕ) (s : Session) : Type 0 where
  pub fits : Fitting s
  pub bytes : b ≡ encode_of s

module _ {b : List ℕ} {s : Session} (h : Spells b s) (k : ℕ) (known : k < length sizes) where
  abbrev at : ℕ
  at = total (take k sizes)

  abbrev part : List ℕ
  part = get_or (parts_of s) k []

  in_part : (m : ℕ) (us : List ℕ) → m + length us ≤ length part → sets b (at + m) us ≡ flatten (set (parts_of s) k (sets part m us))
  unfolding encode_of
  in_part m us room = rw (h.bytes, ← lengths s h.fits) (sets_part k (parts_of s) m us known room)

  at_start : (us : List ℕ) → length us ≤ length part → sets b at us ≡ flatten (set (parts_of s) k (sets part 0 us))
  at_start us room = ap (λ (n : ℕ). sets b n us) (sym (add-zero at)) ∙ in_part 0 us (omega arith)

  whole_part : (us : List ℕ) → length us ≡ length part → sets b at us ≡ flatten (set (parts_of s) k us)
  whole_part us same = at_start us (omega arith) ∙ ap (λ (p : List ℕ). flatten (set (parts_of s) k p)) (sets_whole part us same)

  module _ {A : Type 0} (form : Form A) where
    -- the part is one value
    pub value_put : {after : List ℕ} (v x : A) → part ≡ form.write v → after ≡ sets b at (form.write x) → after ≡ flatten (set (parts_of s) k (form.write x))
    value_put v x is e = e ∙ whole_part (form.write x) (form.each x ∙ sym (form.each v) ∙ ap length (sym is))

    -- it is a run of values
    module _ (vs : List A) (run : part ≡ flat_map form.write vs) where
      -- value i
      pub element_put : {after : List ℕ} (i : ℕ) (x : A) → i < length vs → after ≡ sets b (at + i * form.size) (form.write x)
          → after ≡ flatten (set (parts_of s) k (flat_map form.write (set vs i x)))
      element_put i x within e =
          let next : suc i * form.size ≤ length vs * form.size = mul-le-mul_right form.size within in
          let room : i * form.size + length (form.write x) ≤ length part = rw (run, length_run form vs, form.each x) (omega (arith, suc-mul i form.size)) in
          e ∙ in_part (i * form.size) (form.write x) room
          ∙ ap (λ (p : List ℕ). flatten (set (parts_of s) k p)) (ap (λ (p : List ℕ). sets p (i * form.size) (form.write x)) run ∙ sets_value form vs i x within)

      -- what stands from its start on
      from : drop at b ≡ flat_map form.write vs ++ flatten (drop (suc k) (parts_of s))
      unfolding encode_of flatten
      from =
          let there : k < length (parts_of s) = known in
          rw (h.bytes, ← lengths s h.fits) (from_part k (parts_of s) ∙ ap flatten (drop-cons (parts_of s) k [] there))
          ∙ ap (λ (p : List ℕ). p ++ flatten (drop (suc k) (parts_of s))) run

      -- the n values after the first moved down by one, and x in the place that they free
      pub run_shifted : {after : List ℕ} (n : ℕ) (x : A) → n < length vs
          → after ≡ sets (sets b at (take (n * form.size) (drop (at + form.size) b))) (at + n * form.size) (form.write x)
          → after ≡ flatten (set (parts_of s) k (flat_map form.write (shifted n x vs)))
      unfolding shifted flat_map
      run_shifted n x within e =
          let front = flat_map form.write (take n (drop 1 vs)) in
          let rest = flat_map form.write (drop (suc n) vs) in
          let moved : take (n * form.size) (drop (at + form.size) b) ≡ front = rw (← drop-drop form.size at b, from) (behind vs within) in
          let count : length front ≡ n * form.size = first form n (drop 1 vs) (rw length-drop (omega arith)) in
          let more : length (front ++ form.write x) ≡ suc n * form.size = omega (arith, length-append front (form.write x), form.each x, count, suc-mul n form.size) in
          let room : length (front ++ form.write x) ≤ length (flat_map form.write vs) = rw (more, length_run form vs) (mul-le-mul_right form.size within) in
          let stored : sets (flat_map form.write vs) 0 (front ++ form.write x) ≡ front ++ (form.write x ++ rest) =
          rw (sets-eq (front ++ form.write x) (flat_map form.write vs) 0 (rw zero-add room), zero-add, more, run_after form (suc n) vs within) (append_assoc front (form.write x) rest) in
          rw (e, moved, ← count, sets_append, flat_map_append) (at_start (front ++ form.write x) (rw run room) ∙ ap (λ (p : List ℕ). flatten (set (parts_of s) k p)) (rw run stored))
        where
          behind : (us : List A) → n < length us → take (n * form.size) (drop form.size (flat_map form.write us ++ flatten (drop (suc k) (parts_of s)))) ≡ flat_map form.write (take n (drop 1 us))
          behind [] h = absurd (not-suc-le-zero h)
          behind (u ∷ us) h = rw (append_assoc, drop_at (form.write u) _ form.size (form.each u)) (run_before form n us (omega arith) _)
