-- The loops that read and write runs: what holds at each turn, for every size and every type of element. Assumes nothing.
use mathlib.Core.Path.{◌≡◌, refl, sym, ap, ◌∙◌}
use mathlib.Core.List.{List, [], ◌∷◌, ◌++◌, append-nil, append_assoc, flat_map}
use Prim.Native.Nat.{ℕ, zero, suc, ◌+◌, ◌*◌, ◌≤◌, ◌<◌}
use native.Mathlib.Nat.{zero-mul, suc-mul, add-zero, not-suc-le-zero}
use native.Mathlib.Numerals.{add-one}
use native.Mathlib.Omega.{arith}
use lib.ListN.{length, get_or, take, drop, set, length-append, length-take, length-set}
use lib.Seq.{take-suc, take_all, take-suc-set, drop-drop, sets, length-sets}
use Rattle.record.specs.Runs.{read_all, All}
use Rattle.record.proofs.Stores.{sets_append}

module _ {A : Type 0} where
  pub length_read_all : (size : ℕ) (read : List ℕ → A) (n : ℕ) (bs : List ℕ) → length (read_all size read n bs) ≡ n
  unfolding read_all
  length_read_all size read zero bs = refl
  length_read_all size read (suc n) bs = ap suc (length_read_all size read n (drop size bs))

  -- one value more, at the end
  pub read_all_more : (size : ℕ) (read : List ℕ → A) (n : ℕ) (bs : List ℕ)
      → read_all size read (suc n) bs ≡ read_all size read n bs ++ (read (drop (n * size) bs) ∷ [])
  unfolding read_all
  read_all_more size read zero bs = rw zero-mul
  read_all_more size read (suc n) bs =
      let sum : size + n * size ≡ suc n * size = omega (arith, suc-mul n size) in
      let step : drop (n * size) (drop size bs) ≡ drop (suc n * size) bs = drop-drop (n * size) size bs ∙ ap (λ (k : ℕ). drop k bs) sum in
      rw (← step) (ap (λ (l : List A). read bs ∷ l) (read_all_more size read n (drop size bs)))

  -- value i, in place
  pub read_all_at : (size : ℕ) (read : List ℕ → A) (n at : ℕ) (bs : List ℕ) (i : ℕ) (d : A) → i < n → read (drop (at + i * size) bs) ≡ get_or (read_all size read n (drop at bs)) i d
  unfolding read_all
  read_all_at size read zero at bs i d h = absurd (not-suc-le-zero h)
  read_all_at size read (suc n) at bs zero d h = rw (zero-mul, add-zero)
  read_all_at size read (suc n) at bs (suc i) d h =
      let place : at + suc i * size ≡ at + size + i * size = omega (arith, suc-mul i size) in
      rw (place, drop-drop size at bs) (read_all_at size read n (at + size) bs i d (omega arith))

  -- `out` has its first i values
  pub record Filled (size : ℕ) (read : List ℕ → A) (bs : List ℕ) (at n : ℕ) (out : List A) (i : ℕ) : Type 0 where
    pub within : i ≤ n
    pub sized : length out ≡ n
    pub front : take i out ≡ read_all size read i (drop at bs)

  module _ {size : ℕ} {read : List ℕ → A} {bs : List ℕ} {at n : ℕ} {out : List A} where
    pub filled_none : length out ≡ n → Filled size read bs at n out 0
    unfolding read_all
    filled_none e = record { within = omega arith; sized = e; front = refl }

    module _ {i : ℕ} (f : Filled size read bs at n out i) where
      pub filled_more : {v : A} → i < n → v ≡ read (drop (at + i * size) bs) → Filled size read bs at n (set out i v) (i + 1)
      filled_more {v} h e =
          let long : i < length out = rw f.sized h in
          record {
            within = omega arith;
            sized = length-set out i v ∙ f.sized;
            front = rw (add-one, take-suc-set out i v long, read_all_more, drop-drop, f.front, e);
          }

      pub filled_all : n ≤ i → out ≡ read_all size read n (drop at bs)
      filled_all h =
          let same : i ≡ n = omega (arith, f.within) in
          rw same at (sym (take_all i out (rw f.sized h)) ∙ f.front)

  pub flat_map_append : (write : A → List ℕ) (us vs : List A) → flat_map write (us ++ vs) ≡ flat_map write us ++ flat_map write vs
  unfolding flat_map
  flat_map_append write [] vs = refl
  flat_map_append write (u ∷ us) vs = rw (flat_map_append write us vs, append_assoc)

  -- one value more, at the end
  flat_map_more : (write : A → List ℕ) (vs : List A) (i : ℕ) (d : A) → i < length vs
      → flat_map write (take (suc i) vs) ≡ flat_map write (take i vs) ++ write (get_or vs i d)
  unfolding flat_map
  flat_map_more write vs i d h =
      rw (take-suc vs i d h, flat_map_append) (ap (λ (l : List ℕ). flat_map write (take i vs) ++ l) (append-nil (write (get_or vs i d))))

  pub all_map : {P Q : A → Type 0} → ((v : A) → P v → Q v) → (vs : List A) → All P vs → All Q vs
  all_map f [] h = tt
  all_map f (v ∷ vs) h = (f v h.0, all_map f vs h.1)

  pub all_of : {P : A → Type 0} → ((v : A) → P v) → (vs : List A) → All P vs
  all_of f [] = tt
  all_of f (v ∷ vs) = (f v, all_of f vs)

  -- one value more, at the end
  all_more : (P : A → Type 0) (vs : List A) (i : ℕ) (d : A) → i < length vs → All P (take i vs) → P (get_or vs i d) → All P (take (suc i) vs)
  all_more P [] i d h a p = tt
  all_more P (v ∷ vs) zero d h a p = (p, tt)
  all_more P (v ∷ vs) (suc i) d h a p = (a.0, all_more P vs i d (omega arith) a.1 p)

  pub length_flat_map : (size : ℕ) (write : A → List ℕ) (vs : List A) → All (λ v. length (write v) ≡ size) vs → length (flat_map write vs) ≡ length vs * size
  unfolding flat_map
  length_flat_map size write [] h = sym (zero-mul size)
  length_flat_map size write (v ∷ vs) h =
      omega (arith, length-append (write v) (flat_map write vs), h.0, length_flat_map size write vs h.1, suc-mul (length vs) size)

  -- the first i values of `vs` fit, and are stored
  pub record Written (size : ℕ) (write : A → List ℕ) (Fits : A → Type 0) (l : List ℕ) (at : ℕ) (vs : List A) (b : List ℕ) (i : ℕ) : Type 0 where
    pub within : i ≤ length vs
    pub sized : length b ≡ length l
    pub front : b ≡ sets l at (flat_map write (take i vs))
    pub fit : All Fits (take i vs)

  module _ {size : ℕ} {write : A → List ℕ} {Fits : A → Type 0} {l : List ℕ} {at : ℕ} {vs : List A} where
    pub written_none : Written size write Fits l at vs l 0
    unfolding flat_map
    written_none = record { within = omega arith; sized = refl; front = refl; fit = tt }

    module _ {b : List ℕ} {i : ℕ} (s : Written size write Fits l at vs b i) where
      pub written_more : (d : A) {b' : List ℕ} → ((v : A) → length (write v) ≡ size) → i < length vs
          → b' ≡ sets b (at + i * size) (write (get_or vs i d)) → Fits (get_or vs i d) → Written size write Fits l at vs b' (i + 1)
      written_more d {b'} each h e fit =
          let count : length (take i vs) ≡ i = simp length-take (omega arith) in
          let past : at + i * size ≡ at + length (flat_map write (take i vs)) = sym (rw (length_flat_map size write (take i vs) (all_of each (take i vs)), count)) in
          record {
            within = omega arith;
            sized = ap length e ∙ length-sets b (at + i * size) (write (get_or vs i d)) ∙ s.sized;
            front = e ∙ rw (s.front, past, sets_append, add-one, flat_map_more write vs i d h);
            fit = rw add-one (all_more Fits vs i d h s.fit fit);
          }

      pub written_all : length vs ≤ i → b ≡ sets l at (flat_map write vs)
      written_all h = rw take_all at s.front

      pub written_fits : length vs ≤ i → All Fits vs
      written_fits h = rw take_all at s.fit

  -- nothing is asked of the values
  abbrev pub Any : A → Type 0
  Any v = Unit
