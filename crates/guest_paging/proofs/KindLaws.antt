-- Each kind of entry of the manual's tables, by the walk's definitions. Assumes nothing.
use Prim.Native.Nat.{ℕ, zero, suc, ◌+◌, ◌*◌, ◌/◌, ◌%◌, ◌^◌, ◌≤◌, ◌<◌}
use mathlib.Core.Path.{◌≡◌, refl, sym, ◌∙◌, subst}
use mathlib.Core.Bool.{Bool, true, false, cond, not, ◌&&◌, true≢false}
use mathlib.Core.List.{List, [], ◌∷◌, ◌++◌}
use mathlib.Core.Logic.{◌⊎◌, inl, inr}
use native.Mathlib.Omega.{arith}
use lib.Dec.{eqb}
use lib.ListN.{length, get_or, drop}
use Rattle.bits.specs.Words.{bit, mask_of}
use Rattle.bits.specs.LittleEndian.{little_endian}
use Rattle.bits.proofs.Each.{◌⊗◌}
use Rattle.bits.proofs.Tells.{both_true}
use Rattle.guest_paging.specs.Walk.{entry_size, index_of, place_of, entry_at, is_page, is_pae_top, reserved_high, reserved_low, reserved_bits, page_address, next_table, cut_address}
use Rattle.guest_paging.specs.Reference.{field, Kind, kind, always, large, small, IsTold, Made, kinds, Listed}

-- the address that the walk takes from an entry of a kind: of the page, or of the table below
abbrev pub address_by : Kind → ℕ → ℕ → ℕ
address_by k e a = cond k.page (page_address k.levels k.level e (cut_address k.levels a)) (next_table e)

-- what a row of the tables says, by the walk's definitions
pub record Right (k : Kind) : Type 0 where
  pub size : entry_size k.levels ≡ k.bytes
  pub top : is_pae_top k.levels k.level ≡ not k.rights
  pub reserves : (nxe : Bool) → reserved_bits k.levels k.level k.page nxe ≡ mask_of (cond nxe k.reserved (k.reserved ++ k.without_nxe))
  pub counted : 2 ≤ k.levels
  pub deeper : k.page ≡ false → 2 ≤ k.level
  pub spells : (m : List ℕ) (at : ℕ) → entry_at m at k.levels ≡ little_endian k.bytes (drop at m)
  pub paged : (pse : Bool) (e : ℕ) → IsTold k.told pse e → is_page k.levels k.level pse e ≡ k.page
  pub placed : (a t : ℕ) → place_of k.levels k.level (cut_address k.levels a) t ≡ t + k.bytes * field k.first k.last a
  pub makes : (e a : ℕ) → e < 256 ^ k.bytes → Made k.offset k.pieces e (cond k.page a 0) (address_by k e a)
  pub low : (e a p : ℕ) → Made k.offset k.pieces e a p → (p < 2 ^ 52) × (p % 2 ^ 12 ≡ a % 2 ^ 12)
  pub alone : (e a p : ℕ) → e < 256 ^ k.bytes → Made k.offset k.pieces e (cond k.page a 0) p → p ≡ address_by k e a

not_both : (a b : Bool) → ((a ≡ true) × (b ≡ true) → ⊥) → (a && b) ≡ false
not_both true true n = absurd (n (refl, refl))
not_both true false n = refl
not_both false b n = refl

abbrev pub All : (Kind → Type 0) → List Kind → Type 0
All P [] = Unit {0}
All P (k ∷ ks) = P k × All P ks

-- an address in a 4-MByte page has three parts: bits 32 to 39, bits 22 to 31, and those of the virtual address
wide_made : (h m a : ℕ) → h < 256 → m < 1024
    → let p = h * 2 ^ 32 + m * 2 ^ 22 + a % 2 ^ 32 % 2 ^ 22 in (p % 2 ^ 22 ≡ a % 2 ^ 22) × ((p / 2 ^ 22 % 1024 ≡ m) × ((p / 2 ^ 32 % 256 ≡ h) × (p < 2 ^ 40)))
wide_made h m a x y = (omega arith, (omega arith, (omega arith, omega arith)))

wide_alone : (h m a p : ℕ) → p % 2 ^ 22 ≡ a % 2 ^ 22 → p / 2 ^ 22 % 1024 ≡ m → p / 2 ^ 32 % 256 ≡ h → p < 2 ^ 40 → p ≡ h * 2 ^ 32 + m * 2 ^ 22 + a % 2 ^ 32 % 2 ^ 22
wide_alone h m a p x y z w = rw cut (parts (a % 2 ^ 22) x)
  where
    cut : a % 2 ^ 32 % 2 ^ 22 ≡ a % 2 ^ 22
    cut = omega arith

    parts : (l : ℕ) → p % 2 ^ 22 ≡ l → p ≡ h * 2 ^ 32 + m * 2 ^ 22 + l
    parts l q = omega (arith, q, y, z, w)

spelt : (m : List ℕ) (at levels bytes : ℕ) → entry_size levels ≡ bytes → entry_at m at levels ≡ little_endian bytes (drop at m)
unfolding entry_size entry_at
spelt m at levels bytes = go (eqb levels 2)
  where
    go : (b : Bool) → cond b 4 8 ≡ bytes → cond b (little_endian 4 (drop at m)) (little_endian 8 (drop at m)) ≡ little_endian bytes (drop at m)
    go true h = rw (← h)
    go false h = rw (← h)

module _ (k : Kind) where
  -- a row, of what is shown by computing and by arithmetic on its numbers
  row_right : entry_size k.levels ≡ k.bytes → is_pae_top k.levels k.level ≡ not k.rights
      → reserved_bits k.levels k.level k.page true ≡ mask_of k.reserved → reserved_bits k.levels k.level k.page false ≡ mask_of (k.reserved ++ k.without_nxe)
      → 2 ≤ k.levels → (k.page ≡ false → 2 ≤ k.level) → ((pse : Bool) (e : ℕ) → IsTold k.told pse e → is_page k.levels k.level pse e ≡ k.page)
      → ((a t : ℕ) → place_of k.levels k.level (cut_address k.levels a) t ≡ t + k.bytes * field k.first k.last a)
      → ((e a p : ℕ) → Made k.offset k.pieces e a p → (p < 2 ^ 52) × (p % 2 ^ 12 ≡ a % 2 ^ 12))
      → ((e a : ℕ) → e < 256 ^ k.bytes → Made k.offset k.pieces e (cond k.page a 0) (address_by k e a))
      → ((e a p : ℕ) → e < 256 ^ k.bytes → Made k.offset k.pieces e (cond k.page a 0) p → p ≡ address_by k e a)
      → Right k
  row_right size top some none counted deeper paged placed low makes alone =
      record {
        size = size;
        top = top;
        reserves = by_nxe some none;
        counted = counted;
        deeper = deeper;
        spells = λ m at. spelt m at k.levels k.bytes size;
        paged = paged;
        placed = placed;
        low = low;
        makes = makes;
        alone = alone;
      }
    where
      by_nxe : reserved_bits k.levels k.level k.page true ≡ mask_of k.reserved → reserved_bits k.levels k.level k.page false ≡ mask_of (k.reserved ++ k.without_nxe)
          → (nxe : Bool) → reserved_bits k.levels k.level k.page nxe ≡ mask_of (cond nxe k.reserved (k.reserved ++ k.without_nxe))
      by_nxe s n true = s
      by_nxe s n false = n

-- what stands past the end of the list is not used
abbrev none : Kind
none = kind 0 0 always false 0 0 0 false [] [] 0 []

abbrev nth : ℕ → Kind
nth n = get_or kinds n none

-- each row of the tables
all_right : All Right kinds
unfolding entry_size place_of index_of cut_address is_page is_pae_top reserved_high reserved_low reserved_bits page_address
all_right =
    row_right (nth 0) refl refl refl refl (omega arith) (λ h. absurd (true≢false h)) (λ pse e h. rw (h.0, h.1)) (λ a t. omega arith)
    (λ e a p m. (omega (arith, m.1.1.1), omega (arith, m.0))) (λ e a h. wide_made (e / 2 ^ 13 % 256) (e / 2 ^ 22 % 1024) a (omega arith) (omega arith)) (λ e a p h m. wide_alone (e / 2 ^ 13 % 256) (e / 2 ^ 22 % 1024) a p m.0 m.1.0 m.1.1.0 m.1.1.1)
    ⊗ row_right (nth 1) refl refl refl refl (omega arith) (λ h. omega arith) (λ pse e h. not_both pse (bit 7 e) h) (λ a t. omega arith)
    (λ e a p m. (omega (arith, m.1.1), omega (arith, m.0))) (λ e a h. (omega arith, (omega arith, omega arith))) (λ e a p h m. omega (arith, m.0, m.1.0, m.1.1))
    ⊗ row_right (nth 2) refl refl refl refl (omega arith) (λ h. absurd (true≢false h)) (λ pse e h. refl) (λ a t. omega arith)
    (λ e a p m. (omega (arith, m.1.1), omega (arith, m.0))) (λ e a h. (omega arith, (omega arith, omega arith))) (λ e a p h m. omega (arith, m.0, m.1.0, m.1.1))
    ⊗ row_right (nth 3) refl refl refl refl (omega arith) (λ h. omega arith) (λ pse e h. refl) (λ a t. omega arith)
    (λ e a p m. (omega (arith, m.1.1), omega (arith, m.0))) (λ e a h. (omega arith, (omega arith, omega arith))) (λ e a p h m. omega (arith, m.0, m.1.0, m.1.1))
    ⊗ row_right (nth 4) refl refl refl refl (omega arith) (λ h. absurd (true≢false h)) (λ pse e h. rw (h.0, h.1)) (λ a t. omega arith)
    (λ e a p m. (omega (arith, m.1.1), omega (arith, m.0))) (λ e a h. (omega arith, (omega arith, omega arith))) (λ e a p h m. omega (arith, m.0, m.1.0, m.1.1))
    ⊗ row_right (nth 5) refl refl refl refl (omega arith) (λ h. omega arith) (λ pse e h. not_both pse (bit 7 e) h) (λ a t. omega arith)
    (λ e a p m. (omega (arith, m.1.1), omega (arith, m.0))) (λ e a h. (omega arith, (omega arith, omega arith))) (λ e a p h m. omega (arith, m.0, m.1.0, m.1.1))
    ⊗ row_right (nth 6) refl refl refl refl (omega arith) (λ h. absurd (true≢false h)) (λ pse e h. refl) (λ a t. omega arith)
    (λ e a p m. (omega (arith, m.1.1), omega (arith, m.0))) (λ e a h. (omega arith, (omega arith, omega arith))) (λ e a p h m. omega (arith, m.0, m.1.0, m.1.1))
    ⊗ row_right (nth 7) refl refl refl refl (omega arith) (λ h. omega arith) (λ pse e h. refl) (λ a t. omega arith)
    (λ e a p m. (omega (arith, m.1.1), omega (arith, m.0))) (λ e a h. (omega arith, (omega arith, omega arith))) (λ e a p h m. omega (arith, m.0, m.1.0, m.1.1))
    ⊗ row_right (nth 8) refl refl refl refl (omega arith) (λ h. absurd (true≢false h)) (λ pse e h. rw (h.0, h.1)) (λ a t. omega arith)
    (λ e a p m. (omega (arith, m.1.1), omega (arith, m.0))) (λ e a h. (omega arith, (omega arith, omega arith))) (λ e a p h m. omega (arith, m.0, m.1.0, m.1.1))
    ⊗ row_right (nth 9) refl refl refl refl (omega arith) (λ h. omega arith) (λ pse e h. not_both pse (bit 7 e) h) (λ a t. omega arith)
    (λ e a p m. (omega (arith, m.1.1), omega (arith, m.0))) (λ e a h. (omega arith, (omega arith, omega arith))) (λ e a p h m. omega (arith, m.0, m.1.0, m.1.1))
    ⊗ row_right (nth 10) refl refl refl refl (omega arith) (λ h. absurd (true≢false h)) (λ pse e h. rw (h.0, h.1)) (λ a t. omega arith)
    (λ e a p m. (omega (arith, m.1.1), omega (arith, m.0))) (λ e a h. (omega arith, (omega arith, omega arith))) (λ e a p h m. omega (arith, m.0, m.1.0, m.1.1))
    ⊗ row_right (nth 11) refl refl refl refl (omega arith) (λ h. omega arith) (λ pse e h. not_both pse (bit 7 e) h) (λ a t. omega arith)
    (λ e a p m. (omega (arith, m.1.1), omega (arith, m.0))) (λ e a h. (omega arith, (omega arith, omega arith))) (λ e a p h m. omega (arith, m.0, m.1.0, m.1.1))
    ⊗ row_right (nth 12) refl refl refl refl (omega arith) (λ h. absurd (true≢false h)) (λ pse e h. refl) (λ a t. omega arith)
    (λ e a p m. (omega (arith, m.1.1), omega (arith, m.0))) (λ e a h. (omega arith, (omega arith, omega arith))) (λ e a p h m. omega (arith, m.0, m.1.0, m.1.1))
    ⊗ tt

right_in : (ks : List Kind) → All Right ks → (k : Kind) → Listed k ks → Right k
right_in [] r k h = absurd h
right_in (x ∷ ks) r k (inl e) = subst Right (sym e) r.0
right_in (x ∷ ks) r k (inr h) = right_in ks r.1 k h

pub right_of : (k : Kind) → Listed k kinds → Right k
right_of k h = right_in kinds all_right k h

-- ---- each entry of a level has its kind

pub record Found (levels level : ℕ) (pse : Bool) (e : ℕ) : Type 0 where
  pub kind : Kind
  pub listed : Listed kind kinds
  pub levels_are : kind.levels ≡ levels
  pub level_is : kind.level ≡ level
  pub told : IsTold kind.told pse e

listed_at : (n : ℕ) (ks : List Kind) → n < length ks → Listed (get_or ks n none) ks
listed_at n [] h = absurd (omega arith)
listed_at zero (k ∷ ks) h = inl refl
listed_at (suc n) (k ∷ ks) h = inr (listed_at n ks (omega arith))

module _ (pse : Bool) (e : ℕ) where
  row : (n : ℕ) → n < 13 → IsTold (nth n).told pse e → Found (nth n).levels (nth n).level pse e
  row n h t = record { kind = nth n; listed = listed_at n kinds h; levels_are = refl; level_is = refl; told = t }

  pick : {F : Type 0} → (IsTold large pse e → F) → (IsTold small pse e → F) → F
  pick {F} f g = go (pse && bit 7 e) refl
    where
      go : (b : Bool) → (pse && bit 7 e) ≡ b → F
      go true h = f (both_true pse (bit 7 e) h)
      go false h = g (λ b. true≢false (sym (rw (b.0, b.1)) ∙ h))

  two : (l : ℕ) → 1 ≤ l → l ≤ 2 → Found 2 l pse e
  two zero h k = absurd (omega arith)
  two (suc zero) h k = row 2 (omega arith) tt
  two (suc (suc zero)) h k = pick (row 0 (omega arith)) (row 1 (omega arith))
  two (suc (suc (suc l))) h k = absurd (omega arith)

  three : (l : ℕ) → 1 ≤ l → l ≤ 3 → Found 3 l pse e
  three zero h k = absurd (omega arith)
  three (suc zero) h k = row 6 (omega arith) tt
  three (suc (suc zero)) h k = pick (row 4 (omega arith)) (row 5 (omega arith))
  three (suc (suc (suc zero))) h k = row 3 (omega arith) tt
  three (suc (suc (suc (suc l)))) h k = absurd (omega arith)

  four : (l : ℕ) → 1 ≤ l → l ≤ 4 → Found 4 l pse e
  four zero h k = absurd (omega arith)
  four (suc zero) h k = row 12 (omega arith) tt
  four (suc (suc zero)) h k = pick (row 10 (omega arith)) (row 11 (omega arith))
  four (suc (suc (suc zero))) h k = pick (row 8 (omega arith)) (row 9 (omega arith))
  four (suc (suc (suc (suc zero)))) h k = row 7 (omega arith) tt
  four (suc (suc (suc (suc (suc l))))) h k = absurd (omega arith)

  pub found : (levels l : ℕ) → (levels ≡ 2) ⊎ (levels ≡ 3) ⊎ (levels ≡ 4) → 1 ≤ l → l ≤ levels → Found levels l pse e
  found levels l (inl h) x y = subst (λ n. Found n l pse e) (sym h) (two l x (omega (arith, h, y)))
  found levels l (inr (inl h)) x y = subst (λ n. Found n l pse e) (sym h) (three l x (omega (arith, h, y)))
  found levels l (inr (inr h)) x y = subst (λ n. Found n l pse e) (sym h) (four l x (omega (arith, h, y)))
