-- One edit: its number, the lengths that it keeps, that bytes stay bytes, each bit after it; and two edits with nothing in common, in either order. The three edits of MSRs are one, of
-- some accesses. Assumes nothing.
use Prim.Native.Nat.{ℕ, ◌+◌, ◌-◌, ◌<◌, ◌≤◌}
use native.Mathlib.Decide.{dec_lt, ℕ_discrete}
use native.Mathlib.Omega.{arith}
use mathlib.Core.Path.{◌≡◌, refl, sym, ap, ◌∙◌, subst}
use mathlib.Core.Logic.{◌≢◌, ◌⊎◌, inl, inr, ⊎_elim, dite}
use mathlib.Core.Bool.{Bool, true, false, cond, not, ◌&&◌}
use mathlib.Core.List.{List, [], ◌∷◌}
use lib.Dec.{T, eqb, ltb}
use lib.ListN.{length}
use borrow.Author.Tests.{ltb-true, ltb-false, eq-eqb, ne_eqb}
use Rattle.bits.specs.Refuses.{by, Refuses}
use Rattle.bits.proofs.Tells.{cond_all, refuses_one}
use Rattle.structs.specs.declared.Access.{Access}
use Rattle.structs.specs.declared.Access.TheVariants.{Read, Write}
use Rattle.structs.specs.Bitmap.{in_range}
use Rattle.structs.specs.Frames.{IOBitmap, PortEdit, MsrEdit, frames_of, port_intercept, msr_intercept, edit_ports, edit_msrs, covered}
use Rattle.structs.specs.Numbers.{PortNumbers, MsrNumbers, IsMsr}
use Rattle.structs.proofs.BitmapLaws.{range_of_one, guarded_comm}
use Rattle.structs.proofs.PortLaws.{port_numbers, port_refused, port_length_a, port_length_b, port_below, port_edited, ports_commute}
use Rattle.structs.proofs.MsrLaws.{msr_numbers, msr_refused, msr_length, msr_below, msr_edited, msrs_commute}
use Rattle.call_specs.specs.Calls.{port_call, msr_call, reads, writes, both}
use Rattle.intercepts.specs.Edits.{Frames, lengths_of, Edit, set_io_intercept_of_range, set_read_intercept, set_write_intercept, set_msr_intercept_of_range, Edited, ports_edited, msrs_edited, edited, Item, port, access, Real, trapped, covers, asked}
use Rattle.intercepts.specs.TwoHands.{Disjoint, msr_rules, rules, Bytes}

-- ---- edits of MSRs as one

data Kind : Type 0 where
  ports : ℕ → ℕ → ℕ → Kind
  msrs : List Access → ℕ → ℕ → Kind

abbrev kind_of : Edit → Kind
kind_of (set_io_intercept_of_range base count v) = ports base count v
kind_of (set_read_intercept m v) = msrs reads m v
kind_of (set_write_intercept m v) = msrs writes m v
kind_of (set_msr_intercept_of_range m v) = msrs both m v

abbrev edited_as : Frames → Kind → Edited
edited_as f (ports base count v) = ports_edited f.msr (port_call f.a f.b base count v)
edited_as f (msrs l m v) = msrs_edited f.a f.b (msr_call l f.msr m v)

abbrev covers_as : Kind → Item → Bool
covers_as (ports base count v) (port p) = in_range base count p
covers_as (ports base count v) (access x n) = false
covers_as (msrs l m v) (port p) = false
covers_as (msrs l m v) (access x n) = covered m 1 l x n

abbrev asked_as : Kind → Bool
asked_as (ports base count v) = eqb v 1
asked_as (msrs l m v) = eqb v 1

edited_as_lem : (f : Frames) (e : Edit) → edited f e ≡ edited_as f (kind_of e)
edited_as_lem f (set_io_intercept_of_range base count v) = refl
edited_as_lem f (set_read_intercept m v) = refl
edited_as_lem f (set_write_intercept m v) = refl
edited_as_lem f (set_msr_intercept_of_range m v) = refl

covers_as_lem : (e : Edit) (i : Item) → covers e i ≡ covers_as (kind_of e) i
covers_as_lem (set_io_intercept_of_range base count v) (port p) = refl
covers_as_lem (set_io_intercept_of_range base count v) (access x n) = refl
covers_as_lem (set_read_intercept m v) (port p) = refl
covers_as_lem (set_read_intercept m v) (access Read n) = sym (range_of_one m n)
covers_as_lem (set_read_intercept m v) (access Write n) = refl
covers_as_lem (set_write_intercept m v) (port p) = refl
covers_as_lem (set_write_intercept m v) (access Read n) = refl
covers_as_lem (set_write_intercept m v) (access Write n) = sym (range_of_one m n)
covers_as_lem (set_msr_intercept_of_range m v) (port p) = refl
covers_as_lem (set_msr_intercept_of_range m v) (access Read n) = sym (range_of_one m n)
covers_as_lem (set_msr_intercept_of_range m v) (access Write n) = sym (range_of_one m n)

asked_as_lem : (e : Edit) → asked e ≡ asked_as (kind_of e)
asked_as_lem (set_io_intercept_of_range base count v) = refl
asked_as_lem (set_read_intercept m v) = refl
asked_as_lem (set_write_intercept m v) = refl
asked_as_lem (set_msr_intercept_of_range m v) = refl

-- ---- lengths, and bytes

lengths_as : (f : Frames) (k : Kind) → lengths_of (edited_as f k).frames ≡ lengths_of f
unfolding port_call msr_call
lengths_as f (ports base count v) =
    cond_all (λ (r : PortEdit). lengths_of (ports_edited f.msr r).frames ≡ lengths_of f) (ltb 1 v) _ _ (λ _. refl)
    (λ _. rw (port_length_a f.a f.b base count (eqb v 1), port_length_b f.a f.b base count (eqb v 1)))
lengths_as f (msrs l m v) =
    cond_all (λ (r : MsrEdit). lengths_of (msrs_edited f.a f.b r).frames ≡ lengths_of f) (ltb 1 v) _ _ (λ _. refl) (λ _. rw (msr_length f.msr m 1 l (eqb v 1)))

pub lengths_kept : (f : Frames) (e : Edit) → lengths_of (edited f e).frames ≡ lengths_of f
lengths_kept f e = ap (λ (r : Edited). lengths_of r.frames) (edited_as_lem f e) ∙ lengths_as f (kind_of e)

bytes_as : (f : Frames) (k : Kind) → Bytes f → Bytes (edited_as f k).frames
unfolding port_call msr_call
bytes_as f (ports base count v) w =
    cond_all (λ (r : PortEdit). Bytes (ports_edited f.msr r).frames) (ltb 1 v) _ _ (λ _. w)
    (λ _. let p = port_below f.a f.b base count (eqb v 1) w.0 w.1 in (p.0, p.1, w.2))
bytes_as f (msrs l m v) w =
    cond_all (λ (r : MsrEdit). Bytes (msrs_edited f.a f.b r).frames) (ltb 1 v) _ _ (λ _. w) (λ _. (w.0, w.1, msr_below f.msr m 1 l (eqb v 1) w.2))

pub bytes_kept : (f : Frames) (e : Edit) → Bytes f → Bytes (edited f e).frames
bytes_kept f e w = rw (edited_as_lem f e) (bytes_as f (kind_of e) w)

-- ---- numbers

-- where each number is given, and by which rule
port_rules : (la lb base count n : ℕ) → PortNumbers la lb base count n
    → Refuses (by 2 ((la ≢ 4096) ⊎ (lb ≢ 4096)) ∷ by 10 ((0 < count) × (65535 < base + count - 1)) ∷ []) n
port_rules la lb base count n p =
    dite (ℕ_discrete la 4096)
    (λ x. dite (ℕ_discrete lb 4096)
    (λ y. inr (⊎_elim (λ o. o x) (λ o. o y), last x y))
    (λ y. inl (inr y, p.is_2.1 (inr y))))
    (λ x. inl (inl x, p.is_2.1 (inl x)))
  where
    last : la ≡ 4096 → lb ≡ 4096 → Refuses (by 10 ((0 < count) × (65535 < base + count - 1)) ∷ []) n
    last x y =
        dite (dec_lt 0 count)
        (λ some. dite (dec_lt 65535 (base + count - 1))
        (λ g. inl ((some, g), p.is_10.1 (x, y, some, g)))
        (λ g. inr (λ w. g w.1, p.is_0.1 (x, y, λ _. omega arith))))
        (λ none. inr (λ w. none w.0, p.is_0.1 (x, y, λ some. absurd (none some))))

msr_rules_lem : (len m n : ℕ) → MsrNumbers len m 1 n → Refuses (by 2 (len ≢ 4096) ∷ by 11 (IsMsr m → ⊥) ∷ []) n
msr_rules_lem len m n p =
    dite (ℕ_discrete len 4096)
    (λ x. inr (
      λ o. o x,
      dite (ℕ_discrete n 0)
          (λ z. inr (λ o. o (p.is_0.0 z).1, z))
          (λ o. let none : IsMsr m → ⊥ = λ r. o (p.is_0.1 (x, r)) in inl (none, p.is_11.1 (x, λ l. none (inl l), λ h. none (inr h)))),
    ))
    (λ x. inl (x, p.is_2.1 x))

-- the yes/no byte's 2 comes before these
ports_numbers : (f : Frames) (base count v : ℕ) → Refuses (rules (lengths_of f) (set_io_intercept_of_range base count v)) (port_call f.a f.b base count v).refusal
unfolding port_call
ports_numbers f base count v =
    cond_all (λ (r : PortEdit). Refuses (rules (lengths_of f) (set_io_intercept_of_range base count v)) r.refusal) (ltb 1 v) _ _
    (λ e. inl (ltb-true 1 v e, refl))
    (λ e. inr (λ (g : 1 < v). let h : v ≤ 1 = ltb-false 1 v e in omega arith, port_rules _ _ base count _ (port_numbers f.a f.b base count (eqb v 1))))

msrs_numbers : (f : Frames) (l : List Access) (m v : ℕ) → Refuses (msr_rules (length f.msr) m v) (msr_call l f.msr m v).refusal
unfolding msr_call
msrs_numbers f l m v =
    cond_all (λ (r : MsrEdit). Refuses (msr_rules (length f.msr) m v) r.refusal) (ltb 1 v) _ _
    (λ e. inl (ltb-true 1 v e, refl))
    (λ e. inr (λ (g : 1 < v). let h : v ≤ 1 = ltb-false 1 v e in omega arith, msr_rules_lem _ m _ (msr_numbers f.msr m 1 l (eqb v 1))))

pub numbers : (f : Frames) (e : Edit) → Refuses (rules (lengths_of f) e) (edited f e).refusal
numbers f (set_io_intercept_of_range base count v) = ports_numbers f base count v
numbers f (set_read_intercept m v) = msrs_numbers f reads m v
numbers f (set_write_intercept m v) = msrs_numbers f writes m v
numbers f (set_msr_intercept_of_range m v) = msrs_numbers f both m v

-- from frames of the same lengths an edit gets the same number
pub alike : (f g : Frames) → lengths_of g ≡ lengths_of f → (e : Edit) → (edited g e).refusal ≡ (edited f e).refusal
alike f g same e =
    refuses_one (rules (lengths_of f) e) _ _ (subst (λ (l : ℕ × ℕ × ℕ). Refuses (rules l e) (edited g e).refusal) same (numbers g e)) (numbers f e)

-- ---- each bit after an edit

-- what an edit of number n, which covers or does not, makes of a bit
pub told : (n : ℕ) (covered v w : Bool) {x : Bool} → (n ≡ 0 → x ≡ cond covered v w) → (n ≢ 0 → x ≡ w) → x ≡ cond (eqb n 0 && covered) v w
told n covered v w made left = dite (ℕ_discrete n 0) (λ e. rw (eq-eqb n 0 e) (made e)) (λ o. rw (ne_eqb n 0 o) (left o))

port_at : (a b : List ℕ) (base count v p : ℕ)
    → port_intercept (port_call a b base count v).a (port_call a b base count v).b p
    ≡ cond (eqb (port_call a b base count v).refusal 0 && in_range base count p) (eqb v 1) (port_intercept a b p)
unfolding port_call
port_at a b base count v p =
    cond_all (λ (r : PortEdit). port_intercept r.a r.b p ≡ cond (eqb r.refusal 0 && in_range base count p) (eqb v 1) (port_intercept a b p)) (ltb 1 v) _ _ (λ _. refl)
    (λ _. told _ (in_range base count p) (eqb v 1) (port_intercept a b p) (λ e. port_edited a b base count (eqb v 1) e p)
    (λ o. ap (λ (io : IOBitmap). port_intercept io.a io.b p) (port_refused a b base count (eqb v 1) o)))

msr_at : (xs : List ℕ) (l : List Access) (m v : ℕ) (x : Access) (n : ℕ) → IsMsr n
    → msr_intercept (msr_call l xs m v).frame x n ≡ cond (eqb (msr_call l xs m v).refusal 0 && covered m 1 l x n) (eqb v 1) (msr_intercept xs x n)
unfolding msr_call
msr_at xs l m v x n s =
    cond_all (λ (r : MsrEdit). msr_intercept r.frame x n ≡ cond (eqb r.refusal 0 && covered m 1 l x n) (eqb v 1) (msr_intercept xs x n)) (ltb 1 v) _ _ (λ _. refl)
    (λ _. told _ (covered m 1 l x n) (eqb v 1) (msr_intercept xs x n) (λ e. msr_edited xs m 1 l (eqb v 1) e x n s) (λ o. ap (λ (ys : List ℕ). msr_intercept ys x n) (msr_refused xs m 1 l (eqb v 1) o)))

bit_as : (f : Frames) (k : Kind) (i : Item) → Real i → trapped (edited_as f k).frames i ≡ cond (eqb (edited_as f k).refusal 0 && covers_as k i) (asked_as k) (trapped f i)
bit_as f (ports base count v) (port p) r = port_at f.a f.b base count v p
bit_as f (ports base count v) (access x n) r = told (edited_as f (ports base count v)).refusal false (eqb v 1) (msr_intercept f.msr x n) (λ _. refl) (λ _. refl)
bit_as f (msrs l m v) (port p) r = told (edited_as f (msrs l m v)).refusal false (eqb v 1) (port_intercept f.a f.b p) (λ _. refl) (λ _. refl)
bit_as f (msrs l m v) (access x n) r = msr_at f.msr l m v x n r

pub bit_after : (f : Frames) (e : Edit) (i : Item) → Real i → trapped (edited f e).frames i ≡ cond (eqb (edited f e).refusal 0 && covers e i) (asked e) (trapped f i)
bit_after f e i r = rw (edited_as_lem f e, covers_as_lem e i, asked_as_lem e) (bit_as f (kind_of e) i r)

-- ---- a refused edit

port_left : (a b : List ℕ) (base count v : ℕ) → (port_call a b base count v).refusal ≢ 0 → frames_of (port_call a b base count v) ≡ record { a = a; b = b }
unfolding port_call
port_left a b base count v =
    cond_all (λ (r : PortEdit). r.refusal ≢ 0 → frames_of r ≡ record { a = a; b = b }) (ltb 1 v) _ _ (λ _ _. refl) (λ _. port_refused a b base count (eqb v 1))

msr_left : (xs : List ℕ) (l : List Access) (m v : ℕ) → (msr_call l xs m v).refusal ≢ 0 → (msr_call l xs m v).frame ≡ xs
unfolding msr_call
msr_left xs l m v = cond_all (λ (r : MsrEdit). r.refusal ≢ 0 → r.frame ≡ xs) (ltb 1 v) _ _ (λ _ _. refl) (λ _. msr_refused xs m 1 l (eqb v 1))

abbrev with_ports : Frames → IOBitmap → Frames
with_ports f io = record { a = io.a; b = io.b; msr = f.msr }

abbrev with_msrs : Frames → List ℕ → Frames
with_msrs f xs = record { a = f.a; b = f.b; msr = xs }

left_as : (f : Frames) (k : Kind) → (edited_as f k).refusal ≢ 0 → (edited_as f k).frames ≡ f
left_as f (ports base count v) o = ap (with_ports f) (port_left f.a f.b base count v o)
left_as f (msrs l m v) o = ap (with_msrs f) (msr_left f.msr l m v o)

pub refused : (f : Frames) (e : Edit) → (edited f e).refusal ≢ 0 → (edited f e).frames ≡ f
refused f e = rw (edited_as_lem f e) (left_as f (kind_of e))

-- ---- two edits

-- p and q do as p' and q' do, each under its test
both_guarded : {A : Type 0} (p p' q q' : A → A) (s t : Bool) → ((x : A) → p x ≡ cond s (p' x) x) → ((x : A) → q x ≡ cond t (q' x) x)
    → (x : A) → q' (p' x) ≡ p' (q' x) → q (p x) ≡ p (q x)
both_guarded p p' q q' s t as-p as-q x e = ap q (as-p x) ∙ as-q _ ∙ guarded_comm p' q' x s t (λ _ _. e) ∙ sym (ap p (as-q x) ∙ as-p _)

abbrev port_step : ℕ → ℕ → ℕ → IOBitmap → IOBitmap
port_step base count v io = frames_of (port_call io.a io.b base count v)

port_step_lem : (base count v : ℕ) (io : IOBitmap) → port_step base count v io ≡ cond (not (ltb 1 v)) (frames_of (edit_ports io.a io.b base count (eqb v 1))) io
unfolding port_call
port_step_lem base count v io = go (ltb 1 v)
  where
    go : (t : Bool) → frames_of (cond {A = PortEdit} t (record { refusal = 2; a = io.a; b = io.b }) (edit_ports io.a io.b base count (eqb v 1)))
        ≡ cond (not t) (frames_of (edit_ports io.a io.b base count (eqb v 1))) io
    go true = refl
    go false = refl

msr_step : (l : List Access) (m v : ℕ) (xs : List ℕ) → (msr_call l xs m v).frame ≡ cond (not (ltb 1 v)) (edit_msrs xs m 1 l (eqb v 1)).frame xs
unfolding msr_call
msr_step l m v xs = go (ltb 1 v)
  where
    go : (t : Bool) → (cond {A = MsrEdit} t (record { refusal = 2; frame = xs }) (edit_msrs xs m 1 l (eqb v 1))).frame ≡ cond (not t) (edit_msrs xs m 1 l (eqb v 1)).frame xs
    go true = refl
    go false = refl

either_as : (f : Frames) (d e : Kind) → ((i : Item) → Real i → T (covers_as d i) → T (covers_as e i) → ⊥)
    → (edited_as (edited_as f d).frames e).frames ≡ (edited_as (edited_as f e).frames d).frames
either_as f (ports base count v) (ports base' count' v') apart =
    ap (with_ports f)
    (both_guarded (port_step base count v) (λ io. frames_of (edit_ports io.a io.b base count (eqb v 1)))
    (port_step base' count' v') (λ io. frames_of (edit_ports io.a io.b base' count' (eqb v' 1)))
    (not (ltb 1 v)) (not (ltb 1 v')) (port_step_lem base count v) (port_step_lem base' count' v')
    (record { a = f.a; b = f.b })
    (ports_commute f.a f.b base count base' count' (eqb v 1) (eqb v' 1) (λ p. apart (port p))))
either_as f (ports base count v) (msrs l m v') apart = refl
either_as f (msrs l m v) (ports base count v') apart = refl
either_as f (msrs l m v) (msrs l' m' v') apart =
    ap (with_msrs f)
    (both_guarded (λ xs. (msr_call l xs m v).frame) (λ xs. (edit_msrs xs m 1 l (eqb v 1)).frame)
    (λ xs. (msr_call l' xs m' v').frame) (λ xs. (edit_msrs xs m' 1 l' (eqb v' 1)).frame)
    (not (ltb 1 v)) (not (ltb 1 v')) (msr_step l m v) (msr_step l' m' v')
    f.msr
    (msrs_commute f.msr m 1 l m' 1 l' (eqb v 1) (eqb v' 1) (λ x n. apart (access x n))))

pub either_order : (f : Frames) (d e : Edit) → Disjoint d e → (edited (edited f d).frames e).frames ≡ (edited (edited f e).frames d).frames
either_order f d e apart =
    two d e ∙ either_as f (kind_of d) (kind_of e) (λ i r s t. apart i r (subst T (sym (covers_as_lem d i)) s) (subst T (sym (covers_as_lem e i)) t)) ∙ sym (two e d)
  where
    two : (d e : Edit) → (edited (edited f d).frames e).frames ≡ (edited_as (edited_as f (kind_of d)).frames (kind_of e)).frames
    two d e = ap (λ (r : Edited). (edited r.frames e).frames) (edited_as_lem f d) ∙ ap (λ (r : Edited). r.frames) (edited_as_lem (edited_as f (kind_of d)).frames e)
