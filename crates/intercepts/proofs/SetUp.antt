-- What an accepted setup leaves in the frames, and edits after it. Assumes nothing.
use Prim.Native.Nat.{ℕ}
use native.Mathlib.Decide.{dec_lt}
use native.Mathlib.Omega.{arith}
use mathlib.Core.Path.{◌≡◌, refl, ap, ◌∙◌}
use mathlib.Core.Logic.{dite}
use mathlib.Core.Bool.{Bool, true, false, ◌&&◌, ◌||◌}
use mathlib.Core.List.{List}
use lib.Dec.{eqb, leb, ltb}
use lib.ListN.{length}
use borrow.Author.Tests.{eqb-true, eqb-false, lt-ltb, le-ltb, le-leb, lt-leb}
use Rattle.bits.proofs.Tells.{cond_all, both_true}
use Rattle.structs.specs.Frames.{msr_intercept}
use Rattle.vcpu_setup.specs.Setup.{setup_of}
use Rattle.vcpu_setup.specs.Bitmaps.{io_bitmap_set, msr_bitmap_set}
use Rattle.vcpu_setup.proofs.AddedLaws as AddedLaws
use Rattle.record.specs.Codec.{session_of, accepted_of}
use Rattle.blocks.specs.SetupBlock.{arguments_of, block_accepted}
use Rattle.call_specs.specs.Records.{FramesCall}
use Rattle.call_specs.specs.SetupCall.{setup_accepts, setup_call}
use Rattle.intercepts.specs.Edits.{Frames, Edit, after, Item, port, access, Real, trapped, log, last_asked}
use Rattle.intercepts.specs.TwoHands.{Whole, left_by, added}
use Rattle.intercepts.proofs.Lists.{last_decides}

frame_lengths : (session block a b msr : List ℕ) → setup_accepts session block a b msr ≡ true → (length a ≡ 4096) × (length b ≡ 4096) × (length msr ≡ 4096)
unfolding setup_accepts
frame_lengths session block a b msr e =
    let bytes = accepted_of session && block_accepted block in
    let x = both_true (bytes && eqb (length a) 4096 && eqb (length b) 4096) (eqb (length msr) 4096) e in
    let y = both_true (bytes && eqb (length a) 4096) (eqb (length b) 4096) x.0 in
    let z = both_true bytes (eqb (length a) 4096) y.0 in
    (eqb-true _ _ z.1, eqb-true _ _ y.1, eqb-true _ _ x.1)

whole : {l m n : ℕ} → l ≡ 4096 → m ≡ 4096 → n ≡ 4096 → ◌≡◌ {A = ℕ × ℕ × ℕ} (l, m, n) (4096, 4096, 4096)
whole p q r i = (p i, q i, r i)

below : (m : ℕ) → ltb m 0x840 ≡ leb m 0x83F
below m = dite (dec_lt m 0x840) (λ l. rw (lt-ltb m 0x840 l, le-leb m 0x83F (omega arith))) (λ g. rw (le-ltb m 0x840 (omega arith), lt-leb m 0x83F (omega arith)))

-- the x2APIC's MSRs are added last
reorder : (s t u : Bool) → (s || (t || u)) ≡ ((t || s) || u)
reorder true true u = refl
reorder true false u = refl
reorder false true u = refl
reorder false false u = refl

module _ (session block : List ℕ) (f : Frames) where
  abbrev call : FramesCall
  call = setup_call session block f.a f.b f.msr

  abbrev with_added : Frames
  with_added = record { a = (io_bitmap_set f.a f.b).a; b = (io_bitmap_set f.a f.b).b; msr = (msr_bitmap_set f.msr).frame }

  abbrev Leaves : FramesCall → Type 0
  Leaves c = c.refusal ≡ 0 → (Whole f × Whole (left_by c)) × ((i : Item) → Real i → trapped (left_by c) i ≡ (added i || trapped f i))

  wholes : setup_accepts session block f.a f.b f.msr ≡ true → Whole f × Whole with_added
  wholes ok =
      let l = frame_lengths session block f.a f.b f.msr ok in
      let o = AddedLaws.added f.a f.b f.msr l.0 l.1 l.2 in
      (whole l.0 l.1 l.2, whole o.length_a o.length_b o.length_msr)

  added_bits : setup_accepts session block f.a f.b f.msr ≡ true → (i : Item) → Real i → trapped with_added i ≡ (added i || trapped f i)
  added_bits ok (port p) r =
      let l = frame_lengths session block f.a f.b f.msr ok in
      (AddedLaws.added f.a f.b f.msr l.0 l.1 l.2).ports p
  added_bits ok (access x m) r =
      let l = frame_lengths session block f.a f.b f.msr ok in
      (AddedLaws.added f.a f.b f.msr l.0 l.1 l.2).msrs x m r
      ∙ ap (λ (t : Bool). (leb 0x800 m && t) || (eqb m 0xE1 || msr_intercept f.msr x m)) (below m)
      ∙ reorder (leb 0x800 m && leb m 0x83F) (eqb m 0xE1) (msr_intercept f.msr x m)

  -- what an accepted call leaves
  set_up_lem : Leaves call
  unfolding setup_call
  set_up_lem =
      cond_all Leaves (setup_accepts session block f.a f.b f.msr) _ _
      (λ ok. cond_all Leaves (eqb (setup_of (session_of session) (arguments_of block)).refusal 0) _ _ (λ _ _. (wholes ok, added_bits ok)) (λ other z. absurd (eqb-false _ _ other z)))
      (λ _ z. absurd (omega arith))

  pub setup_whole : call.refusal ≡ 0 → Whole f × Whole (left_by call)
  setup_whole z = (set_up_lem z).0

  pub after_setup : call.refusal ≡ 0 → (es : List Edit) (i : Item) → Real i → trapped (after (left_by call) es) i ≡ last_asked (log (left_by call) es) i (added i || trapped f i)
  after_setup z es i r = last_decides (left_by call) es i r ∙ ap (last_asked (log (left_by call) es) i) ((set_up_lem z).1 i r)
