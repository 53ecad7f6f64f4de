-- The record and the session determine each other. Assumes nothing.
use mathlib.Core.Path.{◌≡◌, refl, sym, ap, ◌∙◌, subst}
use mathlib.Core.Bool.{Bool, true, false, cond}
use mathlib.Core.List.{List, [], ◌∷◌, ◌++◌, map, flat_map, flatten}
use Prim.Native.Nat.{ℕ, zero, suc, ◌+◌, ◌≤◌}
use native.Mathlib.Omega.{arith}
use lib.ListN.{length, take, drop, replicate, length-drop}
use lib.Seq.{take_all, sets}
use lib.Dec.{lit<, lit≤}
use borrow.Author.Tests.{le-leb, eq-eqb}
use Rattle.bits.specs.LittleEndian.{little_endian, number_of, bytes_of, Below}
use Rattle.bits.proofs.LittleEndianLaws.{below_drop}
use Rattle.regs.specs.Registers.{list_of, of_list}
use Rattle.vmcs.specs.Writes.{Sized}
use Rattle.vcpu_session.specs.declared.Session.{Session}
use Rattle.vcpu_session.specs.Session.{new_session, is_unlawful, Lawful}
use Rattle.vcpu_session.proofs.LawfulLaws.{lawful_of, of_lawful}
use Rattle.record.specs.Record as Record
use Rattle.record.specs.Runs.{read_all, Numbers, stored_at, flag_of}
use Rattle.record.specs.Codec.{pair_of, fixed_of, session_of, parts_of, encode_of, accepted_of, Decoded, decoded, decode_of}
use Rattle.record.specs.Fitting.{Fitting}
use Rattle.record.specs.Acceptable.{Acceptable}
use Rattle.record.specs.Faithful.{Faithful}
use Rattle.record.proofs.Stores.{sets_whole}
use Rattle.record.proofs.PartNames as Part
use Rattle.record.proofs.PartNames.{sizes}
use Rattle.record.proofs.Parts.{total, starts, cut, length_flatten, stored_parts, from_part, joined}
use Rattle.record.proofs.Loops.{length_read_all}
use Rattle.record.proofs.Flags.{flag_written}
use Rattle.record.proofs.Accepted.{passed, whole, acceptable, accepts_acceptable}
use Rattle.record.proofs.Codecs.{Codec, run, number, numbers_codec, registers_read, yes_no_lem, pair, fixed}

-- ---- the bytes of a session

module _ (s : Session) (f : Fitting s) where
  pub lengths : map length (parts_of s) ≡ sizes
  lengths =
      λ i.
      (number 1).sized s.progress.phase f.progress.phase i
      ∷ yes_no_lem.sized s.progress.launched tt i
      ∷ (number 4).sized s.progress.entries f.progress.entries i
      ∷ (number 4).sized s.progress.held f.progress.held i
      ∷ (numbers_codec 8 16).sized (list_of s.regs) f.regs i
      ∷ (numbers_codec 2 17).sized s.vmcs.w16 f.vmcs.w16 i
      ∷ (numbers_codec 4 50).sized s.vmcs.w32 f.vmcs.w32 i
      ∷ (numbers_codec 8 41).sized s.vmcs.w64 f.vmcs.w64 i
      ∷ (numbers_codec 8 46).sized s.vmcs.natural f.vmcs.natural i
      ∷ (number 1).sized s.queue.waiting f.queue.waiting i
      ∷ (numbers_codec 1 64).sized s.queue.vectors f.queue.vectors i
      ∷ (number 8).sized s.queue.coded f.queue.coded i
      ∷ (numbers_codec 4 64).sized s.queue.codes f.queue.codes i
      ∷ (run pair 5).sized s.capabilities.pairs f.capabilities.pairs i
      ∷ fixed.sized s.capabilities.cr0 f.capabilities.cr0 i
      ∷ fixed.sized s.capabilities.cr4 f.capabilities.cr4 i
      ∷ (number 8).sized s.xcr0.value f.xcr0.value i
      ∷ (number 8).sized s.xcr0.supported f.xcr0.supported i
      ∷ []

  -- what stands from part k on
  from : (k : ℕ) → drop (total (take k sizes)) (encode_of s) ≡ flatten (drop k (parts_of s))
  unfolding encode_of
  from k = subst (λ (ns : List ℕ). drop (total (take k ns)) (flatten (parts_of s)) ≡ flatten (drop k (parts_of s))) lengths (from_part k (parts_of s))

  pub length_encode_of : length (encode_of s) ≡ Record.LENGTH
  unfolding encode_of
  length_encode_of = length_flatten (parts_of s) ∙ ap total lengths

  -- the parts stored in a record, in order
  pub stored_session : (b : List ℕ) → length b ≡ Record.LENGTH → stored_at (starts 0 sizes) (parts_of s) b ≡ encode_of s
  unfolding encode_of
  stored_session b whole =
      subst (λ (ns : List ℕ). stored_at (starts 0 ns) (parts_of s) b ≡ sets b 0 (flatten (parts_of s))) lengths (stored_parts 0 (parts_of s) b)
      ∙ sets_whole b (encode_of s) (length_encode_of ∙ sym whole)

  -- a part is read back
  part_read : {A : Type 0} {size : ℕ} {read : List ℕ → A} {write : A → List ℕ} {Fits : A → Type 0} {Valid : List ℕ → Type 0}
      → Codec size read write Fits Valid → (v : A) (p rest : List ℕ) → Fits v → p ≡ write v ++ rest → read p ≡ v
  part_read c v p rest h e = rw e (c.back v rest h)

  pub session_read : session_of (encode_of s) ≡ s
  unfolding session_of flatten
  session_read =
      let phase = part_read (number 1) s.progress.phase _ _ f.progress.phase (from Part.PHASE) in
      let launched = part_read yes_no_lem s.progress.launched _ _ tt (from Part.LAUNCHED) in
      let entries = part_read (number 4) s.progress.entries _ _ f.progress.entries (from Part.ENTRIES) in
      let held = part_read (number 4) s.progress.held _ _ f.progress.held (from Part.HELD) in
      let regs = part_read (numbers_codec 8 16) (list_of s.regs) _ _ f.regs (from Part.REGS) in
      let w16 = part_read (numbers_codec 2 17) s.vmcs.w16 _ _ f.vmcs.w16 (from Part.W16) in
      let w32 = part_read (numbers_codec 4 50) s.vmcs.w32 _ _ f.vmcs.w32 (from Part.W32) in
      let w64 = part_read (numbers_codec 8 41) s.vmcs.w64 _ _ f.vmcs.w64 (from Part.W64) in
      let natural = part_read (numbers_codec 8 46) s.vmcs.natural _ _ f.vmcs.natural (from Part.NATURAL) in
      let waiting = part_read (number 1) s.queue.waiting _ _ f.queue.waiting (from Part.WAITING) in
      let vectors = part_read (numbers_codec 1 64) s.queue.vectors _ _ f.queue.vectors (from Part.VECTORS) in
      let coded = part_read (number 8) s.queue.coded _ _ f.queue.coded (from Part.CODED) in
      let codes = part_read (numbers_codec 4 64) s.queue.codes _ _ f.queue.codes (from Part.CODES) in
      let pairs = part_read (run pair 5) s.capabilities.pairs _ _ f.capabilities.pairs (from Part.PAIRS) in
      let cr0 = part_read fixed s.capabilities.cr0 _ _ f.capabilities.cr0 (from Part.CR0) in
      let cr4 = part_read fixed s.capabilities.cr4 _ _ f.capabilities.cr4 (from Part.CR4) in
      let value = part_read (number 8) s.xcr0.value _ _ f.xcr0.value (from Part.XCR0) in
      let supported = part_read (number 8) s.xcr0.supported _ _ f.xcr0.supported (from Part.SUPPORTED) in
      λ i.
      record {
        progress = record { phase = phase i; launched = launched i; entries = entries i; held = held i };
        regs = of_list (regs i);
        vmcs = record { w16 = w16 i; w32 = w32 i; w64 = w64 i; natural = natural i };
        queue = record { waiting = waiting i; vectors = vectors i; coded = coded i; codes = codes i };
        capabilities = record { pairs = pairs i; cr0 = cr0 i; cr4 = cr4 i };
        xcr0 = record { value = value i; supported = supported i };
      }

  pub lawful_accepted : Lawful s → accepted_of (encode_of s) ≡ true
  unfolding accepted_of flatten
  lawful_accepted l =
      let phase = part_read (number 1) s.progress.phase _ _ f.progress.phase (from Part.PHASE) in
      let entries = part_read (number 4) s.progress.entries _ _ f.progress.entries (from Part.ENTRIES) in
      let held = part_read (number 4) s.progress.held _ _ f.progress.held (from Part.HELD) in
      let waiting = part_read (number 1) s.queue.waiting _ _ f.queue.waiting (from Part.WAITING) in
      rw (
        eq-eqb _ _ length_encode_of,
        phase,
        le-leb _ _ l.phase,
        le-leb _ _ (flag_written s.progress.launched _ _ (from Part.LAUNCHED)),
        entries,
        held,
        le-leb _ _ l.held,
        waiting,
        le-leb _ _ l.waiting,
      )

-- ---- the session of a record

module _ (b : List ℕ) (whole : length b ≡ Record.LENGTH) (bytes : Below 256 b) where
  module _ {A : Type 0} {size : ℕ} {read : List ℕ → A} {write : A → List ℕ} {Fits : A → Type 0} {Valid : List ℕ → Type 0}
      (c : Codec size read write Fits Valid) (at : ℕ) (within : at + size ≤ Record.LENGTH) where
    long : size ≤ length (drop at b)
    long = rw length-drop (omega arith)

    part_fits : Fits (read (drop at b))
    part_fits = c.fits (drop at b) (below_drop at b bytes) long

    part_written : Valid (drop at b) → write (read (drop at b)) ≡ take size (drop at b)
    part_written valid = c.same (drop at b) (below_drop at b bytes) long valid

  pub session_fits : Fitting (session_of b)
  unfolding session_of
  session_fits =
      record {
        progress = record {
          phase = part_fits (number 1) Record.PHASE (lit≤ tt);
          entries = part_fits (number 4) Record.ENTRIES (lit≤ tt);
          held = part_fits (number 4) Record.HELD (lit≤ tt);
        };
        regs = subst (Numbers 16 8) (sym (registers_read (drop Record.REGS b))) (part_fits (numbers_codec 8 16) Record.REGS (lit≤ tt));
        vmcs = record {
          w16 = part_fits (numbers_codec 2 17) Record.W16 (lit≤ tt);
          w32 = part_fits (numbers_codec 4 50) Record.W32 (lit≤ tt);
          w64 = part_fits (numbers_codec 8 41) Record.W64 (lit≤ tt);
          natural = part_fits (numbers_codec 8 46) Record.NATURAL (lit≤ tt);
        };
        queue = record {
          waiting = part_fits (number 1) Record.WAITING (lit≤ tt);
          vectors = part_fits (numbers_codec 1 64) Record.VECTORS (lit≤ tt);
          coded = part_fits (number 8) Record.CODED (lit≤ tt);
          codes = part_fits (numbers_codec 4 64) Record.CODES (lit≤ tt);
        };
        capabilities = record {
          pairs = part_fits (run pair 5) Record.PAIRS (lit≤ tt);
          cr0 = part_fits fixed Record.CR0 (lit≤ tt);
          cr4 = part_fits fixed Record.CR4 (lit≤ tt);
        };
        xcr0 = record { value = part_fits (number 8) Record.XCR0 (lit≤ tt); supported = part_fits (number 8) Record.SUPPORTED (lit≤ tt) };
      }

  pub record_written : accepted_of b ≡ true → encode_of (session_of b) ≡ b
  unfolding encode_of session_of
  record_written ok =
      let t = passed b ok in
      let parts : parts_of (session_of b) ≡ cut 0 sizes b =
      λ i.
      part_written (number 1) Record.PHASE (lit≤ tt) tt i
      ∷ part_written yes_no_lem Record.LAUNCHED (lit≤ tt) t.launched i
      ∷ part_written (number 4) Record.ENTRIES (lit≤ tt) tt i
      ∷ part_written (number 4) Record.HELD (lit≤ tt) tt i
      ∷ (ap (flat_map (bytes_of 8)) (registers_read (drop Record.REGS b)) ∙ part_written (numbers_codec 8 16) Record.REGS (lit≤ tt) tt) i
      ∷ part_written (numbers_codec 2 17) Record.W16 (lit≤ tt) tt i
      ∷ part_written (numbers_codec 4 50) Record.W32 (lit≤ tt) tt i
      ∷ part_written (numbers_codec 8 41) Record.W64 (lit≤ tt) tt i
      ∷ part_written (numbers_codec 8 46) Record.NATURAL (lit≤ tt) tt i
      ∷ part_written (number 1) Record.WAITING (lit≤ tt) tt i
      ∷ part_written (numbers_codec 1 64) Record.VECTORS (lit≤ tt) tt i
      ∷ part_written (number 8) Record.CODED (lit≤ tt) tt i
      ∷ part_written (numbers_codec 4 64) Record.CODES (lit≤ tt) tt i
      ∷ part_written (run pair 5) Record.PAIRS (lit≤ tt) tt i
      ∷ part_written fixed Record.CR0 (lit≤ tt) tt i
      ∷ part_written fixed Record.CR4 (lit≤ tt) tt i
      ∷ part_written (number 8) Record.XCR0 (lit≤ tt) tt i
      ∷ part_written (number 8) Record.SUPPORTED (lit≤ tt) tt i
      ∷ [] in
      ap flatten parts ∙ joined 0 sizes b ∙ take_all Record.LENGTH b (omega arith)

pub session_sized : (b : List ℕ) → Sized (session_of b).vmcs
unfolding session_of
session_sized b =
    record {
      w16 = length_read_all 2 (little_endian 2) 17 (drop Record.W16 b);
      w32 = length_read_all 4 (little_endian 4) 50 (drop Record.W32 b);
      w64 = length_read_all 8 (little_endian 8) 41 (drop Record.W64 b);
      natural = length_read_all 8 (little_endian 8) 46 (drop Record.NATURAL b);
    }

pub session_lawful : (b : List ℕ) → accepted_of b ≡ true → Lawful (session_of b)
unfolding session_of
session_lawful b ok =
    let t = passed b ok in
    record { phase = t.phase; waiting = t.waiting; held = t.held }

-- no call on an accepted record is refused by 2
pub never_unlawful : (b : List ℕ) → accepted_of b ≡ true → is_unlawful (session_of b) ≡ false
never_unlawful b ok = of_lawful (session_of b) (session_lawful b ok)

-- ---- what is decoded

pub accepted_decoded : (b : List ℕ) → accepted_of b ≡ true → decode_of b ≡ decoded 0 (session_of b)
unfolding decode_of
accepted_decoded b ok = rw ok

pub refused_decoded : (b : List ℕ) → accepted_of b ≡ false → decode_of b ≡ decoded 2 new_session
unfolding decode_of
refused_decoded b fails = rw fails

decoded_accepted : (b : List ℕ) → (decode_of b).refusal ≡ 0 → accepted_of b ≡ true
unfolding decode_of
decoded_accepted b = go (accepted_of b)
  where
    go : (t : Bool) → (cond {A = Decoded} t (decoded 0 (session_of b)) (decoded 2 new_session)).refusal ≡ 0 → t ≡ true
    go true e = refl
    go false e = absurd (omega arith)

-- ---- a new session

abbrev zeros : List ℕ
zeros = replicate Record.LENGTH 0

zeros_below : (n : ℕ) → Below 256 (replicate n 0)
zeros_below zero i = lit< tt
zeros_below (suc n) zero = lit< tt
zeros_below (suc n) (suc i) = zeros_below n i

new_session_lem : session_of zeros ≡ new_session
unfolding session_of new_session read_all flag_of number_of pair_of fixed_of
new_session_lem = refl

zeros_accepted : accepted_of zeros ≡ true
unfolding accepted_of number_of
zeros_accepted = refl

new_record_lem : encode_of new_session ≡ zeros
new_record_lem = subst (λ (s : Session). encode_of s ≡ zeros) new_session_lem (record_written zeros refl (zeros_below Record.LENGTH) zeros_accepted)

-- ---- the theorems

-- what holds of the session of every accepted record holds of every decoded session
every_decoded : (P : Session → Type 0) → ((b : List ℕ) → Below 256 b → accepted_of b ≡ true → P (session_of b)) → (b : List ℕ) → Below 256 b → P (decode_of b).session
unfolding decode_of
every_decoded P each b below = go (accepted_of b) refl
  where
    go : (t : Bool) → accepted_of b ≡ t → P (cond {A = Decoded} t (decoded 0 (session_of b)) (decoded 2 new_session)).session
    go true ok = each b below ok
    go false fails = subst P new_session_lem (each zeros (zeros_below Record.LENGTH) zeros_accepted)

pub decode_encode : (s : Session) → Fitting s → Lawful s → decode_of (encode_of s) ≡ decoded 0 s
decode_encode s f l = accepted_decoded (encode_of s) (lawful_accepted s f l) ∙ rw (session_read s f)

refused_by_2 : (b : List ℕ) → (Acceptable b → ⊥) → (decode_of b).refusal ≡ 2
refused_by_2 b other = go (accepted_of b) refl
  where
    go : (t : Bool) → accepted_of b ≡ t → (decode_of b).refusal ≡ 2
    go true ok = absurd (other (acceptable b ok))
    go false fails = rw (refused_decoded b fails)

pub faithful : Faithful
faithful =
    record {
      decode_encode = λ s f l. decode_encode s f (lawful_of s l);
      encode_decode = λ b below e.
          let ok = decoded_accepted b e in
          rw (accepted_decoded b ok) (record_written b (whole b ok) below ok);
      lawful = every_decoded (λ s. is_unlawful s ≡ false) (λ b below ok. never_unlawful b ok);
      fitting = every_decoded Fitting (λ b below ok. session_fits b (whole b ok) below);
      sized = every_decoded (λ s. Sized s.vmcs) (λ b below ok. session_sized b);
      accepted = λ b a. rw (accepted_decoded b (accepts_acceptable b a));
      acceptable = λ b e. acceptable b (decoded_accepted b e);
      refused = refused_by_2;
      new = new_record_lem;
    }
