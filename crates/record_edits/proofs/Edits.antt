-- One part of a record's session changed in place. Assumes nothing.
use mathlib.Core.Path.{◌≡◌, refl, sym, ap, ◌∙◌}
use mathlib.Core.Bool.{Bool, true, cond}
use mathlib.Core.List.{List}
use Prim.Native.Nat.{ℕ, ◌+◌, ◌-◌, ◌*◌, ◌/◌, ◌^◌, ◌≤◌, ◌<◌}
use native.Mathlib.Nat.{mul-one}
use native.Mathlib.Omega.{arith}
use lib.ListN.{take, drop, set}
use lib.Seq.{sets}
use lib.Dec.{lit<}
use Rattle.bits.specs.Words.{with_bit}
use Rattle.bits.specs.LittleEndian.{bytes_of, Below}
use Rattle.bits.proofs.LittleEndianLaws.{length_bytes_of}
use Rattle.regs.specs.Registers.{list_of, with_reg}
use Rattle.regs.specs.declared.GeneralRegisters.{GeneralRegisters}
use Rattle.vmcs.specs.Field.{Field, Word16, Word64, Word32, Natural, place_of, size_of, width_bits}
use Rattle.vcpu_session.specs.Session.{Lawful, with_progress, with_regs, with_queue, with_xcr0, in_phase, with_value}
use Rattle.vcpu_session.specs.declared.Progress.{Progress}
use Rattle.vcpu_session.specs.declared.Queue.{Queue}
use Rattle.vcpu_session.specs.declared.Session.{Session}
use Rattle.vcpu_session.proofs.LawfulLaws.{lawful_alike, lawful_progress, lawful_phase, lawful_queue}
use Rattle.vcpu_events.specs.Queue.{Event, shifted, pushed, popped}
use Rattle.record.specs.Record as Record
use Rattle.record.specs.Runs.{Takes, Numbers, number_bytes, flag_bytes}
use Rattle.record.specs.Codec.{session_of, with_field, encode_of, accepted_of}
use Rattle.record.specs.Fitting.{ProgressFits, Fitting}
use Rattle.record.specs.Sizes.{length_flag_bytes}
use Rattle.record.proofs.Accepted.{whole}
use Rattle.record.proofs.FittingLaws.{progress_fits_lem, regs_fits, vmcs_fits_lem, queue_fits_lem, xcr0_fits, in_phase_fits}
use Rattle.record.proofs.PartNames as Part
use Rattle.record.proofs.RoundTrip.{lawful_accepted, session_read, session_fits, session_lawful, record_written}
use Rattle.record_edits.specs.declared.SessionRecord.{SessionRecord}
use Rattle.record_edits.specs.Edited.{session, Edited}
use Rattle.record_edits.specs.Holds.{Holds}
use Rattle.record_edits.proofs.Kept.{below_encoded}
use Rattle.record_edits.proofs.Fits.{numbers_set, numbers_shifted, listed, put_fits}
use Rattle.record_edits.proofs.Parts.{Form, length_run, Spells, value_put, element_put, run_shifted}

-- ---- the bytes of a session

-- bytes that hold a session, each below 256
pub record Kept (b : List ℕ) (s : Session) : Type 0 where
  pub accepted : accepted_of b ≡ true
  pub below : Below 256 b
  pub session : session_of b ≡ s

-- of one that a record can hold
pub held : {b : List ℕ} {s : Session} → Spells b s → Lawful s → Kept b s
held {b} {s} h l = record { below = rw h.bytes (below_encoded s); accepted = rw h.bytes (lawful_accepted s h.fits l); session = rw h.bytes (session_read s h.fits) }

pub held_bytes : {s : Session} {b : List ℕ} → Below 256 b → Holds b s → b ≡ encode_of s
held_bytes {s} {b} below h = sym (record_written b (whole b h.accepted) below h.accepted) ∙ ap encode_of h.session

-- ---- a part of a session with one value changed

abbrev with_waiting : Queue → ℕ → Queue
with_waiting q x = record { waiting = x; vectors = q.vectors; coded = q.coded; codes = q.codes }

abbrev with_vectors : Queue → List ℕ → Queue
with_vectors q x = record { waiting = q.waiting; vectors = x; coded = q.coded; codes = q.codes }

abbrev with_coded : Queue → ℕ → Queue
with_coded q x = record { waiting = q.waiting; vectors = q.vectors; coded = x; codes = q.codes }

abbrev with_codes : Queue → List ℕ → Queue
with_codes q x = record { waiting = q.waiting; vectors = q.vectors; coded = q.coded; codes = x }

abbrev with_launched : Progress → Bool → Progress
with_launched p x = record { phase = p.phase; launched = x; entries = p.entries; held = p.held }

abbrev with_entries : Progress → ℕ → Progress
with_entries p x = record { phase = p.phase; launched = p.launched; entries = x; held = p.held }

abbrev with_held : Progress → ℕ → Progress
with_held p x = record { phase = p.phase; launched = p.launched; entries = p.entries; held = x }

-- ---- where a field stands, and how many bytes it has

abbrev pub offset : Field → ℕ
offset (Word16 k) = Record.W16 + k * 2
offset (Word64 k) = Record.W64 + k * 8
offset (Word32 k) = Record.W32 + k * 4
offset (Natural k) = Record.NATURAL + k * 8

abbrev pub bytes : Field → ℕ
bytes (Word16 k) = 2
bytes (Word64 k) = 8
bytes (Word32 k) = 4
bytes (Natural k) = 8

-- ---- how each part is written

abbrev number : ℕ → Form ℕ
number k = record { size = k; write = bytes_of k; each = length_bytes_of k }

abbrev yes_no_lem : Form Bool
yes_no_lem = record { size = 1; write = flag_bytes; each = length_flag_bytes }

abbrev registers : Form GeneralRegisters
registers = record { size = 128; write = λ g. number_bytes 8 (list_of g); each = λ g. length_run (number 8) (list_of g) }

-- ---- one edit of a session's bytes: `after` is what it leaves

-- n bytes from `at + by` on moved to `at`, and `last` after them
abbrev down : List ℕ → ℕ → ℕ → ℕ → List ℕ → List ℕ
down l at by n last = sets (sets l at (take n (drop (at + by) l))) (at + n) last

module _ {b : List ℕ} {s : Session} (h : Spells b s) where
  stored_field : {after : List ℕ} (g : Field) (x : ℕ) → place_of g < size_of g → after ≡ sets b (offset g) (bytes_of (bytes g) x) → after ≡ encode_of (with_field s g x)
  unfolding encode_of
  stored_field (Word16 k) x l e = element_put h Part.W16 (lit< tt) (number 2) s.vmcs.w16 refl k x (rw h.fits.vmcs.w16.sized l) e
  stored_field (Word64 k) x l e = element_put h Part.W64 (lit< tt) (number 8) s.vmcs.w64 refl k x (rw h.fits.vmcs.w64.sized l) e
  stored_field (Word32 k) x l e = element_put h Part.W32 (lit< tt) (number 4) s.vmcs.w32 refl k x (rw h.fits.vmcs.w32.sized l) e
  stored_field (Natural k) x l e = element_put h Part.NATURAL (lit< tt) (number 8) s.vmcs.natural refl k x (rw h.fits.vmcs.natural.sized l) e

  with_field_lem : {after : List ℕ} (g : Field) (x : ℕ) → place_of g < size_of g → x < 2 ^ width_bits g → after ≡ sets b (offset g) (bytes_of (bytes g) x) → Spells after (with_field s g x)
  with_field_lem g x known small e = record { fits = vmcs_fits_lem h.fits (put_fits h.fits.vmcs g x small); bytes = stored_field g x known e }

  -- the registers: all of them, and one
  with_regs_lem : {after : List ℕ} (g : GeneralRegisters) → Numbers 16 8 (list_of g) → after ≡ sets b Record.REGS (number_bytes 8 (list_of g)) → Spells after (with_regs s g)
  unfolding encode_of
  with_regs_lem g small e = record { fits = regs_fits h.fits g small; bytes = value_put h Part.REGS (lit< tt) registers s.regs g refl e }

  with_reg_lem : {after : List ℕ} (i x : ℕ) → i < 16 → x < 2 ^ 64 → after ≡ sets b (Record.REGS + i * 8) (bytes_of 8 x) → Spells after (with_regs s (with_reg s.regs i x))
  unfolding encode_of
  with_reg_lem i x known small e =
      let list = set (list_of s.regs) i x in
      let numbers : Numbers 16 8 list = numbers_set i x h.fits.regs small in
      let same = listed list numbers.sized in
      record {
        fits = regs_fits h.fits (with_reg s.regs i x) (rw same numbers);
        bytes = rw same (element_put h Part.REGS (lit< tt) (number 8) (list_of s.regs) refl i x known e);
      }

  -- where the session stands
  with_phase : {after : List ℕ} (x : ℕ) → Takes 1 x → after ≡ sets b Record.PHASE (bytes_of 1 x) → Spells after (with_progress s (in_phase s.progress x))
  unfolding encode_of
  with_phase x small e =
      record {
        fits = in_phase_fits h.fits small;
        bytes = value_put h Part.PHASE (lit< tt) (number 1) s.progress.phase x refl e;
      }

  with_launched_lem : {after : List ℕ} (x : Bool) → after ≡ sets b Record.LAUNCHED (flag_bytes x) → Spells after (with_progress s (with_launched s.progress x))
  unfolding encode_of
  with_launched_lem x e =
      record {
        fits = progress_fits_lem h.fits (record { phase = h.fits.progress.phase; entries = h.fits.progress.entries; held = h.fits.progress.held });
        bytes = value_put h Part.LAUNCHED (lit< tt) yes_no_lem s.progress.launched x refl e;
      }

  with_entries_lem : {after : List ℕ} (x : ℕ) → Takes 4 x → after ≡ sets b Record.ENTRIES (bytes_of 4 x) → Spells after (with_progress s (with_entries s.progress x))
  unfolding encode_of
  with_entries_lem x small e =
      record {
        fits = progress_fits_lem h.fits (record { phase = h.fits.progress.phase; entries = small; held = h.fits.progress.held });
        bytes = value_put h Part.ENTRIES (lit< tt) (number 4) s.progress.entries x refl e;
      }

  with_held_lem : {after : List ℕ} (x : ℕ) → Takes 4 x → after ≡ sets b Record.HELD (bytes_of 4 x) → Spells after (with_progress s (with_held s.progress x))
  unfolding encode_of
  with_held_lem x small e =
      record {
        fits = progress_fits_lem h.fits (record { phase = h.fits.progress.phase; entries = h.fits.progress.entries; held = small });
        bytes = value_put h Part.HELD (lit< tt) (number 4) s.progress.held x refl e;
      }

  -- the queue: how many wait, which have a code, value i of a part, and the n values after the first moved down by one
  with_waiting_lem : {after : List ℕ} (x : ℕ) → Takes 1 x → after ≡ sets b Record.WAITING (bytes_of 1 x) → Spells after (with_queue s (with_waiting s.queue x))
  unfolding encode_of
  with_waiting_lem x small e =
      record {
        fits = queue_fits_lem h.fits (record { waiting = small; vectors = h.fits.queue.vectors; coded = h.fits.queue.coded; codes = h.fits.queue.codes });
        bytes = value_put h Part.WAITING (lit< tt) (number 1) s.queue.waiting x refl e;
      }

  vectors_fit : (vs : List ℕ) → Numbers 64 1 vs → Fitting (with_queue s (with_vectors s.queue vs))
  vectors_fit vs f = queue_fits_lem h.fits (record { waiting = h.fits.queue.waiting; vectors = f; coded = h.fits.queue.coded; codes = h.fits.queue.codes })

  codes_fit : (vs : List ℕ) → Numbers 64 4 vs → Fitting (with_queue s (with_codes s.queue vs))
  codes_fit vs f = queue_fits_lem h.fits (record { waiting = h.fits.queue.waiting; vectors = h.fits.queue.vectors; coded = h.fits.queue.coded; codes = f })

  with_vector : {after : List ℕ} (i x : ℕ) → i < 64 → Takes 1 x → after ≡ sets b (Record.VECTORS + i) (bytes_of 1 x)
      → Spells after (with_queue s (with_vectors s.queue (set s.queue.vectors i x)))
  unfolding encode_of
  with_vector i x known small e =
      record {
        fits = vectors_fit (set s.queue.vectors i x) (numbers_set i x h.fits.queue.vectors small);
        bytes = element_put h Part.VECTORS (lit< tt) (number 1) s.queue.vectors refl i x (rw h.fits.queue.vectors.sized known) (rw mul-one e);
      }

  with_coded_lem : {after : List ℕ} (x : ℕ) → Takes 8 x → after ≡ sets b Record.CODED (bytes_of 8 x) → Spells after (with_queue s (with_coded s.queue x))
  unfolding encode_of
  with_coded_lem x small e =
      record {
        fits = queue_fits_lem h.fits (record { waiting = h.fits.queue.waiting; vectors = h.fits.queue.vectors; coded = small; codes = h.fits.queue.codes });
        bytes = value_put h Part.CODED (lit< tt) (number 8) s.queue.coded x refl e;
      }

  with_code : {after : List ℕ} (i x : ℕ) → i < 64 → Takes 4 x → after ≡ sets b (Record.CODES + i * 4) (bytes_of 4 x)
      → Spells after (with_queue s (with_codes s.queue (set s.queue.codes i x)))
  unfolding encode_of
  with_code i x known small e =
      record {
        fits = codes_fit (set s.queue.codes i x) (numbers_set i x h.fits.queue.codes small);
        bytes = element_put h Part.CODES (lit< tt) (number 4) s.queue.codes refl i x (rw h.fits.queue.codes.sized known) e;
      }

  vectors_down : {after : List ℕ} (n : ℕ) → n < 64 → after ≡ down b Record.VECTORS 1 n (bytes_of 1 0) → Spells after (with_queue s (with_vectors s.queue (shifted n 0 s.queue.vectors)))
  unfolding encode_of
  vectors_down n few e =
      record {
        fits = vectors_fit (shifted n 0 s.queue.vectors) (numbers_shifted n 0 few h.fits.queue.vectors (lit< tt));
        bytes = run_shifted h Part.VECTORS (lit< tt) (number 1) s.queue.vectors refl n 0 (rw h.fits.queue.vectors.sized few) (rw mul-one e);
      }

  codes_down : {after : List ℕ} (n : ℕ) → n < 64 → after ≡ down b Record.CODES 4 (n * 4) (bytes_of 4 0) → Spells after (with_queue s (with_codes s.queue (shifted n 0 s.queue.codes)))
  unfolding encode_of
  codes_down n few e =
      record {
        fits = codes_fit (shifted n 0 s.queue.codes) (numbers_shifted n 0 few h.fits.queue.codes (lit< tt));
        bytes = run_shifted h Part.CODES (lit< tt) (number 4) s.queue.codes refl n 0 (rw h.fits.queue.codes.sized few) e;
      }

  -- XCR0
  with_xcr0_lem : {after : List ℕ} (x : ℕ) → Takes 8 x → after ≡ sets b Record.XCR0 (bytes_of 8 x) → Spells after (with_xcr0 s (with_value s.xcr0 x))
  unfolding encode_of
  with_xcr0_lem x small e =
      record {
        fits = xcr0_fits h.fits (record { value = small; supported = h.fits.xcr0.supported });
        bytes = value_put h Part.XCR0 (lit< tt) (number 8) s.xcr0.value x refl e;
      }

-- ---- an accepted record, after one edit or several

module _ (r : SessionRecord) where
  abbrev b : List ℕ
  b = r.bytes.now

  own : Spells b (session r)
  own = record { fits = session_fits b (whole b r.accepted) r.below; bytes = sym (record_written b (whole b r.accepted) r.below r.accepted) }

  lawful : Lawful (session r)
  lawful = session_lawful b r.accepted

  pub field_held : {after : List ℕ} (g : Field) (x : ℕ) → place_of g < size_of g → x < 2 ^ width_bits g → after ≡ sets b (offset g) (bytes_of (bytes g) x)
      → Kept after (with_field (session r) g x)
  field_held g x place small e = held (with_field_lem own g x place small e) (lawful_alike lawful refl)

  pub reg_held : {after : List ℕ} (i x : ℕ) → i < 16 → x < 2 ^ 64 → after ≡ sets b (Record.REGS + i * 8) (bytes_of 8 x)
      → Kept after (with_regs (session r) (with_reg (session r).regs i x))
  reg_held i x place small e = held (with_reg_lem own i x place small e) (lawful_alike lawful refl)

  pub regs_held : {after : List ℕ} (g : GeneralRegisters) → Numbers 16 8 (list_of g) → after ≡ sets b Record.REGS (number_bytes 8 (list_of g)) → Kept after (with_regs (session r) g)
  regs_held g small e = held (with_regs_lem own g small e) (lawful_alike lawful refl)

  pub phase_held : {after : List ℕ} (x : ℕ) → x ≤ 4 → after ≡ sets b Record.PHASE (bytes_of 1 x) → Kept after (with_progress (session r) (in_phase (session r).progress x))
  phase_held x h e = held (with_phase own x (omega arith) e) (lawful_phase lawful x h)

  pub xcr0_held : {after : List ℕ} (x : ℕ) → x < 2 ^ 64 → after ≡ sets b Record.XCR0 (bytes_of 8 x) → Kept after (with_xcr0 (session r) (with_value (session r).xcr0 x))
  xcr0_held x small e = held (with_xcr0_lem own x small e) (lawful_alike lawful refl)

  pub progress_held : {b₁ b₂ b₃ b₄ : List ℕ} (p : Progress) → ProgressFits p → p.phase ≤ 4 → p.held ≤ p.entries
      → b₁ ≡ sets b Record.PHASE (bytes_of 1 p.phase) → b₂ ≡ sets b₁ Record.LAUNCHED (flag_bytes p.launched)
      → b₃ ≡ sets b₂ Record.ENTRIES (bytes_of 4 p.entries) → b₄ ≡ sets b₃ Record.HELD (bytes_of 4 p.held)
      → Kept b₄ (with_progress (session r) p)
  progress_held p f phase counts e₁ e₂ e₃ e₄ =
      let two = with_launched_lem (with_phase own p.phase f.phase e₁) p.launched e₂ in
      held (with_held_lem (with_entries_lem two p.entries f.entries e₃) p.held f.held e₄) (lawful_progress lawful p phase counts)

  -- n events wait, `code` is the one that is stored, and `word` says which events have one
  pub push_held : {n code word : ℕ} {b₁ b₂ b₃ b₄ : List ℕ} (e : Event) → n ≡ (session r).queue.waiting → code ≡ cond e.coded e.code 0
      → word ≡ with_bit n e.coded (session r).queue.coded
      → n < 64 → Takes 1 e.vector → Takes 4 code → Takes 8 word
      → b₁ ≡ sets b (Record.VECTORS + n) (bytes_of 1 e.vector) → b₂ ≡ sets b₁ Record.CODED (bytes_of 8 word)
      → b₃ ≡ sets b₂ (Record.CODES + n * 4) (bytes_of 4 code) → b₄ ≡ sets b₃ Record.WAITING (bytes_of 1 (n + 1))
      → Kept b₄ (with_queue (session r) (pushed (session r).queue e))
  unfolding pushed
  push_held {n} {code} {word} e read stored marked room vector small fits e₁ e₂ e₃ e₄ =
      let two = with_coded_lem (with_vector own n e.vector room vector e₁) word fits e₂ in
      rw (← read, ← stored, ← marked) (held (with_waiting_lem (with_code two n code room small e₃) (n + 1) (omega arith) e₄) (lawful_queue lawful _ (omega arith)))

  -- n events wait after it, and `word` says which of them have a code
  pub pop_held : {n word : ℕ} {b₁ b₂ b₃ b₄ : List ℕ} → n ≡ (session r).queue.waiting - 1 → word ≡ (session r).queue.coded / 2
      → b₁ ≡ sets b Record.WAITING (bytes_of 1 n) → b₂ ≡ down b₁ Record.VECTORS 1 n (bytes_of 1 0)
      → b₃ ≡ sets b₂ Record.CODED (bytes_of 8 word) → b₄ ≡ down b₃ Record.CODES 4 (n * 4) (bytes_of 4 0)
      → Kept b₄ (with_queue (session r) (popped (session r).queue))
  unfolding popped
  pop_held {n} {word} less halved e₁ e₂ e₃ e₄ =
      let few : n < 64 = omega (arith, lawful.waiting) in
      let small : Takes 8 word = omega (arith, own.fits.queue.coded) in
      let two = with_coded_lem (vectors_down (with_waiting_lem own n (omega arith) e₁) n few e₂) word small e₃ in
      rw (← less, ← halved) (held (codes_down two n few e₄) (lawful_queue lawful _ (omega arith)))

-- an edit seen on the bytes that the record was borrowed from
pub seen : {old new : SessionRecord} {f : Session → Session} → Edited old new f → {b after : List ℕ} → old.bytes.now ≡ b → after ≡ new.bytes.now → Holds after (f (session_of b))
seen {old} {new} h came left = rw (← came, left) (record { accepted = new.accepted; session = h.holds })
