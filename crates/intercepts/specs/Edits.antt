-- Lists of edits of one guest's intercept frames (document 02, N8): each edit as the exported function's contract gives it, what it covers, and what the last
-- accepted one asked. Calls from C have arguments that fit their types; the definitions hold for every number, so nothing here supposes it. Assumes nothing.
use Rattle.std.specs.Prelude.{ℕ, ◌+◌, Bool, false, cond, ◌&&◌, List, [], ◌∷◌, ◌++◌, eqb, leb, ltb, length}
use Rattle.structs.specs.declared.Access.{Access}
use Rattle.structs.specs.declared.Access.TheVariants.{Read, Write}
use Rattle.structs.specs.Frames.{PortEdit, MsrEdit, port_intercept, msr_intercept}
use Rattle.structs.specs.Numbers.{IsPort, IsMsr}
use Rattle.call_specs.specs.Calls.{port_call, msr_call, reads, writes, both}

-- ---- the frames

-- I/O bitmaps A and B, and the MSR bitmaps
pub record Frames : Type 0 where
  pub a : List ℕ
  pub b : List ℕ
  pub msr : List ℕ

abbrev pub bytes_of : Frames → List ℕ
bytes_of f = (f.a ++ f.b) ++ f.msr

abbrev pub lengths_of : Frames → ℕ × ℕ × ℕ
lengths_of f = (length f.a, length f.b, length f.msr)

-- ---- an edit

-- a call of the exported function of this name, by its arguments; the last is the yes/no byte
pub data Edit : Type 0 where
  -- the first port, how many
  set_io_intercept_of_range : ℕ → ℕ → ℕ → Edit
  -- the MSR
  set_read_intercept : ℕ → ℕ → Edit
  set_write_intercept : ℕ → ℕ → Edit
  -- one MSR, its reads and its writes
  set_msr_intercept_of_range : ℕ → ℕ → Edit

-- its refusal or 0, and the frames as it leaves them
pub record Edited : Type 0 where
  pub refusal : ℕ
  pub frames : Frames

-- an edit of ports leaves the MSR bitmaps, and one of MSRs the I/O bitmaps
abbrev pub ports_edited : List ℕ → PortEdit → Edited
ports_edited msr e = record { refusal = e.refusal; frames = record { a = e.a; b = e.b; msr = msr } }

abbrev pub msrs_edited : List ℕ → List ℕ → MsrEdit → Edited
msrs_edited a b e = record { refusal = e.refusal; frames = record { a = a; b = b; msr = e.frame } }

-- by the definition that the exported function's contract cites
abbrev pub edited : Frames → Edit → Edited
edited f (set_io_intercept_of_range base count v) = ports_edited f.msr (port_call f.a f.b base count v)
edited f (set_read_intercept m v) = msrs_edited f.a f.b (msr_call reads f.msr m v)
edited f (set_write_intercept m v) = msrs_edited f.a f.b (msr_call writes f.msr m v)
edited f (set_msr_intercept_of_range m v) = msrs_edited f.a f.b (msr_call both f.msr m v)

-- the frames after a list of edits
abbrev pub after : Frames → List Edit → Frames
after f [] = f
after f (e ∷ es) = after (edited f e).frames es

-- ---- what an edit covers

-- a port, or an access to an MSR, of any number: reading and writing one MSR are two items
pub data Item : Type 0 where
  port : ℕ → Item
  access : Access → ℕ → Item

-- it has a bit
abbrev pub Real : Item → Type 0
Real (port p) = IsPort p
Real (access x m) = IsMsr m

-- its bit in the frames, if it has one
abbrev pub trapped : Frames → Item → Bool
trapped f (port p) = port_intercept f.a f.b p
trapped f (access x m) = msr_intercept f.msr x m

-- the edit covers the item, whether it is accepted or not
abbrev pub covers : Edit → Item → Bool
covers (set_io_intercept_of_range base count v) (port p) = leb base p && ltb p (base + count)
covers (set_io_intercept_of_range base count v) (access x n) = false
covers (set_read_intercept m v) (port p) = false
covers (set_read_intercept m v) (access Read n) = eqb n m
covers (set_read_intercept m v) (access Write n) = false
covers (set_write_intercept m v) (port p) = false
covers (set_write_intercept m v) (access Read n) = false
covers (set_write_intercept m v) (access Write n) = eqb n m
covers (set_msr_intercept_of_range m v) (port p) = false
covers (set_msr_intercept_of_range m v) (access x n) = eqb n m

-- what it asks: to intercept, or not to
abbrev pub asked : Edit → Bool
asked (set_io_intercept_of_range base count v) = eqb v 1
asked (set_read_intercept m v) = eqb v 1
asked (set_write_intercept m v) = eqb v 1
asked (set_msr_intercept_of_range m v) = eqb v 1

-- ---- what the last accepted edit asked

-- an edit of a list, and whether it was accepted
pub record Made : Type 0 where
  pub edit : Edit
  pub accepted : Bool

abbrev pub log : Frames → List Edit → List Made
log f [] = []
log f (e ∷ es) = record { edit = e; accepted = eqb (edited f e).refusal 0 } ∷ log (edited f e).frames es

-- what the last accepted edit that covers the item asked, or else `before`
abbrev pub last_asked : List Made → Item → Bool → Bool
last_asked [] i before = before
last_asked (m ∷ ms) i before = last_asked ms i (cond (m.accepted && covers m.edit i) (asked m.edit) before)
