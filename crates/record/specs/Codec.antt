-- The session that a record holds, the record of a session, and which bytes are refused (document 01, refusal 2). Assumes nothing.
use Rattle.std.specs.Prelude.{Bool, cond, ◌&&◌, ℕ, Result, Ok, Err, length, drop, eqb, leb}
use mathlib.Core.List.{List, [], ◌∷◌, ◌++◌, flatten, flat_map}
use Rattle.bits.specs.LittleEndian.{little_endian, bytes_of}
use Rattle.definitions.specs.declared.refusal.Refusal.{Refusal}
use Rattle.definitions.specs.Refusals.{number}
use Rattle.regs.specs.Registers.{list_of, of_list}
use Rattle.regs.specs.declared.GeneralRegisters.{GeneralRegisters}
use Rattle.vmcs.specs.Field.{Field, put}
use Rattle.vmcs.specs.declared.Vmcs.{Vmcs}
use Rattle.vmcs.specs.declared.controls.Pair.{Pair}
use Rattle.vcpu_session.specs.declared.Progress.{Progress}
use Rattle.vcpu_session.specs.declared.Queue.{Queue}
use Rattle.vcpu_session.specs.declared.Fixed.{Fixed}
use Rattle.vcpu_session.specs.declared.Capabilities.{Capabilities}
use Rattle.vcpu_session.specs.declared.Xcr0.{Xcr0}
use Rattle.vcpu_session.specs.declared.Session.{Session}
use Rattle.vcpu_session.specs.Session.{new_session, with_vmcs}
use Rattle.record.specs.Runs.{read_all, numbers, number_bytes, flag_of, flag_bytes}
use Rattle.record.specs.Record as Record

-- ---- a pair of a control word, and the fixed bits of a control register

unfoldable pub pair_of : List ℕ → Pair
pair_of p = record { allowed0 = little_endian 4 p; allowed1 = little_endian 4 (drop 4 p) }

unfoldable pub pair_bytes : Pair → List ℕ
pair_bytes p = bytes_of 4 p.allowed0 ++ bytes_of 4 p.allowed1

unfoldable pub fixed_of : List ℕ → Fixed
fixed_of p = record { fixed0 = little_endian 8 p; fixed1 = little_endian 8 (drop 8 p) }

unfoldable pub fixed_bytes : Fixed → List ℕ
fixed_bytes f = bytes_of 8 f.fixed0 ++ bytes_of 8 f.fixed1

-- ---- the session that bytes spell

unfoldable pub session_of : List ℕ → Session
session_of b =
    record {
      progress = record {
        phase = little_endian 1 (drop Record.PHASE b);
        launched = flag_of (drop Record.LAUNCHED b);
        entries = little_endian 4 (drop Record.ENTRIES b);
        held = little_endian 4 (drop Record.HELD b);
      };
      regs = of_list (numbers 8 16 (drop Record.REGS b));
      vmcs = record {
        w16 = numbers 2 17 (drop Record.W16 b);
        w32 = numbers 4 50 (drop Record.W32 b);
        w64 = numbers 8 41 (drop Record.W64 b);
        natural = numbers 8 46 (drop Record.NATURAL b);
      };
      queue = record {
        waiting = little_endian 1 (drop Record.WAITING b);
        vectors = numbers 1 64 (drop Record.VECTORS b);
        coded = little_endian 8 (drop Record.CODED b);
        codes = numbers 4 64 (drop Record.CODES b);
      };
      capabilities = record {
        pairs = read_all 8 pair_of 5 (drop Record.PAIRS b);
        cr0 = fixed_of (drop Record.CR0 b);
        cr4 = fixed_of (drop Record.CR4 b);
      };
      xcr0 = record { value = little_endian 8 (drop Record.XCR0 b); supported = little_endian 8 (drop Record.SUPPORTED b) };
    }

-- a session with x in a field of its VMCS
abbrev pub with_field : Session → Field → ℕ → Session
with_field s f x = with_vmcs s (put s.vmcs f x)

-- ---- the bytes of a session: those of each part, in order. A new part goes to the end, so that no other moves

abbrev pub progress_parts : Progress → List (List ℕ)
progress_parts p = bytes_of 1 p.phase ∷ flag_bytes p.launched ∷ bytes_of 4 p.entries ∷ bytes_of 4 p.held ∷ []

abbrev pub reg_parts : GeneralRegisters → List (List ℕ)
reg_parts g = number_bytes 8 (list_of g) ∷ []

abbrev pub vmcs_parts : Vmcs → List (List ℕ)
vmcs_parts v = number_bytes 2 v.w16 ∷ number_bytes 4 v.w32 ∷ number_bytes 8 v.w64 ∷ number_bytes 8 v.natural ∷ []

abbrev pub queue_parts : Queue → List (List ℕ)
queue_parts q = bytes_of 1 q.waiting ∷ number_bytes 1 q.vectors ∷ bytes_of 8 q.coded ∷ number_bytes 4 q.codes ∷ []

abbrev pub capability_parts : Capabilities → List (List ℕ)
capability_parts c = flat_map pair_bytes c.pairs ∷ fixed_bytes c.cr0 ∷ fixed_bytes c.cr4 ∷ []

abbrev pub xcr0_parts : Xcr0 → List (List ℕ)
xcr0_parts x = bytes_of 8 x.value ∷ bytes_of 8 x.supported ∷ []

abbrev pub parts_of : Session → List (List ℕ)
parts_of s =
    progress_parts s.progress
    ++ (reg_parts s.regs ++ (vmcs_parts s.vmcs ++ (queue_parts s.queue ++ (capability_parts s.capabilities ++ xcr0_parts s.xcr0))))

unfoldable pub encode_of : Session → List ℕ
encode_of s = flatten (parts_of s)

-- ---- which bytes are a record

-- 2 is its negation: a wrong length, a phase above 4, a launched byte other than 0 and 1, more held entries than entries, or more than 64 events
unfoldable pub accepted_of : List ℕ → Bool
accepted_of b =
    eqb (length b) Record.LENGTH
    && leb (little_endian 1 (drop Record.PHASE b)) 4
    && leb (little_endian 1 (drop Record.LAUNCHED b)) 1
    && leb (little_endian 4 (drop Record.HELD b)) (little_endian 4 (drop Record.ENTRIES b))
    && leb (little_endian 1 (drop Record.WAITING b)) 64

-- 0 and the session of a record, or the number of a refusal and a new session
pub record Decoded : Type 0 where
  pub refusal : ℕ
  pub session : Session

abbrev pub decoded : ℕ → Session → Decoded
decoded n s = record { refusal = n; session = s }

-- what the code answers
abbrev pub decoded_by : Result Session Refusal → Decoded
decoded_by (Ok s) = decoded 0 s
decoded_by (Err e) = decoded (number e) new_session

-- 0 and the session, or 2 and a new session
unfoldable pub decode_of : List ℕ → Decoded
decode_of b = cond (accepted_of b) (decoded 0 (session_of b)) (decoded 2 new_session)

-- the number of a call, and the bytes that it leaves
pub record Encoded : Type 0 where
  pub refusal : ℕ
  pub bytes : List ℕ

abbrev pub encoded : ℕ → List ℕ → Encoded
encoded n b = record { refusal = n; bytes = b }

-- 2, and the bytes as they were, where their length is wrong
unfoldable pub encoded_of : Session → List ℕ → Encoded
encoded_of s b = cond (eqb (length b) Record.LENGTH) (encoded 0 (encode_of s)) (encoded 2 b)
