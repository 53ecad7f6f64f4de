-- Bytes that are the record of a session (document 01, "Session"; refusal 2). Assumes nothing.
use Rattle.std.specs.Prelude.{◌≡◌, true, List, ℕ}
use Rattle.vcpu_session.specs.declared.Session.{Session}
use Rattle.record.specs.Codec.{session_of, accepted_of}

-- they are accepted, and spell that session: no other bytes do (`held_bytes` of proofs/Edits.antt)
pub record Holds (b : List ℕ) (s : Session) : Type 0 where
  pub accepted : accepted_of b ≡ true
  pub session : session_of b ≡ s
