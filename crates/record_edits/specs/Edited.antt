-- The session of a borrowed record, and what an edit leaves. Assumes nothing.
use Rattle.std.specs.Prelude.{◌≡◌}
use Rattle.vcpu_session.specs.declared.Session.{Session}
use Rattle.record.specs.Codec.{session_of}
use Rattle.record_edits.specs.declared.SessionRecord.{SessionRecord}

-- the session that it holds
abbrev pub session : SessionRecord → Session
session r = session_of r.bytes.now

-- the same bytes, which hold what f makes of the session that they held
pub record Edited (old new : SessionRecord) (f : Session → Session) : Type 0 where
  pub holds : session new ≡ f (session old)
  pub same_reference : new.bytes.ghost_name ≡ old.bytes.ghost_name
