-- Text put into a buffer behind what is written there. Assumes nothing.
use Rattle.std.specs.Prelude.{ℕ, ◌+◌, ◌≤◌, ◌≡◌, List, length}
use Rattle.text.specs.declared.writer.Writer.{Writer}
use Rattle.text.specs.Put.{put_at}

-- a text has room behind what is written
abbrev pub Room : List ℕ → Writer → Type 0
Room text w = w.written + length text ≤ length w.buffer.now

-- a text was put behind what was written, and all other bytes are kept
pub record Puts (text : List ℕ) (old new : Writer) : Type 0 where
  pub room : Room text old
  pub length_kept : length new.buffer.now ≡ length old.buffer.now
  pub same_buffer : new.buffer.ghost_name ≡ old.buffer.ghost_name
  pub written : new.written ≡ old.written + length text
  pub bytes : new.buffer.now ≡ put_at old.buffer.now old.written text
