-- What the theorems about records say: the record and the session determine each other. Assumes nothing.
use Rattle.std.specs.Prelude.{◌≡◌, false, List, ℕ, replicate}
use Rattle.bits.specs.LittleEndian.{Below}
use Rattle.vmcs.specs.Writes.{Sized}
use Rattle.vcpu_session.specs.declared.Session.{Session}
use Rattle.vcpu_session.specs.Session.{new_session, is_unlawful}
use Rattle.record.specs.Record as Record
use Rattle.record.specs.Codec.{encode_of, decoded, decode_of}
use Rattle.record.specs.Fitting.{Fitting}
use Rattle.record.specs.Acceptable.{Acceptable}

pub record Faithful : Type 0 where
  -- a session is read back from its record
  pub decode_encode : (s : Session) → Fitting s → is_unlawful s ≡ false → decode_of (encode_of s) ≡ decoded 0 s
  -- accepted bytes are the record of their session
  pub encode_decode : (b : List ℕ) → Below 256 b → (decode_of b).refusal ≡ 0 → encode_of (decode_of b).session ≡ b
  -- the decoded session is lawful, fits its types, and its arrays have their lengths
  pub lawful : (b : List ℕ) → Below 256 b → is_unlawful (decode_of b).session ≡ false
  pub fitting : (b : List ℕ) → Below 256 b → Fitting (decode_of b).session
  pub sized : (b : List ℕ) → Below 256 b → Sized (decode_of b).session.vmcs
  -- exactly the acceptable bytes are accepted, and all others are refused by 2
  pub accepted : (b : List ℕ) → Acceptable b → (decode_of b).refusal ≡ 0
  pub acceptable : (b : List ℕ) → (decode_of b).refusal ≡ 0 → Acceptable b
  pub refused : (b : List ℕ) → (Acceptable b → ⊥) → (decode_of b).refusal ≡ 2
  -- the record of a new session is all zero
  pub new : encode_of new_session ≡ replicate Record.LENGTH 0
