use Rattle.record.specs.Codec.{session_of}
use Rattle.record.proofs.session_at.Goals as goal

pub returns : goal.returns
unfolding session_of
returns c = rw (c.progress_at.ensures, c.get.ensures, c.vmcs_at.ensures, c.queue_at.ensures, c.capabilities_at.ensures, c.xcr0_at.ensures)
