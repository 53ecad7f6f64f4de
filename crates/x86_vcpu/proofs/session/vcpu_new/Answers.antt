use borrow.Author.Tests.{eq-eqb}
use Rattle.record.proofs.RoundTrip.{faithful}
use Rattle.call_specs.specs.Records.{new_call}
use Rattle.x86_vcpu.proofs.session.vcpu_new.Goals as goal

pub returns : goal.returns
unfolding new_call
returns c = rw (
  eq-eqb _ _ c.if-bytes-ne-LENGTH.false,
  eq-eqb _ _ c.if-a-ne-FRAME_SIZE.false,
  eq-eqb _ _ c.if-b-ne-FRAME_SIZE.false,
  eq-eqb _ _ c.if-msr-ne-FRAME_SIZE.false,
  faithful.new,
  c.fill-4.ensures.after (λ y e. e),
  c.fill-3.ensures.after (λ y e. e),
  c.fill-2.ensures.after (λ y e. e),
  c.fill.ensures.after (λ y e. e),
  c.if-bytes-ne-LENGTH.false,
  c.if-a-ne-FRAME_SIZE.false,
  c.if-b-ne-FRAME_SIZE.false,
  c.if-msr-ne-FRAME_SIZE.false,
)
