use Rattle.record.proofs.Accepted.{accepted_length}
use Rattle.vmcs.proofs.Lookup.{place_known}
use Rattle.x86_vcpu.proofs.readings.vcpu_read_field.Goals as goal

pub field_at-requires : goal.field_at-requires
field_at-requires c = (accepted_length _ _ c.accepts.ensures c.if-accepts.true, (place_known c.args.encoding c.in-Some.place c.in-Some.ensures).0)
