use mathlib.Core.Path.{sym}
use Rattle.definitions.proofs.RefusalLaws.{some}
use Rattle.record.proofs.Accepted.{accepted_length}
use Rattle.call_specs.specs.Reads.{get_reg}
use Rattle.regs.proofs.Index.{register_known, register_read}
use Rattle.x86_vcpu.proofs.readings.vcpu_get_reg_of_index.Goals as goal

pub returns-in-Err : goal.returns-in-Err
unfolding get_reg
returns-in-Err c = rw (← c.accepts.ensures, c.if-accepts.true, register_read, ← c.in-Err.ensures, some c.in-Err.refusal, c.from.ensures)

pub reg_at-requires : goal.reg_at-requires
unfolding get_reg
reg_at-requires c = (accepted_length _ _ c.accepts.ensures c.if-accepts.true, register_known _ (sym c.in-Ok.ensures))

pub returns-in-Ok : goal.returns-in-Ok
unfolding get_reg
returns-in-Ok c = rw (← c.accepts.ensures, c.if-accepts.true, register_read, ← c.in-Ok.ensures, c.reg_at.ensures)
