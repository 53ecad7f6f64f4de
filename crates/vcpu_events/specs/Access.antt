-- Writing a field or a register of a session, and the APIC value (document 01, "Fields", "Registers", "Session"). Assumes nothing.
use Rattle.std.specs.Prelude.{ℕ, cond, not, eqb}
use Rattle.bits.specs.Words.{low32, high32}
use Rattle.regs.specs.Registers.{with_reg_of_index, with_reg}
use Rattle.regs.specs.declared.GeneralRegisters.{GeneralRegisters}
use Rattle.regs.specs.Registers.{RegWritten}
use Rattle.vmcs.specs.Fields.{vmcs_write}
use Rattle.vmcs.specs.Fields.{Written}
use Rattle.vcpu_session.specs.Phase as Phase
use Rattle.vcpu_session.specs.Session.{is_unlawful, with_progress, with_regs, with_vmcs, in_phase}
use Rattle.vcpu_session.specs.declared.Session.{Session}
use Rattle.vcpu_events.specs.Queue.{answered}
use Rattle.vcpu_events.specs.Queue.{Answered}

abbrev pub fields_written : Session → Written → Answered
fields_written s w = answered w.refusal (with_vmcs s w.vmcs)

-- 2: no record holds the session. 3, 4, 5: as for the fields alone, which a refused write leaves as they are
unfoldable pub write_field : Session → ℕ → ℕ → Answered
write_field s encoding value = cond (is_unlawful s) (answered 2 s) (fields_written s (vmcs_write s.vmcs encoding value))

abbrev pub registers_written : Session → RegWritten → Answered
registers_written s w = answered w.refusal (with_regs s w.regs)

-- 2: no record holds the session. 23: as for the registers alone, which a refused write leaves as they are
unfoldable pub set_register : Session → ℕ → ℕ → Answered
set_register s index value = cond (is_unlawful s) (answered 2 s) (registers_written s (with_reg_of_index s.regs index value))

-- the low half in RAX (index 0), the high half in RDX (index 2)
unfoldable pub edx_eax_set : GeneralRegisters → ℕ → GeneralRegisters
edx_eax_set g value = with_reg (with_reg g 0 (low32 value)) 2 (high32 value)

-- the session with its value, and ready again
abbrev pub apic_taken : Session → ℕ → Session
apic_taken s value = with_regs (with_progress s (in_phase s.progress Phase.READY)) (edx_eax_set s.regs value)

-- 2: no record holds the session. 1: it does not wait for a value
unfoldable pub apic_value : Session → ℕ → Answered
apic_value s value =
    cond (is_unlawful s) (answered 2 s)
    (cond (not (eqb s.progress.phase Phase.WAITING)) (answered 1 s)
    (answered 0 (apic_taken s value)))
