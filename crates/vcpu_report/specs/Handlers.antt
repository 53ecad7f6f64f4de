-- What an exit leaves in the VMCS (document 01, "Session"; `builtin_vmexit_handler`). Assumes nothing.
use Rattle.std.specs.Prelude.{ℕ, ◌+◌, ◌^◌, false, cond, List, [], ◌∷◌, eqb}
use Rattle.std.specs.Int.Bits.{bit_and}
use Rattle.bits.specs.Words.{bit, bit_not}
use Rattle.definitions.specs.VmxExitReason as VmxExitReason
use Rattle.vmcs.specs.Cr.{cr0_words, cr4_words, cr0_writes, cr4_writes}
use Rattle.vmcs.specs.Efer.{update_efer}
use Rattle.vmcs.specs.Field.{value_of}
use Rattle.vmcs.specs.Flags.Cr0Flags as Cr0Flags
use Rattle.vmcs.specs.Names.VmcsControl32 as VmcsControl32
use Rattle.vmcs.specs.Names.VmcsGuest32 as VmcsGuest32
use Rattle.vmcs.specs.Names.VmcsGuest64 as VmcsGuest64
use Rattle.vmcs.specs.Names.VmcsGuestNW as VmcsGuestNW
use Rattle.vmcs.specs.Names.VmcsReadOnly32 as VmcsReadOnly32
use Rattle.vmcs.specs.Names.VmcsReadOnlyNW as VmcsReadOnlyNW
use Rattle.vmcs.specs.Writes.{Write, ◌≔◌, applied}
use Rattle.vmcs.specs.declared.Vmcs.{Vmcs}
use Rattle.vmcs.specs.Efer.{EferUpdate}
use Rattle.vmcs.specs.declared.controls.Pair.{Pair}
use Rattle.vcpu_session.specs.Session.{VMX_PREEMPTION_TIMER_SET_VALUE}
use Rattle.vcpu_session.specs.declared.Capabilities.{Capabilities}
use Rattle.vcpu_session.specs.declared.Fixed.{Fixed}
use Rattle.vcpu_events.specs.Entry.{window_set}
use Rattle.vcpu_exit.specs.Reading.{reason_of, moved_value, is_move_to, advance_of}
use Rattle.vcpu_exit.specs.Refusal.{entry_pair}
use Rattle.vcpu_exit.specs.declared.Report.{Report}

-- ---- storing the report

-- all of it but registers and CPUID words; bit 31, valid, of the entry interruption field is cleared (SDM 3C, 25.8.3)
abbrev pub report_writes : Vmcs → Report → List Write
report_writes v r =
    VmcsGuestNW.RIP ≔ r.rip
    ∷ VmcsGuestNW.RSP ≔ r.rsp
    ∷ VmcsGuestNW.RFLAGS ≔ r.rflags
    ∷ VmcsGuest32.INTERRUPTIBILITY_STATE ≔ r.interruptibility
    ∷ VmcsGuestNW.CR0 ≔ r.cr0
    ∷ VmcsGuestNW.CR3 ≔ r.cr3
    ∷ VmcsGuestNW.CR4 ≔ r.cr4
    ∷ VmcsGuest64.IA32_EFER ≔ r.efer
    ∷ VmcsGuestNW.CS_BASE ≔ r.csbase
    ∷ VmcsGuest32.CS_ACCESS_RIGHTS ≔ r.csrights
    ∷ VmcsGuest32.SS_ACCESS_RIGHTS ≔ r.ssrights
    ∷ VmcsReadOnly32.EXIT_REASON ≔ r.reason
    ∷ VmcsReadOnlyNW.EXIT_QUALIFICATION ≔ r.qualification
    ∷ VmcsReadOnly32.VMEXIT_INSTRUCTION_LEN ≔ r.length
    ∷ VmcsReadOnly32.VMEXIT_INTERRUPTION_INFO ≔ r.interruption
    ∷ VmcsReadOnly32.VMEXIT_INTERRUPTION_ERR_CODE ≔ r.code
    ∷ VmcsControl32.VMENTRY_INTERRUPTION_INFO_FIELD ≔ bit_and (value_of v VmcsControl32.VMENTRY_INTERRUPTION_INFO_FIELD) (bit_not 32 (2 ^ 31))
    ∷ []

unfoldable pub stored : Vmcs → Report → Vmcs
stored v r = applied (report_writes v r) v

-- a failed entry: reason and qualification only (SDM 3C, 27.8)
abbrev pub failure_writes : Report → List Write
failure_writes r = VmcsReadOnly32.EXIT_REASON ≔ r.reason ∷ VmcsReadOnlyNW.EXIT_QUALIFICATION ≔ r.qualification ∷ []

unfoldable pub failure_stored : Vmcs → Report → Vmcs
failure_stored v r = applied (failure_writes r) v

-- ---- reason 52: the preemption timer starts anew (SDM 3C, 26.5.1)

unfoldable pub timer_set : Vmcs → Vmcs
timer_set v = applied (VmcsGuest32.VMX_PREEMPTION_TIMER_VALUE ≔ VMX_PREEMPTION_TIMER_SET_VALUE ∷ []) v

-- ---- reason 28: a move to CR0 or CR4 (SDM 3C, table 28-3)

unfoldable pub cr0_set : Vmcs → Fixed → ℕ → Vmcs
cr0_set v fixed value = applied (cr0_writes (cr0_words fixed.fixed0 fixed.fixed1 value)) v

unfoldable pub cr4_set : Vmcs → Fixed → ℕ → Vmcs
cr4_set v fixed value = applied (cr4_writes (cr4_words fixed.fixed0 fixed.fixed1 value)) v

-- paging is turned on: EFER and the entry controls, as they were where LME and LMA are both set
abbrev pub efer_writes : EferUpdate → List Write
efer_writes u = VmcsGuest64.IA32_EFER ≔ u.efer ∷ VmcsControl32.VMENTRY_CONTROLS ≔ u.entry ∷ []

unfoldable pub efer_updated : Vmcs → Pair → ℕ → Vmcs
efer_updated v pair efer = applied (efer_writes (update_efer pair efer (value_of v VmcsControl32.VMENTRY_CONTROLS))) v

-- a move to CR4, or to CR0, where PG turns paging on
unfoldable pub cr_handled : Vmcs → Capabilities → Report → Vmcs
cr_handled v c r =
    cond (is_move_to r 4) (cr4_set v c.cr4 (moved_value r))
    (cond (bit Cr0Flags.PAGING (moved_value r)) (efer_updated (cr0_set v c.cr0 (moved_value r)) (entry_pair c) r.efer)
    (cr0_set v c.cr0 (moved_value r)))

-- ---- by reason: all others leave the fields alone

unfoldable pub handled_as : ℕ → Vmcs → Capabilities → Report → Vmcs
handled_as reason v c r =
    cond (eqb reason VmxExitReason.INTERRUPT_WINDOW) (window_set v false)
    (cond (eqb reason VmxExitReason.PREEMPTION_TIMER) (timer_set v)
    (cond (eqb reason VmxExitReason.CR_ACCESS) (cr_handled v c r) v))

abbrev pub handled : Vmcs → Capabilities → Report → Vmcs
handled v c r = handled_as (reason_of r) v c r

-- ---- RIP past the instruction

unfoldable pub rip_advanced : Vmcs → Report → Vmcs
rip_advanced v r = applied (VmcsGuestNW.RIP ≔ (r.rip + advance_of r) ∷ []) v

-- the fields after an accepted exit
unfoldable pub vmcs_after : Vmcs → Capabilities → Report → Vmcs
vmcs_after v c r = rip_advanced (handled (stored v r) c r) r
