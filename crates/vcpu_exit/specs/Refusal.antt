-- The refusal of a report (document 01, "The operations and their numbers"): its number, or 0. Assumes nothing.
use Rattle.std.specs.Prelude.{ℕ, Bool, cond, not, ◌&&◌, ◌||◌, eqb, leb}
use Rattle.std.specs.Int.Bits.{bit_and}
use Rattle.bits.specs.Words.{low32}
use Rattle.bits.specs.Refuses.{or_else}
use Rattle.definitions.specs.VmxExitReason as VmxExitReason
use Rattle.definitions.specs.Interruption.{type_number, type_of}
use Rattle.vmcs.specs.Control.{pair_at}
use Rattle.vmcs.specs.Efer.{update_efer}
use Rattle.vmcs.specs.ExitInfo.{interrupt_exit_info}
use Rattle.vmcs.specs.Field.{value_of}
use Rattle.vmcs.specs.Names.VmcsControl32 as VmcsControl32
use Rattle.vmcs.specs.Names.VmcsControlNW as VmcsControlNW
use Rattle.vmcs.specs.Names.VmcsGuestNW as VmcsGuestNW
use Rattle.vmcs.specs.declared.Vmcs.{Vmcs}
use Rattle.vmcs.specs.declared.controls.Pair.{Pair}
use Rattle.vcpu_session.specs.Phase as Phase
use Rattle.vcpu_session.specs.Session.{is_unlawful}
use Rattle.vcpu_session.specs.declared.Capabilities.{Capabilities}
use Rattle.vcpu_session.specs.declared.Session.{Session}
use Rattle.vcpu_exit.specs.Reading.{reason_of, failed, read_edx_eax, is_move_to, turns_paging_on, past_end}
use Rattle.vcpu_exit.specs.Xcr0.{xcr0_allowed}
use Rattle.vcpu_exit.specs.declared.Report.{Report}

-- 14: above 64, or 35, 38 or 42, or failed with a reason other than 33, 34 or 41 (SDM 3D, appendix C; 3C, 27.8)
unfoldable pub unknown_reason : Report → Bool
unknown_reason r =
    not (leb (reason_of r) 64 && not (eqb (reason_of r) 35) && not (eqb (reason_of r) 38) && not (eqb (reason_of r) 42))
    || (failed r
    && not
    (eqb (reason_of r) VmxExitReason.INVALID_GUEST_STATE || eqb (reason_of r) VmxExitReason.MSR_LOAD_FAIL
    || eqb (reason_of r) VmxExitReason.MCE_DURING_VMENTRY))

-- the words differ under the mask
abbrev pub differ_under : ℕ → ℕ → ℕ → Bool
differ_under mask a b = not (eqb (bit_and a mask) (bit_and b mask))

-- 15: CR0 or CR4 differs from the session's under its guest/host mask, which the guest cannot bring about (SDM 3C, 25.6.6)
unfoldable pub owned_bits_differ : Vmcs → Report → Bool
owned_bits_differ v r =
    differ_under (value_of v VmcsControlNW.CR0_GUEST_HOST_MASK) r.cr0 (value_of v VmcsGuestNW.CR0)
    || differ_under (value_of v VmcsControlNW.CR4_GUEST_HOST_MASK) r.cr4 (value_of v VmcsGuestNW.CR4)

-- 16: reason 1, and the information is not valid or its type is 1, reserved (SDM 3C, 25.9.2)
unfoldable pub no_interrupt : Report → Bool
no_interrupt r =
    eqb (reason_of r) VmxExitReason.EXTERNAL_INTERRUPT
    && (not (interrupt_exit_info r.interruption).valid || eqb (type_number (type_of r.interruption)) 1)

-- 18: reason 28, and no move to CR0 or CR4 (SDM 3C, table 28-3)
unfoldable pub other_access : Report → Bool
other_access r = eqb (reason_of r) VmxExitReason.CR_ACCESS && not (is_move_to r 0 || is_move_to r 4)

-- 20: reason 55, and ECX is not 0 (SDM 2D, XSETBV)
unfoldable pub other_xcr : Report → Bool
other_xcr r = eqb (reason_of r) VmxExitReason.XSETBV && not (eqb (low32 r.regs.rcx) 0)

-- 19: reason 55, and EDX:EAX is no value that XCR0 may have (document 02, N1)
unfoldable pub refused_xcr0 : ℕ → Report → Bool
refused_xcr0 supported r = eqb (reason_of r) VmxExitReason.XSETBV && not (xcr0_allowed supported (read_edx_eax r.regs))

-- 8: paging is turned on, and entry bit 9 is to be set and is not in allowed-1
unfoldable pub efer_refusal : Pair → ℕ → Report → ℕ
efer_refusal pair entry r = cond (turns_paging_on r) (update_efer pair r.efer entry).refusal 0

-- the pair of the entry controls
abbrev pub entry_pair : Capabilities → Pair
entry_pair c = pair_at c.pairs 4

-- those of one exit reason alone. 16, 18, 20, 19: above. 21: an APIC access
unfoldable pub reason_refusal : ℕ → Report → ℕ
reason_refusal supported r =
    cond (no_interrupt r) 16
    (cond (other_access r) 18
    (cond (other_xcr r) 20
    (cond (refused_xcr0 supported r) 19
    (cond (eqb (reason_of r) VmxExitReason.APIC_ACCESS) 21 0))))

-- the refusals after 15, which need no session but the entry pair and word, and the supported bits of XCR0. Those of the reason; 17: RIP is to advance and the sum
-- passes 2^64 - 1; 8: above
unfoldable pub exit_refusal : Pair → ℕ → ℕ → Report → ℕ
exit_refusal pair entry supported r =
    or_else (reason_refusal supported r)
    (cond (past_end r) 17
    (efer_refusal pair entry r))

-- 2: no record holds the session. 1: not running. 14: above, and a failed entry meets nothing more. 15: above. Then those of the exit
unfoldable pub report_refusal : Session → Report → ℕ
report_refusal s r =
    cond (is_unlawful s) 2
    (cond (not (eqb s.progress.phase Phase.RUNNING)) 1
    (cond (unknown_reason r) 14
    (cond (failed r) 0
    (cond (owned_bits_differ s.vmcs r) 15
    (exit_refusal (entry_pair s.capabilities) (value_of s.vmcs VmcsControl32.VMENTRY_CONTROLS) s.xcr0.supported r)))))
