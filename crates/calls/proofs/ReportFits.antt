-- A report keeps a session within its types. Assumes nothing.
use Prim.Native.Nat.{ℕ, zero, suc, ◌+◌, ◌/◌, ◌%◌, ◌^◌, ◌<◌}
use mathlib.Core.Path.{◌≡◌, refl, sym, subst}
use mathlib.Core.Bool.{false}
use mathlib.Core.List.{List, [], ◌∷◌}
use native.Mathlib.Omega.{arith}
use native.Mathlib.Nat.{lt_of_le_of_lt}
use lib.Bits.{bit_and, bit_or, or_lt, and_le_l}
use lib.Dec.{eqb, lit<}
use lib.ListN.{get_or, drop}
use borrow.Author.Tests.{eqb-true, ltb-false}
use Rattle.bits.specs.LittleEndian.{number_of, little_endian, Below}
use Rattle.bits.proofs.Each.{◌⊗◌}
use Rattle.bits.proofs.LittleEndianLaws.{below_drop, little_below}
use Rattle.bits.specs.Words.{bit, bit_not, low32}
use Rattle.bits.proofs.Tells.{cond_all}
use Rattle.regs.specs.Registers.{list_of}
use Rattle.regs.specs.declared.GeneralRegisters.{GeneralRegisters}
use Rattle.definitions.specs.VmxExitReason as VmxExitReason
use Rattle.vmcs.specs.Control.{pair_at}
use Rattle.vmcs.specs.Cr.{cr0_free, cr0_off, cr0_words, cr4_words, cr0_writes, cr4_writes}
use Rattle.vmcs.specs.Efer.{is_long_mode, lacks_ia32e, update_efer, efer_named}
use Rattle.vmcs.specs.Field.{value_of}
use Rattle.vmcs.specs.Flags.Cr0Flags as Cr0Flags
use Rattle.vmcs.specs.Names.VmcsControl32 as VmcsControl32
use Rattle.vmcs.specs.Names.VmcsGuest32 as VmcsGuest32
use Rattle.vmcs.specs.Names.VmcsGuestNW as VmcsGuestNW
use Rattle.vmcs.specs.Writes.{◌≔◌}
use Rattle.vmcs.specs.declared.Vmcs.{Vmcs}
use Rattle.vmcs.specs.Efer.{EferUpdate}
use Rattle.vmcs.specs.declared.controls.Pair.{Pair}
use Rattle.vcpu_session.specs.declared.Capabilities.{Capabilities}
use Rattle.vcpu_session.specs.declared.Fixed.{Fixed}
use Rattle.vcpu_session.specs.declared.Xcr0.{Xcr0}
use Rattle.vcpu_session.specs.declared.Session.{Session}
use Rattle.vcpu_session.specs.Session.{VMX_PREEMPTION_TIMER_SET_VALUE}
use Rattle.vcpu_exit.specs.Reading.{reason_of, failed, register_of, moved_value, is_move_to, advance_of, past_end}
use Rattle.vcpu_exit.specs.Refusal.{entry_pair, report_refusal}
use Rattle.vcpu_exit.specs.declared.CpuidWords.{CpuidWords}
use Rattle.vcpu_exit.specs.declared.Report.{Report}
use Rattle.vcpu_exit.proofs.Passes.{passes}
use Rattle.vcpu_answers.specs.Cpuid.{vendor_info, extended_features, frequency_info, leaf_words, with_words, handle_cpuid}
use Rattle.vcpu_events.specs.Entry.{window_word, window_set}
use Rattle.vcpu_report.specs.Handlers.{report_writes, stored, failure_writes, failure_stored, timer_set, cr0_set, cr4_set, efer_writes, efer_updated, cr_handled, handled_as, rip_advanced, vmcs_after}
use Rattle.blocks.specs.ReportLayout as Layout
use Rattle.blocks.specs.ReportBlock.{cpuid_of, report_of}
use Rattle.vcpu_report.specs.ExitReport.{registers_after, xcr0_after, failed_entry, after_exit, accepted, exit_report}
use Rattle.vcpu_report.specs.ExitReport.{Reported}
use Rattle.vcpu_report.proofs.ReportLaws.{phase_known}
use Rattle.record.specs.Runs.{All, Numbers, read_all, numbers}
use Rattle.record.specs.Fitting.{Fitting, VmcsFits, PairFits, FixedFits, CapabilitiesFit, Xcr0Fits}
use Rattle.record.proofs.FittingLaws.{regs_fits, vmcs_fits_lem, xcr0_fits, in_phase_fits}
use Rattle.calls.proofs.Fields.{value_fits, applied_fits}
use Rattle.record.proofs.Codecs.{registers_read}
use Rattle.record_edits.proofs.Fits.{reg_fits}
use Rattle.calls.proofs.SetupFits.{cr_value, cr_mask, word_fits}
use Rattle.calls.proofs.Sessions.{Sound}

-- ---- a report of bytes fits its types

pub record FitsReport (r : Report) : Type 0 where
  pub regs : Below (2 ^ 64) (list_of r.regs)
  pub rip : r.rip < 2 ^ 64
  pub rsp : r.rsp < 2 ^ 64
  pub rflags : r.rflags < 2 ^ 64
  pub interruptibility : r.interruptibility < 2 ^ 32
  pub cr0 : r.cr0 < 2 ^ 64
  pub cr3 : r.cr3 < 2 ^ 64
  pub cr4 : r.cr4 < 2 ^ 64
  pub efer : r.efer < 2 ^ 64
  pub csbase : r.csbase < 2 ^ 64
  pub csrights : r.csrights < 2 ^ 32
  pub ssrights : r.ssrights < 2 ^ 32
  pub reason : r.reason < 2 ^ 32
  pub qualification : r.qualification < 2 ^ 64
  pub long : r.length < 2 ^ 32
  pub interruption : r.interruption < 2 ^ 32
  pub code : r.code < 2 ^ 32
  pub eax : r.cpuid.eax < 2 ^ 32
  pub ebx : r.cpuid.ebx < 2 ^ 32
  pub ecx : r.cpuid.ecx < 2 ^ 32
  pub edx : r.cpuid.edx < 2 ^ 32

numbers_below : (n : ℕ) (bs : List ℕ) → Below 256 bs → Below (256 ^ 8) (numbers 8 n bs)
unfolding read_all
numbers_below zero bs h i = lit< tt
numbers_below (suc n) bs h zero = little_below 8 bs h
numbers_below (suc n) bs h (suc i) = numbers_below n (drop 8 bs) (below_drop 8 bs h) i

pub block_fits : (block : List ℕ) → Below 256 block → FitsReport (report_of block)
unfolding report_of cpuid_of
block_fits block b =
    record {
      regs = subst (Below (256 ^ 8)) (sym (registers_read (drop Layout.REGS block))) (numbers_below 16 (drop Layout.REGS block) (below_drop Layout.REGS block b));
      rip = p8 Layout.RIP;
      rsp = p8 Layout.RSP;
      rflags = p8 Layout.RFLAGS;
      interruptibility = p4 Layout.INTERRUPTIBILITY;
      cr0 = p8 Layout.CR0;
      cr3 = p8 Layout.CR3;
      cr4 = p8 Layout.CR4;
      efer = p8 Layout.EFER;
      csbase = p8 Layout.CS_BASE;
      csrights = p4 Layout.CS_RIGHTS;
      ssrights = p4 Layout.SS_RIGHTS;
      reason = p4 Layout.REASON;
      qualification = p8 Layout.QUALIFICATION;
      long = p4 Layout.INSTRUCTION_LENGTH;
      interruption = p4 Layout.INTERRUPTION;
      code = p4 Layout.ERROR_CODE;
      eax = p4 Layout.CPUID_EAX;
      ebx = p4 Layout.CPUID_EBX;
      ecx = p4 Layout.CPUID_ECX;
      edx = p4 Layout.CPUID_EDX;
    }
  where
    p8 : (o : ℕ) → little_endian 8 (drop o block) < 2 ^ 64
    p8 o = little_below 8 (drop o block) (below_drop o block b)

    p4 : (o : ℕ) → little_endian 4 (drop o block) < 2 ^ 32
    p4 o = little_below 4 (drop o block) (below_drop o block b)

-- ---- the registers

record WordsFit (w : CpuidWords) : Type 0 where
  eax : w.eax < 2 ^ 32
  ebx : w.ebx < 2 ^ 32
  ecx : w.ecx < 2 ^ 32
  edx : w.edx < 2 ^ 32

masked : (a m : ℕ) → a < 2 ^ 32 → bit_and a m < 2 ^ 32
masked a m h = lt_of_le_of_lt (and_le_l a m) h

leaf_fits : (leaf rcx : ℕ) (h : CpuidWords) → WordsFit h → WordsFit (leaf_words leaf rcx h)
unfolding leaf_words extended_features frequency_info vendor_info number_of
leaf_fits leaf rcx h w =
    cond_all WordsFit (eqb leaf 1) _ _
    (λ _. record { eax = masked h.eax _ w.eax; ebx = w.ebx; ecx = or_lt 32 _ _ (masked h.ecx _ w.ecx) (lit< tt); edx = w.edx })
    (λ _. cond_all WordsFit (eqb leaf 7) _ _
    (λ _. cond_all WordsFit (eqb rcx 0) _ _ (λ _. record { eax = w.eax; ebx = w.ebx; ecx = masked h.ecx _ w.ecx; edx = w.edx }) (λ _. w))
    (λ _. cond_all WordsFit (eqb leaf 0x16) _ _
    (λ _. cond_all WordsFit (eqb h.eax 0) _ _ (λ _. record { eax = lit< tt; ebx = w.ebx; ecx = w.ecx; edx = w.edx }) (λ _. w))
    (λ _. cond_all WordsFit (eqb leaf 0x40000000) _ _ (λ _. record { eax = lit< tt; ebx = lit< tt; ecx = lit< tt; edx = lit< tt })
    (λ _. cond_all WordsFit (eqb leaf 0x40000001) _ _ (λ _. record { eax = lit< tt; ebx = lit< tt; ecx = lit< tt; edx = lit< tt }) (λ _. w)))))

words_fit : (g : GeneralRegisters) (w : CpuidWords) → WordsFit w → Numbers 16 8 (list_of g) → Numbers 16 8 (list_of (with_words g w))
unfolding with_words
words_fit g w f m =
    reg_fits _ 2 w.edx (reg_fits _ 1 w.ecx (reg_fits _ 3 w.ebx (reg_fits g 0 w.eax m (omega (arith, f.eax))) (omega (arith, f.ebx)))
    (omega (arith, f.ecx))) (omega (arith, f.edx))

registers_fit : (r : Report) → FitsReport r → Numbers 16 8 (list_of (registers_after r))
unfolding registers_after handle_cpuid
registers_fit r f =
    let m : Numbers 16 8 (list_of r.regs) = record { sized = refl; below = f.regs } in
    cond_all (λ (g : GeneralRegisters). Numbers 16 8 (list_of g)) (eqb (reason_of r) VmxExitReason.CPUID) _ _
    (λ _. words_fit r.regs _ (leaf_fits (low32 r.regs.rax) r.regs.rcx r.cpuid
    (record { eax = f.eax; ebx = f.ebx; ecx = f.ecx; edx = f.edx })) m)
    (λ _. m)

-- ---- the fields

-- a pair of the capabilities
pair_fits : (ps : List Pair) (k : ℕ) → All PairFits ps → PairFits (pair_at ps k)
pair_fits [] k a = (lit< tt, lit< tt)
pair_fits (p ∷ ps) zero a = a.0
pair_fits (p ∷ ps) (suc k) a = pair_fits ps k a.1

stored_fits : (v : Vmcs) (r : Report) → FitsReport r → VmcsFits v → VmcsFits (stored v r)
unfolding stored
stored_fits v r f m =
    applied_fits (report_writes v r) v m
    (f.rip ⊗ f.rsp ⊗ f.rflags ⊗ f.interruptibility ⊗ f.cr0 ⊗ f.cr3 ⊗ f.cr4 ⊗ f.efer ⊗ f.csbase ⊗ f.csrights ⊗ f.ssrights
    ⊗ f.reason ⊗ f.qualification ⊗ f.long ⊗ f.interruption ⊗ f.code
    ⊗ lt_of_le_of_lt (and_le_l (value_of v VmcsControl32.VMENTRY_INTERRUPTION_INFO_FIELD) _) (value_fits v VmcsControl32.VMENTRY_INTERRUPTION_INFO_FIELD m) ⊗ tt)

window_fits : (v : Vmcs) → VmcsFits v → VmcsFits (window_set v false)
unfolding window_set
window_fits v m =
    applied_fits (VmcsControl32.PRIMARY_PROCBASED_EXEC_CONTROLS ≔ window_word v false ∷ []) v m
    (lt_of_le_of_lt (and_le_l (value_of v VmcsControl32.PRIMARY_PROCBASED_EXEC_CONTROLS) _) (value_fits v VmcsControl32.PRIMARY_PROCBASED_EXEC_CONTROLS m), tt)

timer_fits : (v : Vmcs) → VmcsFits v → VmcsFits (timer_set v)
unfolding timer_set
timer_fits v m = applied_fits (VmcsGuest32.VMX_PREEMPTION_TIMER_VALUE ≔ VMX_PREEMPTION_TIMER_SET_VALUE ∷ []) v m (lit< tt, tt)

moved_fits : (r : Report) → FitsReport r → moved_value r < 2 ^ 64
unfolding moved_value register_of
moved_fits r f =
    let i = r.qualification / 2 ^ 8 % 2 ^ 4 in
    cond_all (λ (x : ℕ). x < 2 ^ 64) (eqb i 4) r.rsp (get_or (list_of r.regs) i 0) (λ _. f.rsp) (λ _. f.regs i)

cr0_fits : (v : Vmcs) (c : Fixed) (x : ℕ) → FixedFits c → x < 2 ^ 64 → VmcsFits v → VmcsFits (cr0_set v c x)
unfolding cr0_set
cr0_fits v c x k h m =
    let may = lt_of_le_of_lt (and_le_l c.fixed1 (bit_not 64 cr0_off)) k.1 in
    let must = lt_of_le_of_lt (and_le_l c.fixed0 (bit_not 64 cr0_free)) k.0 in
    applied_fits (cr0_writes (cr0_words c.fixed0 c.fixed1 x)) v m (cr_value x _ _ may must, (h, (cr_mask _ _ must, tt)))

cr4_fits : (v : Vmcs) (c : Fixed) (x : ℕ) → FixedFits c → x < 2 ^ 64 → VmcsFits v → VmcsFits (cr4_set v c x)
unfolding cr4_set
cr4_fits v c x k h m =
    let y = or_lt 64 x 8192 h (lit< tt) in
    applied_fits (cr4_writes (cr4_words c.fixed0 c.fixed1 x)) v m (cr_value (bit_or x 8192) _ _ k.1 k.0, (y, (cr_mask _ _ k.0, tt)))

efer_fits : (v : Vmcs) (pair : Pair) (efer : ℕ) → PairFits pair → efer < 2 ^ 64 → VmcsFits v → VmcsFits (efer_updated v pair efer)
unfolding efer_updated update_efer
efer_fits v pair efer p h m =
    let entry = value_of v VmcsControl32.VMENTRY_CONTROLS in
    let same : (efer < 2 ^ 64) × (entry < 2 ^ 32) = (h, value_fits v VmcsControl32.VMENTRY_CONTROLS m) in
    let q = cond_all (λ (u : EferUpdate). (u.efer < 2 ^ 64) × (u.entry < 2 ^ 32)) (is_long_mode efer) _ _ (λ _. same)
    (λ _. cond_all (λ (u : EferUpdate). (u.efer < 2 ^ 64) × (u.entry < 2 ^ 32)) (lacks_ia32e pair.allowed1) _ _ (λ _. same)
    (λ _. (
      or_lt 64 (bit_and efer efer_named) 1024 (lt_of_le_of_lt (and_le_l efer efer_named) h) (lit< tt),
      word_fits pair.allowed0
          pair.allowed1 entry 512 0 p.0 (lit< tt),
    ))) in
    applied_fits (efer_writes (update_efer pair efer entry)) v m (q.0, (q.1, tt))

handled_fits : (v : Vmcs) (c : Capabilities) (r : Report) → CapabilitiesFit c → FitsReport r → VmcsFits v → VmcsFits (handled_as (reason_of r) v c r)
unfolding handled_as cr_handled
handled_fits v c r k f m =
    cond_all VmcsFits (eqb (reason_of r) VmxExitReason.INTERRUPT_WINDOW) _ _ (λ _. window_fits v m)
    (λ _. cond_all VmcsFits (eqb (reason_of r) VmxExitReason.PREEMPTION_TIMER) _ _ (λ _. timer_fits v m)
    (λ _. cond_all VmcsFits (eqb (reason_of r) VmxExitReason.CR_ACCESS) _ _
    (λ _. cond_all VmcsFits (is_move_to r 4) _ _ (λ _. cr4_fits v c.cr4 (moved_value r) k.cr4 (moved_fits r f) m)
    (λ _. cond_all VmcsFits (bit Cr0Flags.PAGING (moved_value r)) _ _
    (λ _. efer_fits _ (entry_pair c) r.efer (pair_fits c.pairs 4 k.pairs.each) f.efer
    (cr0_fits v c.cr0 (moved_value r) k.cr0 (moved_fits r f) m))
    (λ _. cr0_fits v c.cr0 (moved_value r) k.cr0 (moved_fits r f) m)))
    (λ _. m)))

after_fits : (v : Vmcs) (c : Capabilities) (r : Report) → CapabilitiesFit c → FitsReport r → r.rip + advance_of r < 2 ^ 64 → VmcsFits v
    → VmcsFits (vmcs_after v c r)
unfolding vmcs_after rip_advanced
after_fits v c r k f h m = applied_fits (VmcsGuestNW.RIP ≔ (r.rip + advance_of r) ∷ []) _ (handled_fits (stored v r) c r k f (stored_fits v r f m)) (h, tt)

failure_fits : (v : Vmcs) (r : Report) → FitsReport r → VmcsFits v → VmcsFits (failure_stored v r)
unfolding failure_stored
failure_fits v r f m = applied_fits (failure_writes r) v m (f.reason, (f.qualification, tt))

-- ---- XCR0

xcr0_after_fits : (x : Xcr0) (r : Report) → Xcr0Fits x → Xcr0Fits (xcr0_after x r)
unfolding xcr0_after
xcr0_after_fits x r f = cond_all Xcr0Fits (eqb (reason_of r) VmxExitReason.XSETBV) _ _ (λ _. record { value = omega arith; supported = f.supported }) (λ _. f)

-- ---- the report

within_end : (r : Report) → past_end r ≡ false → r.rip + advance_of r < 2 ^ 64
unfolding past_end
within_end r e = let z = ltb-false 18446744073709551615 (r.rip + advance_of r) e in omega arith

pub report_fits : (s : Session) (r : Report) → FitsReport r → Sound s → Fitting (exit_report s r).session
unfolding exit_report accepted failed_entry after_exit
report_fits s r f h =
    cond_all P (eqb (report_refusal s r) 0) _ _
    (λ t. cond_all P (failed r) _ _
    (λ _. in_phase_fits (vmcs_fits_lem h.fits (failure_fits s.vmcs r f h.fits.vmcs)) (lit< tt))
    (λ u.
    let fields = after_fits s.vmcs s.capabilities r h.fits.capabilities f (within_end r (passes s r (eqb-true _ _ t) u).sum) h.fits.vmcs in
    in_phase_fits (regs_fits (xcr0_fits (vmcs_fits_lem h.fits fields) (xcr0_after_fits s.xcr0 r h.fits.xcr0)) (registers_after r) (registers_fit r f)) (omega (arith, phase_known r))))
    (λ _. h.fits)
  where
    P : Reported → Type 0
    P a = Fitting a.session
