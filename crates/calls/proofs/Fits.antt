-- Well-typed calls keep sessions within their types, and lawful: every session that they lead to has a record. Assumes nothing.
use Prim.Native.Nat.{ℕ, ◌-◌, ◌^◌, ◌<◌}
use mathlib.Core.Path.{◌≡◌}
use mathlib.Core.Bool.{Bool, true, cond, not}
use mathlib.Core.List.{List}
use native.Mathlib.Omega.{arith}
use lib.Bits.{or_lt}
use lib.Dec.{eqb, leb, ltb, lit<}
use borrow.Author.Tests.{eqb-false, leb-false, ltb-false}
use Rattle.bits.specs.Words.{low32, high32}
use Rattle.bits.proofs.WithBit.{with_bit_lt}
use Rattle.bits.specs.LittleEndian.{Below}
use Rattle.bits.proofs.Tells.{cond_all}
use Rattle.definitions.specs.Interruption.{is_soft, from_vector}
use Rattle.definitions.proofs.EventLaws.{event_bits}
use Rattle.regs.specs.Registers.{with_reg, with_reg_of_index}
use Rattle.regs.specs.Registers.{RegWritten}
use Rattle.vmcs.specs.Field.{value_of}
use Rattle.vmcs.specs.Fields.{position_of, field_of, greatest_of, read_only, vmcs_write}
use Rattle.vmcs.specs.Named.{encodings}
use Rattle.vmcs.specs.Names.VmcsControl32 as VmcsControl32
use Rattle.vmcs.specs.Names.VmcsHostNW as VmcsHostNW
use Rattle.vmcs.specs.Names.VmcsReadOnly32 as VmcsReadOnly32
use Rattle.vmcs.specs.declared.Vmcs.{Vmcs}
use Rattle.vmcs.specs.Fields.{Written as FieldsWritten}
use Rattle.vmcs.proofs.FieldLaws.{fits_field}
use Rattle.vcpu_session.specs.Session.{LAST_ENTRY, is_unlawful, Lawful}
use Rattle.vcpu_session.specs.declared.Session.{Session}
use Rattle.vcpu_events.specs.Queue as Queue
use Rattle.vcpu_events.specs.Queue.{pushed, popped, front_of}
use Rattle.vcpu_events.specs.Entry as Entry
use Rattle.vcpu_events.specs.Entry.{injection_of, after_entry, progress_after, queue_after, vmcs_after, with_stack, window_set, code_goes_in, word_of, code_of, with_code, with_length, injected}
use Rattle.vcpu_events.specs.Queue.{Answered}
use Rattle.vcpu_events.specs.Entry.{Entered}
use Rattle.vcpu_events.specs.declared.Injection.{Injection}
use Rattle.vcpu_events.specs.declared.Injection.TheVariants.{Empty, Held, Written}
use Rattle.vcpu_events.specs.Access as Access
use Rattle.vcpu_events.specs.Access.{fields_written, registers_written, edx_eax_set}
use Rattle.vcpu_setup.specs.Capability.{capabilities_of}
use Rattle.vcpu_setup.specs.Setup.{setup_refusal, readied, setup_of}
use Rattle.vcpu_setup.specs.Writes.{setup_writes}
use Rattle.vcpu_setup.proofs.SetupLaws.{keeps_setup}
use Rattle.blocks.specs.SetupBlock.{arguments_of}
use Rattle.record.specs.Fitting.{Fitting, ProgressFits, VmcsFits, QueueFits}
use Rattle.record.proofs.FittingLaws.{progress_fits_lem, regs_fits, vmcs_fits_lem, queue_fits_lem, capabilities_fits, xcr0_fits, in_phase_fits}
use Rattle.vcpu_report.proofs.ReportLaws.{report_laws}
use Rattle.blocks.specs.ReportBlock as Report
use Rattle.blocks.specs.ReportBlock.{report_of}
use Rattle.call_specs.specs.Records.{queue_step}
use Rattle.calls.proofs.Keeps.{keeps_queue_step, keeps_interrupt, keeps_field, keeps_register, keeps_apic, keeps_entry}
use Rattle.calls.specs.Reference.{Call, setup, queue_event, inject_interrupt, entry, exit_report, apic_value, field_write, register_write, WellTyped}
use Rattle.record_edits.proofs.Fits.{numbers_set, numbers_shifted, reg_fits, put_fits}
use Rattle.calls.proofs.Fields.{value_fits, applied_fits}
use Rattle.calls.proofs.SetupFits.{writes_fit, capabilities_fit_lem, supported_fits}
use Rattle.calls.proofs.ReportFits.{block_fits, report_fits}
use Rattle.calls.proofs.Sessions.{has_buffers, next, Sound}

-- ---- the parts of an entry

stack_fits : (v : Vmcs) (launched : Bool) (stack : ℕ) → stack < 2 ^ 64 → VmcsFits v → VmcsFits (with_stack v launched stack)
unfolding with_stack
stack_fits v launched stack h m = cond_all VmcsFits launched _ _ (λ _. m) (λ _. put_fits m VmcsHostNW.RSP stack h)

code_fits : (v : Vmcs) (e : Queue.Event) → e.code < 2 ^ 32 → VmcsFits v → VmcsFits (with_code v e)
unfolding with_code code_of
code_fits v e h m =
    cond_all VmcsFits (code_goes_in v e) _ _
    (λ _. put_fits m VmcsControl32.VMENTRY_EXCEPTION_ERR_CODE _
    (cond_all (λ (x : ℕ). x < 2 ^ 32) e.coded _ _ (λ _. h) (λ _. value_fits v VmcsReadOnly32.VMEXIT_INTERRUPTION_ERR_CODE m)))
    (λ _. m)

length_fits : (v : Vmcs) (e : Queue.Event) → VmcsFits v → VmcsFits (with_length v e)
unfolding with_length
length_fits v e m =
    cond_all VmcsFits (is_soft (from_vector e.vector)) _ _
    (λ _. put_fits m VmcsControl32.VMENTRY_INSTRUCTION_LEN _ (value_fits v VmcsReadOnly32.VMEXIT_INSTRUCTION_LEN m)) (λ _. m)

injected_fits : (v : Vmcs) (e : Queue.Event) → e.vector < 256 → e.code < 2 ^ 32 → VmcsFits v → VmcsFits (injected v e)
unfolding injected
injected_fits v e h k m =
    put_fits (length_fits (with_code v e) e (code_fits v e k m)) VmcsControl32.VMENTRY_INTERRUPTION_INFO_FIELD (word_of v e)
    (event_bits e.vector (code_goes_in v e) h).fits

window_fits : (v : Vmcs) → VmcsFits v → VmcsFits (window_set v true)
unfolding window_set
window_fits v m =
    put_fits m VmcsControl32.PRIMARY_PROCBASED_EXEC_CONTROLS _
    (or_lt 32 (value_of v VmcsControl32.PRIMARY_PROCBASED_EXEC_CONTROLS) 4 (value_fits v VmcsControl32.PRIMARY_PROCBASED_EXEC_CONTROLS m) (lit< tt))

module _ (s : Session) (h : Sound s) where
  -- ---- queueing

  pushed_fits : (e : Queue.Event) → e.vector < 2 ^ 8 → e.code < 2 ^ 32 → s.queue.waiting < 64 → QueueFits (pushed s.queue e)
  unfolding pushed
  pushed_fits e v k lt =
      let q = h.fits.queue in
      record {
        waiting = omega arith;
        vectors = numbers_set s.queue.waiting e.vector q.vectors v;
        coded = with_bit_lt 64 s.queue.waiting e.coded s.queue.coded lt q.coded;
        codes = numbers_set s.queue.waiting (cond e.coded e.code 0) q.codes
            (cond_all (λ (x : ℕ). x < 2 ^ 32) e.coded _ _ (λ _. k) (λ _. lit< tt));
      }

  event_fits : (e : Queue.Event) → e.vector < 2 ^ 8 → e.code < 2 ^ 32 → Fitting (Queue.queue_event s e).session
  unfolding Queue.queue_event
  event_fits e v k =
      cond_all P (is_unlawful s) _ _ (λ _. h.fits)
      (λ _. cond_all P (eqb s.progress.phase 4) _ _ (λ _. h.fits)
      (λ _. cond_all P (leb 64 s.queue.waiting) _ _ (λ _. h.fits)
      (λ t. queue_fits_lem h.fits (pushed_fits e v k (leb-false 64 s.queue.waiting t)))))
    where
      P : Answered → Type 0
      P a = Fitting a.session

  queue_step_fits : (vector coded code : ℕ) → vector < 2 ^ 8 → code < 2 ^ 32 → Fitting (queue_step vector coded code s).session
  unfolding queue_step
  queue_step_fits vector coded code v k = cond_all (λ (a : Answered). Fitting a.session) (ltb 1 coded) _ _ (λ _. h.fits) (λ _. event_fits _ v k)

  interrupt_fits : (vector : ℕ) → Fitting (Queue.inject_interrupt s vector).session
  unfolding Queue.inject_interrupt
  interrupt_fits vector =
      cond_all P (is_unlawful s) _ _ (λ _. h.fits)
      (λ _. cond_all P (eqb s.progress.phase 4) _ _ (λ _. h.fits)
      (λ _. cond_all P (eqb vector 0) _ _ (λ _. h.fits)
      (λ _. cond_all P (ltb 255 vector) _ _ (λ _. h.fits) (λ t. event_fits _ (let z = ltb-false 255 vector t in omega arith) (lit< tt)))))
    where
      P : Answered → Type 0
      P a = Fitting a.session

  -- ---- entry

  progress_after_fits : (s.progress.entries ≡ LAST_ENTRY → ⊥) → (a : Injection) → ProgressFits (progress_after s.progress a)
  unfolding progress_after
  progress_after_fits n Empty = record { phase = lit< tt; entries = omega (arith, h.fits.progress.entries); held = h.fits.progress.held }
  progress_after_fits n Held =
      record { phase = lit< tt; entries = omega (arith, h.fits.progress.entries); held = omega (arith, h.fits.progress.entries, h.lawful.held) }
  progress_after_fits n Written = record { phase = lit< tt; entries = omega (arith, h.fits.progress.entries); held = h.fits.progress.held }

  vmcs_after_fits : (v : Vmcs) → VmcsFits v → (a : Injection) → VmcsFits (vmcs_after v (front_of s.queue) a)
  unfolding vmcs_after
  vmcs_after_fits v m Empty = m
  vmcs_after_fits v m Held = window_fits v m
  vmcs_after_fits v m Written = injected_fits v (front_of s.queue) (h.fits.queue.vectors.below 0) (h.fits.queue.codes.below 0) m

  queue_after_fits : (a : Injection) → QueueFits (queue_after s.queue a)
  unfolding queue_after popped
  queue_after_fits Empty = h.fits.queue
  queue_after_fits Held = h.fits.queue
  queue_after_fits Written =
      let q = h.fits.queue in
      let few : s.queue.waiting - 1 < 64 = omega (arith, h.lawful.waiting) in
      record {
        waiting = omega (arith, q.waiting);
        vectors = numbers_shifted _ 0 few q.vectors (lit< tt);
        coded = omega (arith, q.coded);
        codes = numbers_shifted _ 0 few q.codes (lit< tt);
      }

  after_fits : (stack : ℕ) → stack < 2 ^ 64 → (s.progress.entries ≡ LAST_ENTRY → ⊥) → (a : Injection) → Fitting (after_entry s stack a)
  unfolding after_entry
  after_fits stack w n a =
      let fields = vmcs_after_fits _ (stack_fits s.vmcs s.progress.launched stack w h.fits.vmcs) a in
      progress_fits_lem (queue_fits_lem (vmcs_fits_lem h.fits fields) (queue_after_fits a)) (progress_after_fits n a)

  entry_fits : (stack : ℕ) → stack < 2 ^ 64 → Fitting (Entry.entry s stack).session
  unfolding Entry.entry
  entry_fits stack w =
      cond_all P (is_unlawful s) _ _ (λ _. h.fits)
      (λ _. cond_all P (not (eqb s.progress.phase 1)) _ _ (λ _. h.fits)
      (λ _. cond_all P (eqb s.progress.entries LAST_ENTRY) _ _ (λ _. h.fits)
      (λ t. after_fits stack w (eqb-false _ _ t) (injection_of s.queue s.vmcs))))
    where
      P : Entered → Type 0
      P a = Fitting a.session

  -- ---- writes, and the APIC value

  field_fits : (e v : ℕ) → Fitting (Access.write_field s e v).session
  unfolding Access.write_field vmcs_write
  field_fits e v =
      cond_all P (is_unlawful s) _ _ (λ _. h.fits)
      (λ _. cond_all Q (leb 154 (position_of encodings e)) _ _ (λ _. h.fits)
      (λ t. cond_all Q (read_only e) _ _ (λ _. h.fits)
      (λ _. cond_all Q (ltb (greatest_of e) v) _ _ (λ _. h.fits)
      (λ u.
      let named = leb-false 154 (position_of encodings e) t in
      vmcs_fits_lem h.fits (put_fits h.fits.vmcs (field_of e) v (fits_field e v named (ltb-false (greatest_of e) v u)))))))
    where
      P : Answered → Type 0
      P a = Fitting a.session

      Q : FieldsWritten → Type 0
      Q a = Fitting (fields_written s a).session

  register_fits : (i v : ℕ) → v < 2 ^ 64 → Fitting (Access.set_register s i v).session
  unfolding Access.set_register with_reg_of_index
  register_fits i v w =
      cond_all P (is_unlawful s) _ _ (λ _. h.fits)
      (λ _. cond_all Q (ltb 15 i) _ _ (λ _. h.fits)
      (λ _. cond_all Q (eqb i 4) _ _ (λ _. h.fits) (λ _. regs_fits h.fits (with_reg s.regs i v) (reg_fits s.regs i v h.fits.regs w))))
    where
      P : Answered → Type 0
      P a = Fitting a.session

      Q : RegWritten → Type 0
      Q a = Fitting (registers_written s a).session

  apic_fits : (v : ℕ) → v < 2 ^ 64 → Fitting (Access.apic_value s v).session
  unfolding Access.apic_value edx_eax_set
  apic_fits v w =
      cond_all P (is_unlawful s) _ _ (λ _. h.fits)
      (λ _. cond_all P (not (eqb s.progress.phase 3)) _ _ (λ _. h.fits)
      (λ _. regs_fits (in_phase_fits h.fits (lit< tt)) _
      (reg_fits (with_reg s.regs 0 (low32 v)) 2 (high32 v) (reg_fits s.regs 0 (low32 v) h.fits.regs (omega arith)) (omega arith))))
    where
      P : Answered → Type 0
      P a = Fitting a.session

  -- ---- setup

  setup_fits : (block : List ℕ) → Below 256 block → Fitting (setup_of s (arguments_of block)).session
  unfolding setup_of readied arguments_of
  setup_fits block b =
      cond_all (λ (a : Answered). Fitting a.session) (eqb (setup_refusal s (capabilities_of (arguments_of block).msrs) (arguments_of block).features) 0) _ _
      (λ _.
      let fields = applied_fits (setup_writes (arguments_of block)) s.vmcs h.fits.vmcs (writes_fit block b) in
      let kept = capabilities_fits (vmcs_fits_lem h.fits fields) (capabilities_fit_lem block b) in
      in_phase_fits (xcr0_fits kept (record { value = lit< tt; supported = supported_fits block b })) (lit< tt))
      (λ _. h.fits)

-- ---- every call

pub fits : (s : Session) (c : Call) → WellTyped c → Sound s → Fitting (next s c)
fits s (setup block a b msr) w h =
    cond_all (λ (r : Answered). Fitting r.session) (has_buffers block a b msr) _ _ (λ _. setup_fits s h block w) (λ _. h.fits)
fits s (queue_event vector coded code) w h = queue_step_fits s h vector coded code w.0 w.2
fits s (inject_interrupt vector) w h = interrupt_fits s h vector
fits s (entry stack) w h = entry_fits s h stack w
fits s (exit_report block) w h =
    cond_all (λ (r : Answered). Fitting r.session) (Report.block_accepted block) _ _ (λ _. report_fits s (report_of block) (block_fits block w) h)
    (λ _. h.fits)
fits s (apic_value value) w h = apic_fits s h value w
fits s (field_write encoding value) w h = field_fits s h encoding value
fits s (register_write index value) w h = register_fits s h index value w.1

keeps : (s : Session) (c : Call) → Lawful s → Lawful (next s c)
keeps s (setup block a b msr) l =
    cond_all (λ (r : Answered). Lawful r.session) (has_buffers block a b msr) _ _ (λ _. keeps_setup s (arguments_of block) l) (λ _. l)
keeps s (queue_event vector coded code) l = keeps_queue_step vector coded code s l
keeps s (inject_interrupt vector) l = keeps_interrupt vector s l
keeps s (entry stack) l = keeps_entry stack s l
keeps s (exit_report block) l =
    cond_all (λ (r : Answered). Lawful r.session) (Report.block_accepted block) _ _ (λ _. (report_laws s (report_of block)).lawful l) (λ _. l)
keeps s (apic_value value) l = keeps_apic value s l
keeps s (field_write encoding value) l = keeps_field encoding value s l
keeps s (register_write index value) l = keeps_register index value s l

pub sound_step : (s : Session) (c : Call) → WellTyped c → Sound s → Sound (next s c)
sound_step s c w h = record { fits = fits s c w h; lawful = keeps s c h.lawful }
