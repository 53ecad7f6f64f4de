-- A session with one part changed fits its types where the part does. Assumes nothing.
use Prim.Native.Nat.{ℕ}
use Rattle.regs.specs.Registers.{list_of}
use Rattle.regs.specs.declared.GeneralRegisters.{GeneralRegisters}
use Rattle.vmcs.specs.declared.Vmcs.{Vmcs}
use Rattle.vcpu_session.specs.Session.{with_progress, with_regs, with_vmcs, with_queue, with_capabilities, with_xcr0, in_phase}
use Rattle.vcpu_session.specs.declared.Progress.{Progress}
use Rattle.vcpu_session.specs.declared.Queue.{Queue}
use Rattle.vcpu_session.specs.declared.Capabilities.{Capabilities}
use Rattle.vcpu_session.specs.declared.Xcr0.{Xcr0}
use Rattle.vcpu_session.specs.declared.Session.{Session}
use Rattle.record.specs.Runs.{Takes, Numbers}
use Rattle.record.specs.Fitting.{ProgressFits, VmcsFits, QueueFits, CapabilitiesFit, Xcr0Fits, Fitting}

module _ {s : Session} (f : Fitting s) where
  pub progress_fits_lem : {p : Progress} → ProgressFits p → Fitting (with_progress s p)
  progress_fits_lem h = record { progress = h; regs = f.regs; vmcs = f.vmcs; queue = f.queue; capabilities = f.capabilities; xcr0 = f.xcr0 }

  pub regs_fits : (g : GeneralRegisters) → Numbers 16 8 (list_of g) → Fitting (with_regs s g)
  regs_fits g h = record { progress = f.progress; regs = h; vmcs = f.vmcs; queue = f.queue; capabilities = f.capabilities; xcr0 = f.xcr0 }

  pub vmcs_fits_lem : {v : Vmcs} → VmcsFits v → Fitting (with_vmcs s v)
  vmcs_fits_lem h = record { progress = f.progress; regs = f.regs; vmcs = h; queue = f.queue; capabilities = f.capabilities; xcr0 = f.xcr0 }

  pub queue_fits_lem : {q : Queue} → QueueFits q → Fitting (with_queue s q)
  queue_fits_lem h = record { progress = f.progress; regs = f.regs; vmcs = f.vmcs; queue = h; capabilities = f.capabilities; xcr0 = f.xcr0 }

  pub capabilities_fits : {c : Capabilities} → CapabilitiesFit c → Fitting (with_capabilities s c)
  capabilities_fits h = record { progress = f.progress; regs = f.regs; vmcs = f.vmcs; queue = f.queue; capabilities = h; xcr0 = f.xcr0 }

  pub xcr0_fits : {x : Xcr0} → Xcr0Fits x → Fitting (with_xcr0 s x)
  xcr0_fits h = record { progress = f.progress; regs = f.regs; vmcs = f.vmcs; queue = f.queue; capabilities = f.capabilities; xcr0 = h }

  -- in another phase
  pub in_phase_fits : {x : ℕ} → Takes 1 x → Fitting (with_progress s (in_phase s.progress x))
  in_phase_fits h = progress_fits_lem (record { phase = h; entries = f.progress.entries; held = f.progress.held })
