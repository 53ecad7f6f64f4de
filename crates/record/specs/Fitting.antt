-- The numbers of a session fit their types, and its arrays have their lengths: this holds of every session in code, and `put_session` says
-- so of the session that it stores. Assumes nothing.
use Rattle.regs.specs.Registers.{list_of}
use Rattle.vmcs.specs.declared.Vmcs.{Vmcs}
use Rattle.vmcs.specs.declared.controls.Pair.{Pair}
use Rattle.vcpu_session.specs.declared.Progress.{Progress}
use Rattle.vcpu_session.specs.declared.Queue.{Queue}
use Rattle.vcpu_session.specs.declared.Fixed.{Fixed}
use Rattle.vcpu_session.specs.declared.Capabilities.{Capabilities}
use Rattle.vcpu_session.specs.declared.Xcr0.{Xcr0}
use Rattle.vcpu_session.specs.declared.Session.{Session}
use Rattle.record.specs.Runs.{Run, Takes, Numbers}

pub record ProgressFits (p : Progress) : Type 0 where
  pub phase : Takes 1 p.phase
  pub entries : Takes 4 p.entries
  pub held : Takes 4 p.held

pub record VmcsFits (v : Vmcs) : Type 0 where
  pub w16 : Numbers 17 2 v.w16
  pub w32 : Numbers 50 4 v.w32
  pub w64 : Numbers 41 8 v.w64
  pub natural : Numbers 46 8 v.natural

pub record QueueFits (q : Queue) : Type 0 where
  pub waiting : Takes 1 q.waiting
  pub vectors : Numbers 64 1 q.vectors
  pub coded : Takes 8 q.coded
  pub codes : Numbers 64 4 q.codes

abbrev pub PairFits : Pair → Type 0
PairFits p = Takes 4 p.allowed0 × Takes 4 p.allowed1

abbrev pub FixedFits : Fixed → Type 0
FixedFits f = Takes 8 f.fixed0 × Takes 8 f.fixed1

pub record CapabilitiesFit (c : Capabilities) : Type 0 where
  pub pairs : Run 5 PairFits c.pairs
  pub cr0 : FixedFits c.cr0
  pub cr4 : FixedFits c.cr4

pub record Xcr0Fits (x : Xcr0) : Type 0 where
  pub value : Takes 8 x.value
  pub supported : Takes 8 x.supported

pub record Fitting (s : Session) : Type 0 where
  pub progress : ProgressFits s.progress
  pub regs : Numbers 16 8 (list_of s.regs)
  pub vmcs : VmcsFits s.vmcs
  pub queue : QueueFits s.queue
  pub capabilities : CapabilitiesFit s.capabilities
  pub xcr0 : Xcr0Fits s.xcr0
