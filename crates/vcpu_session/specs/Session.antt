-- The session: a new one, one with a part changed, and which ones no record holds (document 01, "Session"). Assumes nothing.
use Rattle.std.specs.Prelude.{ℕ, ◌≤◌, Bool, false, ◌||◌, ltb, replicate}
use Rattle.regs.specs.Registers.{of_list}
use Rattle.regs.specs.declared.GeneralRegisters.{GeneralRegisters}
use Rattle.vmcs.specs.Control.{no_pair}
use Rattle.vmcs.specs.declared.Vmcs.{Vmcs}
use Rattle.vcpu_session.specs.Phase as Phase
use Rattle.vcpu_session.specs.declared.Progress.{Progress}
use Rattle.vcpu_session.specs.declared.Queue.{Queue}
use Rattle.vcpu_session.specs.declared.Fixed.{Fixed}
use Rattle.vcpu_session.specs.declared.Capabilities.{Capabilities}
use Rattle.vcpu_session.specs.declared.Xcr0.{Xcr0}
use Rattle.vcpu_session.specs.declared.Session.{Session}

-- what the preemption timer is set to, at setup and where it has run out (document 01, "Setup"; the Rust's constant)
abbrev pub VMX_PREEMPTION_TIMER_SET_VALUE : ℕ
VMX_PREEMPTION_TIMER_SET_VALUE = 1000000

-- the entry count at which no further entry is accepted (refusal 22)
abbrev pub LAST_ENTRY : ℕ
LAST_ENTRY = 0xFFFFFFFF

abbrev pub no_fixed : Fixed
no_fixed = record { fixed0 = 0; fixed1 = 0 }

-- fresh, and all zero
unfoldable pub new_session : Session
new_session =
    record {
      progress = record { phase = Phase.FRESH; launched = false; entries = 0; held = 0 };
      regs = of_list (replicate 16 0);
      vmcs = record { w16 = replicate 17 0; w32 = replicate 50 0; w64 = replicate 41 0; natural = replicate 46 0 };
      queue = record { waiting = 0; vectors = replicate 64 0; coded = 0; codes = replicate 64 0 };
      capabilities = record { pairs = replicate 5 no_pair; cr0 = no_fixed; cr4 = no_fixed };
      xcr0 = record { value = 0; supported = 0 };
    }

-- ---- a session with one part changed

abbrev pub with_progress : Session → Progress → Session
with_progress s x = record { progress = x; regs = s.regs; vmcs = s.vmcs; queue = s.queue; capabilities = s.capabilities; xcr0 = s.xcr0 }

abbrev pub with_regs : Session → GeneralRegisters → Session
with_regs s x = record { progress = s.progress; regs = x; vmcs = s.vmcs; queue = s.queue; capabilities = s.capabilities; xcr0 = s.xcr0 }

abbrev pub with_vmcs : Session → Vmcs → Session
with_vmcs s x = record { progress = s.progress; regs = s.regs; vmcs = x; queue = s.queue; capabilities = s.capabilities; xcr0 = s.xcr0 }

abbrev pub with_queue : Session → Queue → Session
with_queue s x = record { progress = s.progress; regs = s.regs; vmcs = s.vmcs; queue = x; capabilities = s.capabilities; xcr0 = s.xcr0 }

abbrev pub with_capabilities : Session → Capabilities → Session
with_capabilities s x = record { progress = s.progress; regs = s.regs; vmcs = s.vmcs; queue = s.queue; capabilities = x; xcr0 = s.xcr0 }

abbrev pub with_xcr0 : Session → Xcr0 → Session
with_xcr0 s x = record { progress = s.progress; regs = s.regs; vmcs = s.vmcs; queue = s.queue; capabilities = s.capabilities; xcr0 = x }

abbrev pub in_phase : Progress → ℕ → Progress
in_phase p x = record { phase = x; launched = p.launched; entries = p.entries; held = p.held }

abbrev pub with_value : Xcr0 → ℕ → Xcr0
with_value x v = record { value = v; supported = x.supported }

-- 2: a phase above 4, more than 64 events, or more held entries than entries
abbrev pub is_unlawful : Session → Bool
is_unlawful s = ltb 4 s.progress.phase || ltb 64 s.queue.waiting || ltb s.progress.entries s.progress.held

-- what a record can hold
pub record Lawful (s : Session) : Type 0 where
  pub phase : s.progress.phase ≤ 4
  pub waiting : s.queue.waiting ≤ 64
  pub held : s.progress.held ≤ s.progress.entries
