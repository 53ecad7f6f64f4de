-- An event's code counts only where it is coded. Assumes nothing.
use mathlib.Core.Path.{◌≡◌, refl}
use mathlib.Core.Bool.{Bool, true, false, cond}
use Prim.Native.Nat.{ℕ}
use Rattle.std.specs.Prelude.{Option, Some, None, is_some, unwrap_or}
use Rattle.std.specs.Bool.{then_some}
use Rattle.vmcs.specs.declared.Vmcs.{Vmcs}
use Rattle.vcpu_session.specs.declared.Queue.{Queue}
use Rattle.vcpu_session.specs.declared.Session.{Session}
use Rattle.vcpu_events.specs.Queue.{Event, event_of, given, pushed, queue_event}
use Rattle.vcpu_events.specs.Entry.{code_of, with_code, with_length, injected, vmcs_after}
use Rattle.vcpu_events.specs.declared.Injection.{Injection}
use Rattle.vcpu_events.specs.declared.Injection.TheVariants.{Empty, Held, Written}

-- the code that waits with an event
pub stored : (code : Option ℕ) → unwrap_or code 0 ≡ cond (is_some code) (unwrap_or code 0) 0
stored None = refl
stored (Some c) = refl

-- whether an event that is given has a code, and the code, else another number
coded_given : (b : Bool) (code : ℕ) → is_some (then_some b code) ≡ b
coded_given true code = refl
coded_given false code = refl

code_given : (b : Bool) (code other : ℕ) → cond (is_some (then_some b code)) (unwrap_or (then_some b code) 0) other ≡ cond b code other
code_given true code other = refl
code_given false code other = refl

pub pushed_given : (q : Queue) (e : Event) → pushed q (event_of (given e)) ≡ pushed q e
unfolding pushed
pushed_given q e = rw (code_given e.coded e.code 0, coded_given e.coded e.code) refl

pub queue_given : (s : Session) (e : Event) → queue_event s (event_of (given e)) ≡ queue_event s e
unfolding queue_event
queue_given s e = rw (pushed_given s.queue e) refl

pub injected_given : (v : Vmcs) (e : Event) → injected v (event_of (given e)) ≡ injected v e
unfolding injected with_length with_code code_of
injected_given v e = rw (code_given e.coded e.code) refl

pub vmcs_after_given : (v : Vmcs) (e : Event) (i : Injection) → vmcs_after v (event_of (given e)) i ≡ vmcs_after v e i
unfolding vmcs_after
vmcs_after_given v e Empty = refl
vmcs_after_given v e Held = refl
vmcs_after_given v e Written = injected_given v e
