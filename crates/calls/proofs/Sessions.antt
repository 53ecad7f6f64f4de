-- The same calls on sessions, and what holds of every session that they lead to. Assumes nothing.
use Prim.Native.Nat.{ℕ}
use mathlib.Core.Path.{◌≡◌, sym, ◌∙◌}
use mathlib.Core.Bool.{Bool, false, cond, ◌&&◌}
use mathlib.Core.List.{List}
use lib.Dec.{eqb}
use lib.ListN.{length}
use Rattle.vmcs.specs.Writes.{Sized}
use Rattle.vcpu_session.specs.Session.{Lawful}
use Rattle.vcpu_session.specs.declared.Session.{Session}
use Rattle.vcpu_events.specs.Queue as Queue
use Rattle.vcpu_events.specs.Queue.{answered}
use Rattle.vcpu_events.specs.Entry as Entry
use Rattle.vcpu_events.specs.Queue.{Answered}
use Rattle.vcpu_events.specs.Entry.{Entered}
use Rattle.vcpu_events.specs.declared.Injection.TheVariants.{Empty}
use Rattle.vcpu_events.specs.Access as Access
use Rattle.vcpu_setup.specs.Setup.{setup_of}
use Rattle.blocks.specs.SetupBlock.{arguments_of, block_accepted}
use Rattle.vcpu_report.specs.ExitReport as Exit
use Rattle.blocks.specs.ReportBlock as Report
use Rattle.blocks.specs.ReportBlock.{report_of}
use Rattle.record.specs.Fitting.{Fitting}
use Rattle.call_specs.specs.Records.{queue_step}
use Rattle.calls.specs.Moves.{Tally}
use Rattle.calls.specs.Reference.{Call, setup, queue_event, inject_interrupt, entry, exit_report, apic_value, field_write, register_write, Event, Reference}
use Rattle.calls.specs.Calls.{Outcome, Logged, waiting_of, words_of, after_all, logged, log_of}
use Rattle.calls.proofs.Fields.{fits_sized}

-- the buffers of setup but the record
abbrev pub has_buffers : List ℕ → List ℕ → List ℕ → List ℕ → Bool
has_buffers block a b msr = block_accepted block && eqb (length a) 4096 && eqb (length b) 4096 && eqb (length msr) 4096

abbrev pub left : Answered → Outcome Session
left r = record { refusal = r.refusal; answer = Empty; resumed = false; state = r.session }

abbrev pub entering : Entered → Outcome Session
entering r = record { refusal = r.refusal; answer = r.injection; resumed = r.resumed; state = r.session }

-- the report that a block spells: its number and the session. 2: a wrong length
abbrev pub report_step : List ℕ → Session → Answered
report_step block s =
    cond (Report.block_accepted block) (answered (Exit.exit_report s (report_of block)).refusal (Exit.exit_report s (report_of block)).session) (answered 2 s)

abbrev pub session_step : Session → Call → Outcome Session
session_step s (setup block a b msr) = left (cond (has_buffers block a b msr) (setup_of s (arguments_of block)) (answered 2 s))
session_step s (queue_event vector coded code) = left (queue_step vector coded code s)
session_step s (inject_interrupt vector) = left (Queue.inject_interrupt s vector)
session_step s (entry stack) = entering (Entry.entry s stack)
session_step s (exit_report block) = left (report_step block s)
session_step s (apic_value value) = left (Access.apic_value s value)
session_step s (field_write encoding value) = left (Access.write_field s encoding value)
session_step s (register_write index value) = left (Access.set_register s index value)

abbrev pub next : Session → Call → Session
next s c = (session_step s c).state

abbrev pub session_after : Session → List Call → Session
session_after = after_all session_step waiting_of

abbrev pub session_logged : Session → Call → Logged
session_logged = logged session_step waiting_of

abbrev pub session_log : Session → List Call → List Logged
session_log = log_of session_step waiting_of

-- its numbers fit their types, and a record holds it
pub record Sound (s : Session) : Type 0 where
  pub fits : Fitting s
  pub lawful : Lawful s

pub sound_sized : (s : Session) → Sound s → Sized s.vmcs
sound_sized s h = fits_sized s.vmcs h.fits.vmcs

-- as many codes as vectors
pub sound_alike : (s : Session) → Sound s → length s.queue.codes ≡ length s.queue.vectors
sound_alike s h = h.fits.queue.codes.sized ∙ sym h.fits.queue.vectors.sized

-- what the reference has of a session, once these events were queued and injected: the counts are the session's
abbrev pub view_of : Tally Event → Session → Reference
view_of t s =
    record {
      tally = record { queued = t.queued; injected = t.injected; entries = s.progress.entries; held = s.progress.held };
      pending = waiting_of s;
      words = words_of s;
    }
