-- The queue of events, and queueing one (document 01, "Session" and "The operations and their numbers"). Assumes nothing.
use Rattle.std.specs.Prelude.{ℕ, suc, ◌+◌, ◌-◌, ◌/◌, Bool, false, cond, is_some, unwrap_or, Result, Ok, Err, List, ◌∷◌, ◌++◌, eqb, leb, ltb, get_or, set, take, drop}
use Rattle.std.specs.Bool.{then_some}
use Rattle.bits.specs.Words.{bit, with_bit}
use Rattle.definitions.specs.Refusals.{number}
use Rattle.definitions.specs.declared.refusal.Refusal.{Refusal}
use Rattle.vcpu_session.specs.Phase as Phase
use Rattle.vcpu_session.specs.Session.{is_unlawful, with_queue}
use Rattle.vcpu_session.specs.declared.Queue.{Queue}
use Rattle.vcpu_session.specs.declared.Session.{Session}
use Rattle.vcpu_events.specs.declared.Event as Code

-- an event: a vector, whether it has an error code, and the code
pub record Event : Type 0 where
  pub vector : ℕ
  pub coded : Bool
  pub code : ℕ

-- what the `Event` of the code is here: its error code is 0 where it has none
abbrev pub event_of : Code.Event → Event
event_of e = record { vector = e.vector; coded = is_some e.code; code = unwrap_or e.code 0 }

-- the `Event` of the code for it: with the error code only where it is coded
abbrev pub given : Event → Code.Event
given e = record { vector = e.vector; code = then_some e.coded e.code }

-- the front of the queue
abbrev pub front_of : Queue → Event
front_of q = record { vector = get_or q.vectors 0 0; coded = bit 0 q.coded; code = get_or q.codes 0 0 }

-- the n elements after the first moved down by one place, and x in the place that they free: the places after it stay as they are
unfoldable pub shifted : {A : Type 0} → ℕ → A → List A → List A
shifted n x l = take n (drop 1 l) ++ (x ∷ drop (suc n) l)

-- the queue without its front, and 0 where its last event was
unfoldable pub popped : Queue → Queue
popped q =
    record {
      waiting = q.waiting - 1;
      vectors = shifted (q.waiting - 1) 0 q.vectors;
      coded = q.coded / 2;
      codes = shifted (q.waiting - 1) 0 q.codes;
    }

-- the queue with an event last: a code that is not given is stored as 0
unfoldable pub pushed : Queue → Event → Queue
pushed q e =
    record {
      waiting = q.waiting + 1;
      vectors = set q.vectors q.waiting e.vector;
      coded = with_bit q.waiting e.coded q.coded;
      codes = set q.codes q.waiting (cond e.coded e.code 0);
    }

-- the refusal or 0, and the session: as it was where the call is refused
pub record Answered : Type 0 where
  pub refusal : ℕ
  pub session : Session

abbrev pub answered : ℕ → Session → Answered
answered n s = record { refusal = n; session = s }

-- a call's answer in the code, beside the session that came in
abbrev pub answered_from : Session → Result Session Refusal → Answered
answered_from s (Ok next) = answered 0 next
answered_from s (Err e) = answered (number e) s

-- 2: no record holds the session. 1: ended. 13: 64 events wait
unfoldable pub queue_event : Session → Event → Answered
queue_event s e =
    cond (is_unlawful s) (answered 2 s)
    (cond (eqb s.progress.phase Phase.ENDED) (answered 1 s)
    (cond (leb 64 s.queue.waiting) (answered 13 s)
    (answered 0 (with_queue s (pushed s.queue e)))))

-- an interrupt: a vector without a code. 2 and 1 as above. 12: vector 0 or above 255. 13 as above
unfoldable pub inject_interrupt : Session → ℕ → Answered
inject_interrupt s vector =
    cond (is_unlawful s) (answered 2 s)
    (cond (eqb s.progress.phase Phase.ENDED) (answered 1 s)
    (cond (eqb vector 0) (answered 12 s)
    (cond (ltb 255 vector) (answered 12 s)
    (queue_event s (record { vector = vector; coded = false; code = 0 })))))
