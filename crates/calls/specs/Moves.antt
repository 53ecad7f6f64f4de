-- What one call does to the queue of events, and what is counted of a list of such moves, from the first on. Assumes nothing.
use Rattle.std.specs.Prelude.{ℕ, ◌+◌, List, [], ◌∷◌, ◌++◌, drop}
use Rattle.vcpu_events.specs.declared.Injection.{Injection}
use Rattle.vcpu_events.specs.declared.Injection.TheVariants.{Empty, Held, Written}

pub data Move (E : Type 0) : Type 0 where
  -- an event is queued last
  queues : E → Move E
  -- an entry: no event waits, the front is held, the front is injected
  finds_none : Move E
  holds : Move E
  writes : E → Move E
  -- the report of the entry that runs: the guest exited, or the entry failed. Neither does anything to the queue
  exits : Move E
  fails : Move E
  -- any other call, and every refused one
  rests : Move E

module _ {E : Type 0} where
  -- the events that wait after it
  abbrev pub moved : List E → Move E → List E
  moved w (queues e) = w ++ (e ∷ [])
  moved w finds_none = w
  moved w holds = w
  moved w (writes e) = drop 1 w
  moved w exits = w
  moved w fails = w
  moved w rests = w

  -- what it answers about the front: Empty, if it is no entry
  abbrev pub answer_of : Move E → Injection
  answer_of (queues e) = Empty
  answer_of finds_none = Empty
  answer_of holds = Held
  answer_of (writes e) = Written
  answer_of exits = Empty
  answer_of fails = Empty
  answer_of rests = Empty

-- ---- what is counted

pub record Tally (E : Type 0) : Type 0 where
  -- events queued, and events injected, each in order
  pub queued : List E
  pub injected : List E
  -- entries, and those of them that held the front
  pub entries : ℕ
  pub held : ℕ

module _ {E : Type 0} where
  abbrev pub begun : Tally E
  begun = record { queued = []; injected = []; entries = 0; held = 0 }

  abbrev pub tallied : Tally E → Move E → Tally E
  tallied t (queues e) = record { queued = t.queued ++ (e ∷ []); injected = t.injected; entries = t.entries; held = t.held }
  tallied t finds_none = record { queued = t.queued; injected = t.injected; entries = t.entries + 1; held = t.held }
  tallied t holds = record { queued = t.queued; injected = t.injected; entries = t.entries + 1; held = t.held + 1 }
  tallied t (writes e) = record { queued = t.queued; injected = t.injected ++ (e ∷ []); entries = t.entries + 1; held = t.held }
  tallied t exits = t
  tallied t fails = t
  tallied t rests = t

  abbrev pub tallied_all : Tally E → List (Move E) → Tally E
  tallied_all t [] = t
  tallied_all t (m ∷ ms) = tallied_all (tallied t m) ms
