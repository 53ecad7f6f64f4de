-- How a walk's answers and the codes of its parts read by numbers (document 02, N6). Assumes nothing.
use Rattle.std.specs.Prelude.{ℕ, Option, Some, None, Result, Ok, Err}
use Rattle.definitions.specs.Refusals.{number}
use Rattle.definitions.specs.declared.refusal.Refusal.{Refusal}
use Rattle.guest_paging.specs.Access as Kinds
use Rattle.guest_paging.specs.Rule as Rules
use Rattle.guest_paging.specs.Walked.{Walked, Address, Fails, Refused, Next, Ends, Below}
use Rattle.guest_paging.specs.declared.Access.{Access}
use Rattle.guest_paging.specs.declared.Access.TheVariants.{Read, Write, Fetch}
use Rattle.guest_paging.specs.declared.Rule.{Rule}
use Rattle.guest_paging.specs.declared.Rule.TheVariants.{NotPresent, Reserved, User, Write as WriteRule, Execute, Smep, Smap}
use Rattle.guest_paging.specs.declared.Walked.{Walked as Found}
use Rattle.guest_paging.specs.declared.Walked.TheVariants.{Address as FoundAt, Fails as FailsBy}
use Rattle.guest_paging.specs.declared.Next.{Next as Step}
use Rattle.guest_paging.specs.declared.Next.TheVariants.{Ends as StepEnds, Below as StepBelow}

-- the number of a kind of access
abbrev pub access_number : Access → ℕ
access_number Read = Kinds.READ
access_number Write = Kinds.WRITE
access_number Fetch = Kinds.FETCH

-- the number of a rule
abbrev pub rule_number : Rule → ℕ
rule_number NotPresent = Rules.NOT_PRESENT
rule_number Reserved = Rules.RESERVED
rule_number User = Rules.USER
rule_number WriteRule = Rules.WRITE
rule_number Execute = Rules.EXECUTE
rule_number Smep = Rules.SMEP
rule_number Smap = Rules.SMAP

-- the number of the rule that is broken, or 0
abbrev pub broken : Option Rule → ℕ
broken None = 0
broken (Some rule) = rule_number rule

-- an answer of the walk
abbrev pub walked_of : Result Found Refusal → Walked
walked_of (Ok (FoundAt p)) = Address p
walked_of (Ok (FailsBy level rule)) = Fails level (rule_number rule)
walked_of (Err e) = Refused (number e)

-- what an entry, or the entry of a level, gives
abbrev pub next_of : Result Step Refusal → Next
next_of (Ok (StepEnds w)) = Ends (walked_of (Ok w))
next_of (Ok (StepBelow table)) = Below table.address table.user
next_of (Err e) = Ends (Refused (number e))
