-- The refusals by their numbers (document 01, "The operations and their numbers"; include/x86_vcpu.h): how an answer of the code reads in them. Assumes nothing.
use Rattle.std.specs.Prelude.{ℕ, Bool, cond, Result, Ok, Err, eqb, ltb}
use Rattle.definitions.specs.declared.refusal.Refusal.{Refusal}
use Rattle.definitions.specs.declared.refusal.Refusal.TheVariants.{Phase, Bytes, Encoding, ReadOnly, Width, Pair, SetAndClear, Set, Clear, Port, Msr, Vector, Full, Reason, OwnedBits, Interrupt, Sum, CrAccess, Xcr0, Xcr, ApicAccess, Count, Index, Room, Shown, Memory}

-- the number of a refusal
abbrev pub number : Refusal → ℕ
number Phase = 1
number Bytes = 2
number Encoding = 3
number ReadOnly = 4
number Width = 5
number Pair = 6
number SetAndClear = 7
number Set = 8
number Clear = 9
number Port = 10
number Msr = 11
number Vector = 12
number Full = 13
number Reason = 14
number OwnedBits = 15
number Interrupt = 16
number Sum = 17
number CrAccess = 18
number Xcr0 = 19
number Xcr = 20
number ApicAccess = 21
number Count = 22
number Index = 23
number Room = 24
number Shown = 25
number Memory = 26

-- 0 where the call is accepted, else the number of the refusal
abbrev pub refusal_of : {A : Type 0} → Result A Refusal → ℕ
refusal_of (Ok x) = 0
refusal_of (Err e) = number e

-- what is answered, or the number of the refusal
abbrev pub numbered : {A : Type 0} → Result A Refusal → Result A ℕ
numbered (Ok x) = Ok x
numbered (Err e) = Err (number e)

-- a yes/no byte: 0 is no, 1 is yes, and 2 refuses any other
abbrev pub yes_no : ℕ → Result Bool Refusal
yes_no byte = cond (ltb 1 byte) (Err Bytes) (Ok (eqb byte 1))
