use Rattle.std.proofs.Common.{◌≡◌, ◌<◌, ◌*◌, ◌^◌, drop}
use Rattle.text.specs.Hex.{hex_number}
use Rattle.text.proofs.hex.number.Given as goal

-- the whole spells what the rest spells after n
abbrev pub invariant-loop-b : goal.invariant-loop-b
invariant-loop-b l = (l.n < 2 ^ (4 * l.b-index)) × (hex_number 0 l.s ≡ hex_number l.n (drop l.b-index l.s))
