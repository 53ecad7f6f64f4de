use Rattle.std.proofs.Common.{rules, arith, ℕ, length-append}
use Rattle.text.proofs.WritingLaws.{puts_both}
use Rattle.trap_sheet.proofs.lines.put_total.Goals as goal

pub put-requires-2 : goal.put-requires-2
put-requires-2 c = omega (arith, length-append {A = ℕ})

pub put_number-requires : goal.put_number-requires
put_number-requires c = omega (arith, length-append {A = ℕ})

pub returns : goal.returns
returns c = search (puts_both, rules)
