use Rattle.std.proofs.Common.{rules, arith, ℕ, length-append}
use Rattle.text.proofs.WritingLaws.{puts_both}
use Rattle.trap_sheet.proofs.lines.put_run.Goals as goal

pub put_item-requires : goal.put_item-requires
put_item-requires c = omega (arith, length-append {A = ℕ})

pub put_item-requires-2 : goal.put_item-requires-2
put_item-requires-2 c = omega (arith, length-append {A = ℕ})

pub put_number-requires : goal.put_number-requires
put_number-requires c = omega (arith, length-append {A = ℕ})

pub returns : goal.returns
returns c = search (puts_both, rules)
