use Rattle.std.proofs.Common.{◌≡◌, rules, sum, map, ◌∙◌, arith}
use lib.Count.{ones}
use Rattle.trap_sheet.proofs.OnesLaws.{ones_summed, ones_are_items}
use Rattle.trap_sheet.proofs.frames.count_ones.Goals as goal

pub returns : goal.returns
returns c =
    let bits = c.args.bits.now in
    let summed : c.sum.result ≡ sum (map ones bits) = search rules in
    summed ∙ ones_summed bits ∙ ones_are_items bits (λ j. omega (arith, c.type_inv.bits j))
