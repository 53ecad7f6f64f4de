use Rattle.std.proofs.Common.{◌∙◌, rules}
use Rattle.std.specs.Char.{is_ascii_lowercase}
use Rattle.std.proofs.lemmas.Iterator.{YieldsList-from_slice}
use Rattle.std.proofs.lemmas.Iterator.Search.{all_from_yields_List}
use Rattle.sheet.proofs.LineLaws.{letters_all}
use Rattle.sheet.proofs.line.only_letters.Goals as goal

pub returns : goal.returns
returns c =
    let s = c.args.s.now in
    all_from_yields_List is_ascii_lowercase _ _ c.all.result c.all.ensures.ran (YieldsList-from_slice s cc) (λ x b q k. search rules) ∙ letters_all s
