use Rattle.std.proofs.Common.{sym, ◌∙◌}
use Rattle.std.proofs.lemmas.Result.{err_from_is_err_and}
use Rattle.definitions.proofs.RefusalLaws.{some}
use Rattle.regs.proofs.Index.{register_stays}
use Rattle.regs.proofs.with_reg_of_index.Goals as goal

pub returns-in_err-set_reg_of_index : goal.returns-in_err-set_reg_of_index
returns-in_err-set_reg_of_index c = let p = err_from_is_err_and c.from_residual.result c.from_residual.ensures.1 in
    rw (p.1, p.2) (sym (register_stays c.args.g c.args.index c.args.value _ c.in_err-set_reg_of_index.ensures (some c.in_err-set_reg_of_index.field-0.0)) ∙ c.in_err-set_reg_of_index.ensures)
