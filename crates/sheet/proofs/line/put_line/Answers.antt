use Rattle.std.proofs.Common.{sym, refl, ap, length, length-take-le, arith}
use Rattle.text.proofs.WritingLaws.{first_room, next_room, both_put}
use Rattle.sheet.proofs.LineLaws.{name_within, line_words, line_bad}
use Rattle.sheet.proofs.line.put_line.Goals as goal

pub slice_bounds-put-end : goal.slice_bounds-put-end
slice_bounds-put-end c = sym (length-take-le _ _ (name_within c.args.line.now _ c.read.ensures _ c.in-Some.is))

pub put-requires : goal.put-requires
put-requires c = first_room _ _ c.args.output.now (line_words c.args.line.now _ c.read.ensures c.in-Some.words _ c.in-Some.is refl) c.requires

pub put_answer-requires : goal.put_answer-requires
put_answer-requires c =
    next_room _ _ c.args.output.now (line_words c.args.line.now _ c.read.ensures c.in-Some.words _ c.in-Some.is c.set_control-answer.ensures) c.put.new.self c.requires c.put.ensures

pub put-requires-in-None : goal.put-requires-in-None
put-requires-in-None c = omega (arith, c.requires, ap length (line_bad c.args.line.now _ c.read.ensures c.in-None.is))

pub returns-in-Some : goal.returns-in-Some
returns-in-Some c =
    both_put _ _ c.args.output.now (line_words c.args.line.now _ c.read.ensures c.in-Some.words _ c.in-Some.is c.set_control-answer.ensures) c.put.ensures c.put_answer.ensures

pub returns-in-None : goal.returns-in-None
returns-in-None c = rw (line_bad c.args.line.now _ c.read.ensures c.in-None.is) c.put-in-None.ensures
