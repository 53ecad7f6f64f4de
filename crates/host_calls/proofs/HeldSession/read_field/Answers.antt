use mathlib.Core.Path.{◌≡◌, ◌∙◌}
use Rattle.std.proofs.Common.{rules}
use Rattle.call_specs.specs.Reads.{read_field}
use Rattle.host_calls.specs.Answers.{of_reading}
use Rattle.host_calls.proofs.ReadingLaws.{field_read}
use Rattle.host_calls.proofs.HeldSession.read_field.Goals as goal

pub returns-clause-value : goal.returns-clause-value
returns-clause-value c =
    let over_one : c.answered.result ≡ of_reading (read_field c.args.self.now.bytes c.args.encoding 1) = search rules in
    over_one ∙ field_read c.args.self.now.bytes c.args.encoding 1 0
