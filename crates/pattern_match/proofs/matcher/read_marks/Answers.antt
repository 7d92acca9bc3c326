use Rattle.std.proofs.Common.{false, [], chars, ap, ap₂, ◌∙◌}
use Rattle.pattern_match.specs.Token.{admits}
use Rattle.pattern_match.specs.Marking.{first_pass, second_pass}
use Rattle.pattern_match.specs.Compiled.{code_of_text}
use Rattle.pattern_match.proofs.matcher.read_marks.Goals as goal

pub returns-clause-marks : goal.returns-clause-marks
returns-clause-marks c =
    c.pass_second.ensures.marks
    ∙ ap₂ (λ k l. second_pass k c.pass_first.new.marks.cells l []) c.code-2.ensures.code c.begin-2.ensures.live
    ∙ ap (λ m. second_pass (code_of_text (chars c.args.pattern.now)) m false [])
    (c.pass_first.ensures.marks
    ∙ ap₂ (λ k l. first_pass (λ at. admits c.tokens.result.now at c.args.c) k c.args.marks.now.cells l []) c.code.ensures.code c.begin.ensures.live
    ∙ ap (λ t. first_pass (λ at. admits t at c.args.c) (code_of_text (chars c.args.pattern.now)) c.args.marks.now.cells false []) c.tokens.ensures)
