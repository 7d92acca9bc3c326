use Rattle.std.proofs.Common.{◌++◌, ◌∷◌, [], Some, ap, ◌∙◌}
use Rattle.pattern_match.specs.declared.instruction.Instruction.TheVariants.{Close}
use Rattle.pattern_match.proofs.DraftLemmas.{marked_live, marked_keeps}
use Rattle.pattern_match.proofs.draft.Draft.mark_group.Goals as goal

pub returns-clause-code : goal.returns-clause-code
returns-clause-code c =
    marked_live c.args.self.now c.push.new.self c.args.place _ Close c.requires (c.in_ok-push.ensures.cells ∙ ap (λ x. x ++ Some Close ∷ []) c.set_open.ensures)

pub returns-clause-kept : goal.returns-clause-kept
returns-clause-kept c =
    marked_keeps c.args.self.now c.push.new.self c.args.place _ Close c.requires (c.in_ok-push.ensures.cells ∙ ap (λ x. x ++ Some Close ∷ []) c.set_open.ensures)
