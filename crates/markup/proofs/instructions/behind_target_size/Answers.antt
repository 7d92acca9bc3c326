-- Behind a target stands the end, or a text that begins with white space.
use Rattle.std.proofs.Common.{refl, sym, ◌∙◌}
use Rattle.std.proofs.lemmas.Option.{IfSome_then}
use Rattle.markup.proofs.InstructionTexts.{end_alone, behind_found}
use Rattle.markup.proofs.instructions.behind_target_size.Goals as goal

pub returns-then-begins_with-clause-only : goal.returns-then-begins_with-clause-only
returns-then-begins_with-clause-only c = (let o = c.if-begins_with.ensures.found refl in end_alone c.args.piece.now o.0 o.1)

pub returns-clause-only : goal.returns-clause-only
returns-clause-only c = IfSome_then c.text_size.result c.text_size.ensures.only (λ n t. behind_found c.args.piece.now c.in-Some.field-0-1.now c.in-Some.first.now n c.in-Some.ensures.cases.0 (sym c.has.ensures ∙ c.if-not-has.false) t)
