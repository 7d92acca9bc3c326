use Rattle.std.proofs.Common.{◌≡◌, None, rules}
use Rattle.data_types.specs.declared.kind.Kind.TheVariants as kind
use Rattle.facets.proofs.TextRules.{coded_answer, text_answer}
use Rattle.facets.proofs.CheckLemmas.{coded_step, text_step}
use Rattle.facets.proofs.progress.Progress.text_leaf.Goals as goal

pub returns-in-Some : goal.returns-in-Some
returns-in-Some c = λ text taken.
    let step = coded_step c.args.self.now c.args.simple.now text c.in-Some.codes c.requires.kind c.in-Some.is taken in
    coded_answer c.args.simple.now text c.in-Some.codes c.code.result c.requires.kind c.in-Some.is taken.characters (c.code.ensures text taken.characters step)

pub check_text-requires-clause-codes : goal.check_text-requires-clause-codes
check_text-requires-clause-codes c = search rules

pub check_text-requires-clause-made : goal.check_text-requires-clause-made
check_text-requires-clause-made c = let (text, had) = c.requires.made in (_, text, had)

pub returns-in-Err : goal.returns-in-Err
returns-in-Err c = λ text taken. c.in-Err.ensures _ text taken

pub returns-in-Ok : goal.returns-in-Ok
returns-in-Ok c = λ text taken.
    let none : c.args.simple.now.codes ≡ None = search rules in
    let right = c.in-Ok.ensures _ text taken in
    let step = text_step c.args.self.now c.args.simple.now text c.requires.kind none taken in
    text_answer c.args.simple.now text c.finish.result c.requires.kind none taken.characters right.0 right.1 (c.finish.ensures kind.Text c.args.simple.now.max text step)
