use Rattle.std.proofs.Common.{Some, subst}
use Rattle.data_types.specs.LeafAnswers.{leaf_of, IsLeafAnswer}
use Rattle.data_types.specs.declared.kind.Kind.TheVariants as kind
use Rattle.facets.specs.CodeLists.{longest_of}
use Rattle.facets.proofs.CheckLemmas.{code_at, no_code_at, not_kept}
use Rattle.facets.proofs.progress.Progress.code.Goals as goal

pub returns-in-Some : goal.returns-in-Some
returns-in-Some c = λ text characters taken.
    let most = Some (longest_of c.args.codes.now) in
    let answer = subst (IsLeafAnswer kind.Text most text) c.in-Ok.is (c.finish.ensures kind.Text most text taken) in
    code_at c.args.codes.now text (leaf_of c.in-Ok.leaf) c.in-Some.place answer.0 c.in-Some.ensures.some

pub returns-in-None : goal.returns-in-None
returns-in-None c = λ text characters taken.
    let most = Some (longest_of c.args.codes.now) in
    let answer = subst (IsLeafAnswer kind.Text most text) c.in-Ok.is (c.finish.ensures kind.Text most text taken) in
    no_code_at c.args.codes.now text (leaf_of c.in-Ok.leaf) answer.0 c.in-None.ensures.none

pub returns-in-Err : goal.returns-in-Err
returns-in-Err c = λ text characters taken.
    let most = Some (longest_of c.args.codes.now) in
    let answer = subst (IsLeafAnswer kind.Text most text) c.in-Err.is (c.finish.ensures kind.Text most text taken) in
    not_kept c.args.codes.now text c.in-Err.field-0 characters answer
