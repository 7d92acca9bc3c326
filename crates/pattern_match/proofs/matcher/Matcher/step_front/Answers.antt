use Rattle.std.proofs.Common.{◌<◌, ◌++◌, length, sym, ap, subst, ◌∙◌, append_assoc, arith}
use Rattle.std.proofs.lemmas.Bool.Decides.{nat_tests}
use Rattle.std.proofs.lemmas.List.{take_more}
use Rattle.pattern_match.specs.Compiled.{HasReadWord}
use Rattle.pattern_match.proofs.matcher.Matcher.step_front.Goals as goal

pub returns-then-count-codes-clause-made : goal.returns-then-count-codes-clause-made
returns-then-count-codes-clause-made c = (_, c.step_by_known-count.ensures.read c.args.pattern.now c.requires.made.0 c.requires.made.1)

pub step_by_marks-requires : goal.step_by_marks-requires
step_by_marks-requires c = (_, c.step_by_known-count.ensures.read c.args.pattern.now c.requires.made.0 c.requires.made.1)

pub returns-clause-read : goal.returns-clause-read
returns-clause-read c w h =
    let some : c.step_by_known-count.result < length c.args.codes.now = grind (arith, nat_tests) in
    subst (HasReadWord c.args.pattern.now c.step_by_marks.new.self)
    (append_assoc w _ _ ∙ ap (λ t. w ++ t) (sym (take_more c.args.codes.now c.step_by_known-count.result 0 some)))
    (c.step_by_marks.ensures.read _ (c.step_by_known-count.ensures.read c.args.pattern.now w h))
