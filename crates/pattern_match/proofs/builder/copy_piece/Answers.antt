use Rattle.std.proofs.Common.{◌++◌, take, ap, ◌∙◌}
use Rattle.pattern_match.specs.Building.{repeated_code}
use Rattle.pattern_match.specs.inner.Drafting.{live}
use Rattle.pattern_match.proofs.DraftLemmas.{copied_live, copied_keeps}
use Rattle.pattern_match.proofs.builder.copy_piece.Goals as goal

pub returns-clause-code : goal.returns-clause-code
returns-clause-code c =
    copied_live c.args.code.now c.truncate.new.self c.push_repeated.new.code c.args.start _ c.requires c.truncate.ensures.cells c.in_ok-push_repeated.ensures
    ∙ ap (λ x. take c.args.start.count (live c.args.code.now) ++ repeated_code c.args.least c.args.most x) (c.as_slice.ensures.value ∙ c.in_ok-fragment.ensures)

pub returns-clause-kept : goal.returns-clause-kept
returns-clause-kept c =
    copied_keeps c.args.code.now c.truncate.new.self c.push_repeated.new.code c.args.start _ c.requires c.truncate.ensures.cells c.in_ok-push_repeated.ensures
