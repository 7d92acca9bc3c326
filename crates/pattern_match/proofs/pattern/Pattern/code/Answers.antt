use Rattle.std.proofs.Common.{◌≡◌, ◌≤◌, ◌*◌, chars, length, sym, subst, ap, ◌∙◌}
use Rattle.pattern_match.specs.Positions.{positions}
use Rattle.pattern_match.specs.Compiled.{code_of_text}
use Rattle.pattern_match.specs.Gaps.{HasGaps}
use Rattle.pattern_match.proofs.Quiet.{code_gaps}
use Rattle.pattern_match.proofs.Sizes.{code_size}
use Rattle.pattern_match.proofs.pattern.Pattern.code.Goals as goal

pub returns-clause-size : goal.returns-clause-size
returns-clause-size c tree h =
    let e : c.as_slice.result.now ≡ code_of_text (chars c.args.self.now) = c.as_slice.ensures.value ∙ c.self.invariant.0.code_is ∙ ap (λ b. code_of_text (chars b)) c.self.view_is in
    subst (λ x. length x ≤ 4 * positions tree) (sym e) (code_size (chars c.args.self.now) tree h)

pub returns-clause-gaps : goal.returns-clause-gaps
returns-clause-gaps c =
    subst HasGaps (sym c.as_slice.ensures.value) (code_gaps c.self.inside.text c.self.inside.tokens.items c.self.inside.code.items c.self.invariant.0)
