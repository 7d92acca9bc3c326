use Rattle.std.proofs.Common.{false, ◌≡◌, ◌++◌, chars, sym, ap, ap₂, ◌∙◌, subst}
use Rattle.pattern_match.specs.Building.{built_whole}
use Rattle.pattern_match.specs.Gaps.{gaps}
use Rattle.pattern_match.specs.Compiled.{IsCompiled, tokens_of_text}
use Rattle.pattern_match.specs.inner.Drafting.{AreFollowing}
use Rattle.pattern_match.proofs.Judging.{within_limit}
use Rattle.pattern_match.proofs.Following.{pattern_follow}
use Rattle.pattern_match.proofs.pattern.Pattern.read.Goals as goal

pub returns-clause-positions : goal.returns-clause-positions
returns-clause-positions c =
    within_limit (chars c.args.text.now) c.in-Ok.measured.positions c.in-Ok.ensures.positions c.in-Ok.ensures.within

pub invariant_of-result : goal.invariant_of-result
invariant_of-result c =
    let ts : c.in-Ok.measured.tokens.items ≡ tokens_of_text (chars c.args.text.now) = c.in-Ok.ensures.tokens in
    let b : c.extend.new.self ≡ c.args.text.now = c.in_ok-extend.ensures.ok ∙ ap₂ (λ x y. x ++ y) c.new-kept.ensures c.as_bytes.ensures.value in (
      subst (λ x. IsCompiled x c.in-Ok.measured.tokens.items c.in_ok-code.code.items) (sym b) (record {
        pattern = within_limit (chars c.args.text.now) c.in-Ok.measured.positions c.in-Ok.ensures.positions c.in-Ok.ensures.within;
        tokens_are = ts;
        code_is = c.in_ok-code.ensures ∙ ap (λ x. (built_whole x).code) (c.as_slice.ensures.value ∙ ts);
      }),
      c.in_ok-gaps.ensures ∙ ap gaps c.as_slice-2.ensures.value,
    )

pub compile-requires : goal.compile-requires
compile-requires c =
    let p = c.in-Ok.ensures.positions in
    subst (AreFollowing 1 false) (sym (c.as_slice.ensures.value ∙ c.in-Ok.ensures.tokens)) (pattern_follow (chars c.args.text.now) (p.0, p.1))
