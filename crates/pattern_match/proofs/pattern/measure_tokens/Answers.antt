use Rattle.std.proofs.Common.{◌≡◌, ◌≤◌, ◌<◌, chars, sym, ap, ◌∙◌, subst, Some, None}
use Rattle.pattern_match.specs.Reading.{IsPattern, HasPositions}
use Rattle.pattern_match.specs.inner.Refusal.{refused_from, start}
use Rattle.pattern_match.specs.Building.{position_limit}
use Rattle.pattern_match.specs.inner.Counting.{counted_whole}
use Rattle.pattern_match.specs.Compiled.{tokens_of_text}
use Rattle.pattern_match.proofs.Refusing.{refused_at, not_refused}
use Rattle.pattern_match.proofs.Judging.{too_large, measured_positions}
use Rattle.pattern_match.proofs.pattern.measure_tokens.Goals as goal

pub returns-in-Some-clause-error : goal.returns-in-Some-clause-error
returns-in-Some-clause-error c =
    let t : c.as_slice.result.now ≡ chars c.args.text.now = c.as_slice.ensures.value ∙ c.in_ok-characters.ensures in
    refused_at (chars c.args.text.now) c.in-Some.place (subst (λ x. refused_from start 0 x ≡ Some c.in-Some.place) t (sym c.refusal.ensures ∙ c.in-Some.is))

pub returns-then-positions-gt-LIMIT-clause-error : goal.returns-then-positions-gt-LIMIT-clause-error
returns-then-positions-gt-LIMIT-clause-error c =
    let t : c.as_slice.result.now ≡ chars c.args.text.now = c.as_slice.ensures.value ∙ c.in_ok-characters.ensures in
    let p : IsPattern (chars c.args.text.now) = not_refused (chars c.args.text.now) (subst (λ x. refused_from start 0 x ≡ None) t (sym c.refusal.ensures ∙ c.in-None.is)) in
    let t2 : c.as_slice-2.result.now ≡ chars c.args.text.now = c.as_slice-2.ensures.value ∙ c.in_ok-characters.ensures in
    let ts : c.in_ok-tokens.tokens.items ≡ tokens_of_text (chars c.args.text.now) = c.in_ok-tokens.ensures ∙ ap tokens_of_text t2 in
    let t3 : c.as_slice-3.result.now ≡ tokens_of_text (chars c.args.text.now) = c.as_slice-3.ensures.value ∙ ts in
    let n : c.count-positions.result ≡ counted_whole (tokens_of_text (chars c.args.text.now)) = c.count-positions.ensures ∙ ap counted_whole t3 in
    too_large (chars c.args.text.now) p (subst (λ x. position_limit < x) n c.if-positions-gt-LIMIT.true)

pub returns-clause-tokens : goal.returns-clause-tokens
returns-clause-tokens c = c.in_ok-tokens.ensures ∙ ap tokens_of_text (c.as_slice-2.ensures.value ∙ c.in_ok-characters.ensures)

pub returns-clause-positions : goal.returns-clause-positions
returns-clause-positions c =
    let t : c.as_slice.result.now ≡ chars c.args.text.now = c.as_slice.ensures.value ∙ c.in_ok-characters.ensures in
    let p : IsPattern (chars c.args.text.now) = not_refused (chars c.args.text.now) (subst (λ x. refused_from start 0 x ≡ None) t (sym c.refusal.ensures ∙ c.in-None.is)) in
    let t2 : c.as_slice-2.result.now ≡ chars c.args.text.now = c.as_slice-2.ensures.value ∙ c.in_ok-characters.ensures in
    let ts : c.in_ok-tokens.tokens.items ≡ tokens_of_text (chars c.args.text.now) = c.in_ok-tokens.ensures ∙ ap tokens_of_text t2 in
    let t3 : c.as_slice-3.result.now ≡ tokens_of_text (chars c.args.text.now) = c.as_slice-3.ensures.value ∙ ts in
    let n : c.count-positions.result ≡ counted_whole (tokens_of_text (chars c.args.text.now)) = c.count-positions.ensures ∙ ap counted_whole t3 in
    subst (HasPositions (chars c.args.text.now)) (sym n) (measured_positions (chars c.args.text.now) p (subst (λ x. x ≤ position_limit) n c.if-positions-gt-LIMIT.false))
