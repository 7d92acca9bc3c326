use Rattle.std.proofs.Common.{ℕ, Bool, Some, List, take, refl, sym, ap, ◌∙◌, subst}
use Rattle.pattern_match.specs.Recall.{marks_behind, IsRightTable, IsRow}
use Rattle.pattern_match.proofs.Stepping.{read_behind}
use Rattle.pattern_match.proofs.matcher.Matcher.step_by_known.Goals as goal

pub returns-clause-read : goal.returns-clause-read
returns-clause-read c bytes w h =
    let v = c.self.view_is in
    let next_at = c.follow-followed.result.at in
    let more = take c.follow-followed.result.count c.args.codes.now in
    read_behind bytes c.args.self.now _ c.in-Some.at next_at w more (ap (λ m. m.known) v) (ap (λ m. m.first) v) (ap (λ m. m.walk) v) (ap (λ m. m.start) v)
    (sym (ap (λ m. m.at) v) ∙ c.in-Some.is) refl
    (subst (λ k. (next : ℕ → List Bool → List Bool) (marks : List Bool) → IsRightTable next k → IsRow k (Some c.in-Some.at) marks → IsRow k (Some next_at) (marks_behind next marks more))
    (ap (λ m. m.known) v) c.follow-followed.ensures.row)
    h
