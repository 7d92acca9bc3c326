use Rattle.std.proofs.Common.{◌≡◌, IfOk, drop, sym, subst, ap, ◌∙◌}
use Rattle.pattern_match.specs.inner.Drafting.{live}
use Rattle.pattern_match.proofs.DraftLemmas.{place_drop}
use Rattle.pattern_match.proofs.draft.Draft.code_from.Goals as goal

pub returns : goal.returns
returns c =
    subst (λ xs. IfOk c.code_in.result (λ v. v.items ≡ xs))
    (ap (λ x. live (drop c.args.place.cell x)) (c.as_slice.ensures.value ∙ c.self.view_is) ∙ sym (place_drop c.args.self.now c.args.place c.requires))
    c.code_in.ensures
