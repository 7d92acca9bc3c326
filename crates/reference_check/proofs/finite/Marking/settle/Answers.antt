use Rattle.std.proofs.Common.{ℕ, List, [], ◌∷◌, ◌++◌, sym, subst}
use Rattle.std.proofs.lemmas.Option.{slice_get_past}
use Rattle.reference_check.specs.inner.FiniteSearch.{IsSearch}
use Rattle.reference_check.proofs.SearchAnswers.{read}
use Rattle.reference_check.proofs.SearchSteps.{told_list, told_none}
use Rattle.reference_check.proofs.finite.Marking.settle.Goals as goal

pub loop-place-preserved-in-Continue-1 : goal.loop-place-preserved-in-Continue-1
loop-place-preserved-in-Continue-1 c m places listed all s =
    let before : IsSearch c.args.repository.now m c.loop-place.self.marks.items (c.pop.new.self.items ++ c.in-Some.place ∷ []) [] =
    subst (λ (x : List ℕ). IsSearch c.args.repository.now m c.loop-place.self.marks.items x []) c.in-Some.ensures.items (c.loop-place.invariant m places listed all s) in
    c.in_ok-visit_all.ensures.search m
    (subst (λ (x : List ℕ). IsSearch c.args.repository.now m c.loop-place.self.marks.items c.pop.new.self.items x) (sym c.as_slice.ensures)
    (told_list c.pop.new.self.items c.in-Some.place before c.args.users.now places listed all c.in-Some-get.list.now
    (read c.args.users.now c.in-Some.place c.in-Some-get.list.now c.in-Some-get.ensures.lookup.3.0 c.in-Some-get.ensures.lookup.1)))

pub loop-place-preserved : goal.loop-place-preserved
loop-place-preserved c m places listed all s =
    let before : IsSearch c.args.repository.now m c.loop-place.self.marks.items (c.pop.new.self.items ++ c.in-Some.place ∷ []) [] =
    subst (λ (x : List ℕ). IsSearch c.args.repository.now m c.loop-place.self.marks.items x []) c.in-Some.ensures.items (c.loop-place.invariant m places listed all s) in
    told_none c.pop.new.self.items c.in-Some.place before c.args.users.now places listed all (slice_get_past c.args.users.now c.in-Some.place c.in_default-get.ensures.lookup.3)
