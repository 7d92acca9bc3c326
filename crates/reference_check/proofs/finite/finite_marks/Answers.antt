use Rattle.std.proofs.Common.{◌≡◌, ℕ, List, [], sym, ◌∙◌, subst}
use Rattle.reference_check.specs.inner.FiniteSearch.{AreListed, AreStart, IsSearch, HoldsReached}
use Rattle.reference_check.proofs.SearchEnd.{holds_reached, starts_search}
use Rattle.reference_check.proofs.finite.finite_marks.Goals as goal

pub returns : goal.returns
returns c m has below =
    let R = c.args.repository.now in
    let marks = c.in_ok-start.field-0.items in
    let places : c.as_slice-places.result.now ≡ c.args.reach.now.objects = c.as_slice-places.ensures in
    let start : AreStart c.args.reach.now.objects marks = subst (λ (y : List ℕ). AreStart y marks) places c.in_ok-start.ensures.start in
    let begins : IsSearch R m marks [] c.args.reach.now.objects = starts_search R m c.args.reach.now has marks c.object_count.ensures.whole below (c.in_ok-start.ensures.length ∙ c.object_count.ensures.count) start in
    let goes : IsSearch R m marks c.new.result.items c.as_slice-places.result.now =
    subst (λ (x : List ℕ). IsSearch R m marks x c.as_slice-places.result.now) (sym c.new.ensures.items) (subst (λ (y : List ℕ). IsSearch R m marks [] y) (sym places) begins) in
    let listed : AreListed R.objects c.as_slice.result.now c.as_slice-places.result.now = subst (λ (x : List (List ℕ)). AreListed R.objects x c.as_slice-places.result.now) (sym c.as_slice.ensures.value) c.in_ok-users.ensures in
    let all : HoldsReached R m c.as_slice-places.result.now = subst (λ (y : List ℕ). HoldsReached R m y) (sym places) (holds_reached R m c.args.reach.now has) in
    c.in_ok-settle.ensures m c.as_slice-places.result.now listed all (c.in_ok-visit_all.ensures.search m goes)
