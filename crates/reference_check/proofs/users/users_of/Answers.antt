use Rattle.std.proofs.Common.{ℕ, List, take, sym, ◌∙◌, subst, arith}
use Rattle.std.specs.Prelude.{slice_index_or}
use Rattle.std.proofs.lemmas.List.{take_all, take_more}
use Rattle.reference_check.specs.inner.FiniteSearch.{AreListed}
use Rattle.reference_check.proofs.SearchAnswers.{listed_place_more}
use Rattle.reference_check.proofs.users.users_of.Goals as goal

pub loop-place-preserved : goal.loop-place-preserved
loop-place-preserved c = (
  c.in_ok-add_object.ensures.length ∙ c.loop-place.invariant.0,
  subst (λ (y : List ℕ). AreListed c.args.repository.now.objects c.add_object.new.lists.items y) (sym (take_more c.args.places.now c.loop-place.place-index 0 (omega arith)))
      (listed_place_more c.args.repository.now.objects c.loop-place.lists.items c.add_object.new.lists.items (take c.loop-place.place-index c.args.places.now) (slice_index_or c.args.places.now c.loop-place.place-index 0)
      c.in_ok-add_object.ensures.kept c.in_ok-add_object.ensures.listed c.loop-place.invariant.1),
)

pub returns : goal.returns
returns c = subst (λ (y : List ℕ). AreListed c.args.repository.now.objects c.loop-place.lists.items y) (take_all c.loop-place.place-index c.args.places.now (omega arith)) c.loop-place.invariant.1
