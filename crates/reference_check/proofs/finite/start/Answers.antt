use Rattle.std.proofs.Common.{ℕ, ◌+◌, List, length, take, sym, ap, ◌∙◌, subst, arith}
use Rattle.std.specs.Prelude.{slice_set, slice_index_or}
use Rattle.std.proofs.lemmas.List.{length-set, take_all, take_more}
use Rattle.reference_check.specs.declared.finite.Mark.{Mark}
use Rattle.reference_check.specs.declared.finite.Mark.TheVariants.{Open}
use Rattle.reference_check.specs.inner.FiniteSearch.{AreStart}
use Rattle.reference_check.proofs.SearchAnswers.{start_more}
use Rattle.reference_check.proofs.finite.start.Goals as goal

pub loop-place-preserved : goal.loop-place-preserved
loop-place-preserved c =
    let place : ℕ = slice_index_or c.args.places.now c.loop-place.place-index 0 in (
      ap length c.set_mark.ensures ∙ (length-set c.loop-place.marks.items place (Open 0) ∙ c.loop-place.invariant.0),
      subst (λ (x : List Mark). AreStart (take (c.loop-place.place-index + 1) c.args.places.now) x) (sym c.set_mark.ensures)
          (subst (λ (y : List ℕ). AreStart y (slice_set c.loop-place.marks.items place (Open 0))) (sym (take_more c.args.places.now c.loop-place.place-index 0 (omega arith)))
          (start_more (take c.loop-place.place-index c.args.places.now) c.loop-place.marks.items place c.loop-place.invariant.1)),
    )

pub returns-clause-start : goal.returns-clause-start
returns-clause-start c = subst (λ (y : List ℕ). AreStart y c.loop-place.marks.items) (take_all c.loop-place.place-index c.args.places.now (omega arith)) c.loop-place.invariant.1
