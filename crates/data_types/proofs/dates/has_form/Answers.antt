use Rattle.std.proofs.Common.{◌≡◌, inl, inr, slice_index, sym, subst, refl, arith}
use Rattle.std.proofs.lemmas.Bool.{cases_lt}
use Rattle.data_types.specs.Dates.{FitsPlace}
use Rattle.data_types.proofs.DateLemmas.{neither, neither_by}
use Rattle.data_types.proofs.dates.has_form.Goals as goal

pub loop-at-preserved : goal.loop-at-preserved
loop-at-preserved c = λ k below. elim (cases_lt k c.loop-at.at) [
  | inl early ↦ c.loop-at.invariant k early
  | inr late ↦
      let same : c.loop-at.at ≡ k = omega (arith, below, late) in
      subst (λ j. FitsPlace (slice_index c.args.form.now j) (slice_index c.args.text.now j)) same (c.fits_place.ensures.0 c.if-not-fits_place.false)
]

pub returns : goal.returns
returns c = (
  λ e. record { same_length = sym c.if-form-text.false; each = λ k below. c.loop-at.invariant k (omega (arith, below, c.loop-at-test.false)) },
  λ form. refl,
)

pub returns-then-not-fits_place : goal.returns-then-not-fits_place
returns-then-not-fits_place c = neither_by c.fits_place.ensures c.if-not-fits_place.true (λ form. form.each c.loop-at.at c.loop-at-test.true)

pub returns-then-form-text : goal.returns-then-form-text
returns-then-form-text c = neither (λ form. c.if-form-text.true (sym form.same_length))
