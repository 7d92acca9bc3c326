use Rattle.std.proofs.Common.{ℕ, ◌<◌, slice_index}
use Rattle.data_types.specs.Dates.{FitsPlace}
use Rattle.data_types.proofs.dates.has_form.Given as goal

abbrev pub invariant-loop-at : goal.invariant-loop-at
invariant-loop-at l = (k : ℕ) → k < l.at → FitsPlace (slice_index l.form k) (slice_index l.text k)
