use Rattle.std.proofs.Common.{◌≡◌, length, take}
use Rattle.reference_check.specs.inner.FiniteSearch.{AreStart}
use Rattle.reference_check.proofs.finite.start.Given as goal

-- the places so far are marked
abbrev pub invariant-loop-place : goal.invariant-loop-place
invariant-loop-place l = (length l.marks.items ≡ l.count) × AreStart (take l.place-index l.places) l.marks.items
