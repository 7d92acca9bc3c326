use Rattle.std.proofs.Common.{◌≡◌, ◌≤◌, length, take, vec_capacity}
use Rattle.pattern_match.proofs.marks.copy_places.Given as goal

-- the places so far
abbrev pub invariant-loop-place : goal.invariant-loop-place
invariant-loop-place l = (l.to.items ≡ take l.place-index l.from) × (length l.from ≤ vec_capacity l.to) × (vec_capacity l.initial.to ≤ vec_capacity l.to)
