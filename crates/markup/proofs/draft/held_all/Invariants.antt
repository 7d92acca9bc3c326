-- What is counted so far, and what is held by the rest, is held by all.
use Rattle.std.proofs.Common.{◌≡◌, ◌+◌, ◌<◌, ◌^◌, length}
use Rattle.markup.specs.inner.Drafts.{held_all}
use Rattle.markup.proofs.draft.held_all.Given as goal

abbrev pub invariant-loop-first : goal.invariant-loop-first
invariant-loop-first l = held_all l.given < 2 ^ 64 → l.count + held_all l.rest ≡ held_all l.given

abbrev pub decreases-loop-first : goal.decreases-loop-first
decreases-loop-first l = length l.rest
