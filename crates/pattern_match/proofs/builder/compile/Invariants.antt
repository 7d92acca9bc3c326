use Rattle.std.proofs.Common.{◌≡◌, drop}
use Rattle.pattern_match.specs.Building.{build_behind, after_open, nothing_built}
use Rattle.pattern_match.specs.inner.Drafting.{IsFed}
use Rattle.pattern_match.proofs.builder.compile.Given as goal

-- what is built, and what the tokens that are left build on
abbrev pub invariant-loop-at : goal.invariant-loop-at
invariant-loop-at l = record {
  built : build_behind l.at (drop l.at l.tokens) l.builder.built ≡ build_behind 0 l.tokens (after_open nothing_built);
  fed : IsFed l.builder (drop l.at l.tokens);
}
