use Rattle.std.proofs.Common.{◌≡◌, ◌≤◌, drop}
use Rattle.pattern_match.specs.inner.Refusal.{refused_from, start}
use Rattle.pattern_match.specs.Control.{IsSoundControl}
use Rattle.pattern_match.proofs.refusal.refusal.Given as goal

abbrev pub invariant-loop-c : goal.invariant-loop-c
invariant-loop-c l = record {
  place : l.place ≡ l.c-index;
  rest : refused_from l.at l.place (drop l.place l.text) ≡ refused_from start 0 l.text;
  sound : IsSoundControl l.at.control;
  depth : l.at.depth ≤ l.place;
}
