use Rattle.std.proofs.Common.{ℕ, List, ◌++◌}
use Rattle.facets.specs.PatternChecks.{HasAsked}
use Rattle.facets.proofs.asked.Asked.take_text.Given as goal

-- these characters were taken
abbrev pub invariant-loop-c : goal.invariant-loop-c
invariant-loop-c l =
    ((text : List ℕ) × HasAsked l.self l.simple text) × ((text : List ℕ) → HasAsked l.initial.self l.simple text → HasAsked l.self l.simple (text ++ l.yielded))
