use Rattle.std.proofs.Common.{◌≡◌, ◌≤◌, ◌-◌, [], length}
use Rattle.pattern_match.specs.Marking.{first_pass}
use Rattle.pattern_match.specs.Marks.{IsListed, first_rest}
use Rattle.pattern_match.specs.Token.{admits}
use Rattle.pattern_match.proofs.pass.pass_first.Given as goal

-- the marks so far, and what the pass makes of those that are left
abbrev pub invariant-loop-c : goal.invariant-loop-c
invariant-loop-c l = record {
  listed : IsListed l.code l.marks;
  rest : first_rest (λ at. admits l.tokens at l.c) l.code l.marks l.flow.live l.flow.frames
      ≡ first_pass (λ at. admits l.tokens at l.c) l.code l.initial.marks.cells l.initial.flow.live [];
  depth : length l.flow.frames ≤ l.marks.at;
  capacity : length l.code ≤ l.flow.capacity;
  grows : l.initial.flow.capacity ≤ l.flow.capacity;
}

abbrev pub decreases-loop-c : goal.decreases-loop-c
decreases-loop-c l = length l.code - l.marks.at
