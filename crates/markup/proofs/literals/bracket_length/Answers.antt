use Rattle.std.proofs.Common.{rules, ◌≡◌, ◌∷◌}
use Rattle.markup.proofs.BracketRuns.{brackets_none, brackets_more, brackets_run}
use Rattle.markup.proofs.literals.bracket_length.Goals as goal

pub loop-first-init : goal.loop-first-init
loop-first-init c = brackets_none c.args.piece.now

pub loop-first-preserved : goal.loop-first-preserved
loop-first-preserved c =
    let e : c.loop-first.rest.now ≡ c.in-Some.first.now ∷ c.in-Some.behind.now = search rules in
    brackets_more c.args.piece.now c.loop-first.count c.in-Some.first.now c.loop-first.rest.now c.in-Some.behind.now c.loop-first.invariant e c.if-first-ne93.false

pub returns-then-first-ne93-clause-only : goal.returns-then-first-ne93-clause-only
returns-then-first-ne93-clause-only c = brackets_run c.args.piece.now c.loop-first.count c.loop-first.rest.now c.loop-first.invariant

pub returns-clause-only : goal.returns-clause-only
returns-clause-only c = brackets_run c.args.piece.now c.loop-first.count c.loop-first.rest.now c.loop-first.invariant
