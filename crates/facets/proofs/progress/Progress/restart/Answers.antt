use Rattle.std.proofs.Common.{inl}
use Rattle.facets.proofs.PatternLemmas.{was_asked}
use Rattle.facets.proofs.progress.Progress.restart.Goals as goal

pub restart-requires-2 : goal.restart-requires-2
restart-requires-2 c = let (most, text, had) = c.requires in was_asked c.args.self.now.asked c.args.simple.now text had.asked

pub returns-clause-taken : goal.returns-clause-taken
returns-clause-taken c = λ most text had.
    record {
      step = c.restart.ensures.taken c.args.simple.now.kind most text had.step;
      counted = c.new-self.ensures;
      asked = inl c.restart-2.ensures;
      characters = tt;
      limits = had.limits;
    }
