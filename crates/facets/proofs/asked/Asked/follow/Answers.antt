use Rattle.std.proofs.Common.{[], ◌∷◌}
use Rattle.facets.proofs.PatternLemmas.{was_asked, skipped, followed}
use Rattle.facets.proofs.asked.Asked.follow.Goals as goal

pub returns-then-is_too_long : goal.returns-then-is_too_long
returns-then-is_too_long c = λ text h counted.
    skipped c.args.self.now c.args.simple.now text (c.args.c ∷ []) (c.is_too_long.ensures _ counted c.if-is_too_long.true) h

pub take-requires : goal.take-requires
take-requires c = was_asked c.args.self.now c.args.simple.now _ c.requires.1

pub returns : goal.returns
returns c = λ text h counted. followed c.args.self.now c.take.new.self c.args.simple.now text (c.args.c ∷ []) c.take.ensures h
