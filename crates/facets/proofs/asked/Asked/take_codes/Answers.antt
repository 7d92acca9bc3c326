use Rattle.facets.proofs.PatternLemmas.{takes_codes}
use Rattle.facets.proofs.asked.Asked.take_codes.Goals as goal

pub returns-in-Collapsed : goal.returns-in-Collapsed
returns-in-Collapsed c = λ text asked.
    takes_codes c.args.self.now c.args.simple.now text c.args.codes.now c.in-Collapsed.collapse c.take_gains.new.collapse c.in-Collapsed.matcher c.in-Some.pattern
    c.take_gains.new.matcher c.in-Collapsed.is c.in-Some.is c.take_gains.ensures asked
