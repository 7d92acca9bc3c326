use Rattle.data_types.specs.Collapsing.{gain_of}
use Rattle.facets.proofs.PatternLemmas.{takes_collapsed}
use Rattle.facets.proofs.asked.Asked.take.Goals as goal

pub returns-in-Collapsed : goal.returns-in-Collapsed
returns-in-Collapsed c = λ text asked.
    takes_collapsed c.args.self.now c.args.simple.now text c.args.c c.in-Collapsed.collapse c.take-gain.new.self c.in-Collapsed.matcher c.in-Some.pattern (gain_of c.take-gain.result c.args.c)
    c.take_gained.new.matcher c.in-Collapsed.is c.in-Some.is c.take-gain.ensures.text c.take_gained.ensures asked
