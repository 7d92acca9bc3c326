use Rattle.facets.proofs.PatternLemmas.{accepts_text, accepts_collapsed}
use Rattle.facets.proofs.asked.Asked.accepts.Goals as goal

pub returns-in-Text : goal.returns-in-Text
returns-in-Text c = λ text asked.
    accepts_text c.args.self.now c.args.simple.now text c.in-Text.matcher c.in-Some.pattern c.accepts.result c.in-Text.is c.in-Some.is c.accepts.ensures asked

pub returns-in-Collapsed : goal.returns-in-Collapsed
returns-in-Collapsed c = λ text asked.
    accepts_collapsed c.args.self.now c.args.simple.now text c.in-Collapsed.collapse c.in-Collapsed.matcher c.in-Some.pattern c.accepts-in-Collapsed.result c.in-Collapsed.is c.in-Some.is
    c.accepts-in-Collapsed.ensures c.finish.ensures c.a_text_is_collapsed_one_way.ensures asked
