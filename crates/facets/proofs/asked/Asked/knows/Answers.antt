use Rattle.facets.proofs.PatternLemmas.{known_text}
use Rattle.facets.proofs.asked.Asked.knows.Goals as goal

pub returns-in-Text : goal.returns-in-Text
returns-in-Text c = λ yes.
    known_text c.args.self.now c.args.simple.now c.args.codes.now c.requires.0 c.in-Text.matcher c.in-Some.pattern c.in-Text.is c.in-Some.is (c.knows.ensures yes) c.requires.1
