use Rattle.markup.specs.Marks.{no_limit}
use Rattle.respell.proofs.fragment_reader.FragmentReader.token.Goals as goal

pub returns-clause-held : goal.returns-clause-held
returns-clause-held c waiting bytes h = c.token.ensures.held no_limit bytes h.front.told h.front.reads

pub returns-clause-within : goal.returns-clause-within
returns-clause-within c waiting bytes h = c.token.ensures.within no_limit bytes h.front.told h.front.reads
