use Rattle.markup.proofs.ReaderLemmas.{new_taken}
use Rattle.markup.proofs.reader.Reader.under.Goals as goal

pub returns-clause-taken : goal.returns-clause-taken
returns-clause-taken c = new_taken c.new.result c.new-2.result c.new.ensures.opens c.new.ensures.place c.new-2.ensures
