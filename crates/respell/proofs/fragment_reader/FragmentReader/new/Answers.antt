use Rattle.std.proofs.Common.{[]}
use Rattle.respell.proofs.FragmentPieces.{none_held}
use Rattle.respell.proofs.fragment_reader.FragmentReader.new.Goals as goal

pub returns-clause-held : goal.returns-clause-held
returns-clause-held c = none_held c.without_limit.result [] c.without_limit.ensures.taken
