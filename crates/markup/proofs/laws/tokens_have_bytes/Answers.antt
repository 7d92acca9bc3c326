use Rattle.markup.proofs.Stays.{tokens_have_bytes}
use Rattle.markup.proofs.laws.tokens_have_bytes.Goals as goal

pub returns : goal.returns
returns c = tokens_have_bytes
