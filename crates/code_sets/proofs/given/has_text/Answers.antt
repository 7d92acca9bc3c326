use Rattle.std.proofs.Common.{◌∙◌}
use Rattle.code_sets.proofs.GivenLemmas.{text_found}
use Rattle.code_sets.proofs.given.has_text.Goals as goal

pub returns : goal.returns
returns c = c.contains.ensures ∙ text_found c.args.text.now c.args.texts.now.keys
