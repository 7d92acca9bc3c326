use Rattle.std.proofs.Common.{ap, ◌∙◌}
use Rattle.code_sets.specs.inner.Given.{key_texts, with_text}
use Rattle.code_sets.proofs.GivenLemmas.{key_added}
use Rattle.code_sets.proofs.given.add_text.Goals as goal

pub returns : goal.returns
returns c =
    ap key_texts c.in_ok-insert.ensures.keys ∙ key_added c.args.texts.now.keys c.in_ok-from_slice.field-0 ∙ ap (with_text (key_texts c.args.texts.now.keys)) c.in_ok-from_slice.ensures.items
