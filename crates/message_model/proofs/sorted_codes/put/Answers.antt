use Rattle.std.proofs.Common.{ap, ◌∙◌}
use Rattle.message_model.specs.SimpleTypes.{put_text}
use Rattle.message_model.specs.inner.Sorted.{texts_in}
use Rattle.message_model.proofs.SortedTexts.{put_same, texts_by}
use Rattle.message_model.proofs.sorted_codes.put.Goals as goal

pub returns : goal.returns
returns c =
    ap texts_by c.in_ok-insert.ensures.keys ∙ (put_same c.args.texts.now.keys c.in_ok-copy.copy ∙ ap (put_text (texts_in c.args.texts.now)) c.in_ok-copy.ensures.items)
