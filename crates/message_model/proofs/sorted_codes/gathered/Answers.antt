use Rattle.std.proofs.Common.{ap, ◌∙◌, arith}
use Rattle.std.specs.List.{fold}
use Rattle.std.specs.Option.{option_to_list}
use Rattle.reference_check.specs.CodeTexts.{text_at}
use Rattle.message_model.specs.SimpleTypes.{put_text, sorted_texts, texts_of}
use Rattle.message_model.specs.inner.Sorted.{texts_in}
use Rattle.message_model.proofs.SortedTexts.{gathered_more}
use Rattle.message_model.proofs.sorted_codes.gathered.Goals as goal

pub loop-code-preserved : goal.loop-code-preserved
loop-code-preserved c = record {
  stays = c.in_ok-text.ensures.stays ∙ c.loop-code.invariant.stays;
  sorted =
      gathered_more c.args.texts.now.objects c.requires.0 c.args.object.now c.args.at c.loop-code.code (texts_in c.loop-code.sorted) (texts_in c.put_if_any.new.texts)
      (sorted_texts (texts_of c.args.texts.now.objects c.args.object.now c.args.object.now.codes)) c.requires.1 (omega (arith, c.loop-code-test.true, c.len-code-end.ensures)) c.loop-code.invariant.sorted
      (c.in_ok-put_if_any.ensures ∙ ap (λ t. fold put_text (texts_in c.loop-code.sorted) (option_to_list t))
      (c.in_ok-text.ensures.text ∙ ap (λ R. text_at R.objects c.args.at c.loop-code.code) c.loop-code.invariant.stays));
}
