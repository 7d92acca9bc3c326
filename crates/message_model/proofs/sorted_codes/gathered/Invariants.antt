use Rattle.std.proofs.Common.{◌≡◌, drop}
use Rattle.std.specs.List.{fold}
use Rattle.message_model.specs.SimpleTypes.{put_text, sorted_texts, texts_of}
use Rattle.message_model.specs.inner.Sorted.{texts_in}
use Rattle.message_model.proofs.sorted_codes.gathered.Given as goal

-- the texts so far, and then those of the rest
abbrev pub invariant-loop-code : goal.invariant-loop-code
invariant-loop-code l = record {
  stays : l.texts ≡ l.initial.texts;
  sorted : fold put_text (texts_in l.sorted) (texts_of l.initial.texts.objects l.fn.object (drop l.code l.fn.object.codes))
      ≡ sorted_texts (texts_of l.initial.texts.objects l.fn.object l.fn.object.codes);
}
