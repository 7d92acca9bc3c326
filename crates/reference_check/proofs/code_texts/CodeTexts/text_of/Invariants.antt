-- The traces that are left give the text of the code that was come to.
use Rattle.std.proofs.Common.{◌≡◌, ◌-◌}
use Rattle.reference_check.specs.CodeTexts.{text_behind, text_of_code}
use Rattle.reference_check.proofs.code_texts.CodeTexts.text_of.Given as goal

abbrev pub invariant-loop-trace : goal.invariant-loop-trace
invariant-loop-trace l = record {
  stays : l.self ≡ l.fn.self;
  text : text_behind (16 - l._trace) l.fn.self.objects l.set l.code ≡ text_of_code l.fn.self.objects l.fn.object l.fn.definition;
}
