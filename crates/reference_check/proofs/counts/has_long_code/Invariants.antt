-- None of the codes so far has a text that is too long.
use Rattle.std.proofs.Common.{◌≡◌}
use Rattle.reference_check.specs.CodeTexts.{text_of_code}
use Rattle.reference_check.specs.Rules.{IsLongIfAny, set_codes}
use Rattle.reference_check.proofs.Lists.{NoneBefore}
use Rattle.reference_check.proofs.counts.has_long_code.Given as goal

abbrev pub invariant-loop-code : goal.invariant-loop-code
invariant-loop-code l = record {
  stays : l.texts ≡ l.initial.texts;
  none : NoneBefore (λ c. IsLongIfAny (text_of_code l.initial.texts.objects l.object c)) (set_codes l.object) l.code-index;
}
