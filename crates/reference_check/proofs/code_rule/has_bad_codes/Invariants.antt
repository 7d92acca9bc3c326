-- The codes so far have texts of their own.
use Rattle.std.proofs.Common.{◌≡◌}
use Rattle.reference_check.specs.CodeTexts.{text_of_code}
use Rattle.reference_check.specs.Rules.{set_codes}
use Rattle.reference_check.specs.inner.SeenTexts.{SeenTexts, is_seen}
use Rattle.reference_check.proofs.code_rule.has_bad_codes.Given as goal

abbrev pub invariant-loop-code : goal.invariant-loop-code
invariant-loop-code l = record {
  stays : l.texts ≡ l.initial.texts;
  seen : SeenTexts (text_of_code l.initial.texts.objects l.object) (set_codes l.object) l.code-index (is_seen l.seen);
}
