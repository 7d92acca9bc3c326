-- One more code is asked.
use Rattle.std.proofs.Common.{◌≤◌, refl, sym, subst, true≢false, ◌∙◌, length}
use Rattle.repo_objects.specs.Repository.{IsRepository}
use Rattle.reference_check.specs.CodeTexts.{text_of_code}
use Rattle.reference_check.specs.Rules.{IsLongIfAny, set_codes}
use Rattle.reference_check.proofs.Lists.{item_in, contained, none_before_more, none_contained}
use Rattle.reference_check.proofs.Sizes.{set_code_texts}
use Rattle.reference_check.proofs.counts.has_long_code.Goals as goal

pub has_long_text-requires : goal.has_long_text-requires
has_long_text-requires c = record {
  whole = subst IsRepository (sym c.loop-code.invariant.stays) c.requires.whole;
  texts = set_code_texts c.args.object.now _ _ _ c.requires.texts c.set_codes-code-items.ensures c.loop-code-test.true c.code-item.is;
}

pub loop-code-preserved : goal.loop-code-preserved
loop-code-preserved c = record {
  stays = c.in_ok-has_long_text.ensures.stays ∙ c.loop-code.invariant.stays;
  none = none_before_more (λ d. IsLongIfAny (text_of_code c.args.texts.now.objects c.args.object.now d)) (set_codes c.args.object.now) c.loop-code.code-index c.code-item.result c.loop-code.invariant.none
      (item_in _ _ _ _ c.set_codes-code-items.ensures c.loop-code-test.true c.code-item.is)
      (λ long. true≢false (sym (c.in_ok-has_long_text.ensures.long.1 (subst (λ R. IsLongIfAny (text_of_code R.objects c.args.object.now c.code-item.result)) (sym c.loop-code.invariant.stays) long)) ∙ c.if-branch.false));
}

pub returns-then-branch-clause-long : goal.returns-then-branch-clause-long
returns-then-branch-clause-long c =
    let long = subst (λ R. IsLongIfAny (text_of_code R.objects c.args.object.now c.code-item.result)) c.loop-code.invariant.stays (c.in_ok-has_long_text.ensures.long.0 c.if-branch.true) in
    (λ _. (c.code-item.result, contained (set_codes c.args.object.now) c.loop-code.code-index c.code-item.result (item_in _ _ _ _ c.set_codes-code-items.ensures c.loop-code-test.true c.code-item.is), long), λ _. refl)

pub returns-clause-long : goal.returns-clause-long
returns-clause-long c = (
  λ never. absurd (true≢false (sym never)),
  λ (d, among, long). absurd (none_contained (λ e. IsLongIfAny (text_of_code c.args.texts.now.objects c.args.object.now e)) (set_codes c.args.object.now) c.loop-code.code-index c.loop-code.invariant.none
      (subst (λ cs. length cs ≤ c.loop-code.code-index) c.set_codes-code-items.ensures c.loop-code-test.false) d among long),
)
