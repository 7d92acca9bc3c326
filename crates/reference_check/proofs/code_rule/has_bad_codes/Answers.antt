-- One more code has a text of its own.
use Rattle.std.proofs.Common.{◌≡◌, ◌≤◌, ◌∙◌, true≢false, length, sym, subst, refl, Some, None}
use Rattle.reference_check.specs.CodeTexts.{text_of_code}
use Rattle.reference_check.specs.Rules.{set_codes}
use Rattle.reference_check.specs.inner.SeenTexts.{is_seen}
use Rattle.reference_check.proofs.Lists.{item_in}
use Rattle.reference_check.proofs.SeenTexts.{nothing_seen, no_text_is_bad, twice_is_bad, all_is_well, one_more_seen, seen_updated, was_seen, was_fresh}
use Rattle.reference_check.proofs.code_rule.has_bad_codes.Goals as goal

pub loop-code-init : goal.loop-code-init
loop-code-init c = record { stays = refl; seen = nothing_seen _ _ c.new-seen.result c.new-seen.ensures.empty }

pub returns-then-not-branch-clause-bad : goal.returns-then-not-branch-clause-bad
returns-then-not-branch-clause-bad c =
    let found : Some c.in-Some.text.now ≡ text_of_code c.loop-code.texts.objects c.args.object.now c.code-item.result = rw c.in-Some.is at c.in_ok-text.ensures.text in
    let text = sym (subst (λ R. Some c.in-Some.text.now ≡ text_of_code R.objects c.args.object.now c.code-item.result) c.loop-code.invariant.stays found) in
    let bad = twice_is_bad (text_of_code c.args.texts.now.objects c.args.object.now) (set_codes c.args.object.now) c.loop-code.code-index (is_seen c.loop-code.seen) c.code-item.result c.in-Some.text.now c.loop-code.invariant.seen
    (item_in _ _ _ _ c.set_codes-code-items.ensures c.loop-code-test.true c.code-item.is) text (was_seen (is_seen c.loop-code.seen c.in-Some.text.now) c.in_ok-insert.field-0 c.in_ok-insert.ensures.added c.if-not-branch.true) in
    (λ _. bad, λ _. refl)

pub loop-code-preserved : goal.loop-code-preserved
loop-code-preserved c =
    let found : Some c.in-Some.text.now ≡ text_of_code c.loop-code.texts.objects c.args.object.now c.code-item.result = rw c.in-Some.is at c.in_ok-text.ensures.text in
    let text = sym (subst (λ R. Some c.in-Some.text.now ≡ text_of_code R.objects c.args.object.now c.code-item.result) c.loop-code.invariant.stays found) in
    record {
      stays = c.in_ok-text.ensures.stays ∙ c.loop-code.invariant.stays;
      seen = one_more_seen (text_of_code c.args.texts.now.objects c.args.object.now) (set_codes c.args.object.now) c.loop-code.code-index (is_seen c.loop-code.seen) (is_seen c.insert.new.self) c.code-item.result c.in-Some.text.now
          c.loop-code.invariant.seen (item_in _ _ _ _ c.set_codes-code-items.ensures c.loop-code-test.true c.code-item.is) text
          (was_fresh (is_seen c.loop-code.seen c.in-Some.text.now) c.in_ok-insert.field-0 c.in_ok-insert.ensures.added c.if-not-branch.false)
          (seen_updated c.loop-code.seen c.insert.new.self c.in-Some.text c.in_ok-insert.ensures.updates.0);
    }

pub returns-clause-bad : goal.returns-clause-bad
returns-clause-bad c = (
  λ never. absurd (true≢false (sym never)),
  λ bad. absurd (all_is_well (text_of_code c.args.texts.now.objects c.args.object.now) (set_codes c.args.object.now) c.loop-code.code-index (is_seen c.loop-code.seen) c.loop-code.invariant.seen
      (subst (λ cs. length cs ≤ c.loop-code.code-index) c.set_codes-code-items.ensures c.loop-code-test.false) bad),
)

pub returns-in_default-clause-bad : goal.returns-in_default-clause-bad
returns-in_default-clause-bad c =
    let found : None ≡ text_of_code c.loop-code.texts.objects c.args.object.now c.code-item.result = rw c.in_default.is at c.in_ok-text.ensures.text in
    let text = sym (subst (λ R. None ≡ text_of_code R.objects c.args.object.now c.code-item.result) c.loop-code.invariant.stays found) in
    let bad = no_text_is_bad (text_of_code c.args.texts.now.objects c.args.object.now) (set_codes c.args.object.now) c.loop-code.code-index c.code-item.result
    (item_in _ _ _ _ c.set_codes-code-items.ensures c.loop-code-test.true c.code-item.is) text in
    (λ _. bad, λ _. refl)
