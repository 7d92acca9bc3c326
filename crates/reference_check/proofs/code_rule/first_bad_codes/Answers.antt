-- One more object is asked.
use Rattle.std.proofs.Common.{refl, true≢false, sym, subst, ◌∙◌}
use Rattle.reference_check.specs.Rules.{BadCodes, HasBadCodes}
use Rattle.reference_check.proofs.FirstPlaces.{object_breaks, object_is_fine, all_asked, tells_none, stands_as_object, no_message, of_object}
use Rattle.reference_check.proofs.code_rule.first_bad_codes.Goals as goal

pub returns-then-branch : goal.returns-then-branch
returns-then-branch c m has =
    object_breaks c.args.repository.now m BadCodes c.args.reach.now _ _ _ c.as_slice-at-items.ensures c.loop-at-test.true has (stands_as_object c.args.repository.now (HasBadCodes c.args.repository.now)) c.object_in.ensures
    (c.loop-at.invariant.none m has)
    (λ id found. (id, c.object_in.result.now, refl, found, subst (λ R. HasBadCodes R c.object_in.result.now) c.loop-at.invariant.stays (c.in_ok-has_bad_codes.ensures.bad.0 c.if-branch.true)))

pub loop-at-preserved : goal.loop-at-preserved
loop-at-preserved c = record {
  stays = c.in_ok-has_bad_codes.ensures.stays ∙ c.loop-at.invariant.stays;
  none = λ m has.
      object_is_fine c.args.repository.now m BadCodes c.args.reach.now _ _ _ c.as_slice-at-items.ensures c.loop-at-test.true c.object_in.ensures (c.loop-at.invariant.none m has)
      (λ id found broken.
      true≢false (sym (c.in_ok-has_bad_codes.ensures.bad.1
      (subst (λ R. HasBadCodes R c.object_in.result.now) (sym c.loop-at.invariant.stays) (of_object c.args.repository.now id c.object_in.result.now (HasBadCodes c.args.repository.now) found broken)))
      ∙ c.if-branch.false));
}

pub returns : goal.returns
returns c m has =
    tells_none c.args.repository.now m BadCodes c.args.reach.now has (stands_as_object c.args.repository.now (HasBadCodes c.args.repository.now))
    (all_asked c.args.repository.now m BadCodes c.args.reach.now _ _ c.as_slice-at-items.ensures c.loop-at-test.false (c.loop-at.invariant.none m has)) (no_message c.args.repository.now (HasBadCodes c.args.repository.now))
