-- One more object is asked, and then the message.
use Rattle.std.proofs.Common.{refl, true≢false, sym, subst, ◌∙◌}
use Rattle.repo_objects.specs.Repository.{IsRepository}
use Rattle.reference_check.specs.Rules.{TooMany}
use Rattle.reference_check.specs.inner.Sizes.{IsTooLarge}
use Rattle.reference_check.proofs.FirstPlaces.{object_breaks, object_is_fine, all_asked, tells_none, tells_message}
use Rattle.reference_check.proofs.ReachCounts.{many_stands, many_of_object, object_of_many, many_of_message, message_of_many}
use Rattle.reference_check.proofs.counts.first_too_many.Goals as goal

pub is_too_large-requires : goal.is_too_large-requires
is_too_large-requires c = record { whole = subst IsRepository (sym c.loop-at.invariant.stays) c.object_in.ensures.whole; texts = c.object_in.ensures.texts }

pub returns-then-branch : goal.returns-then-branch
returns-then-branch c m has =
    object_breaks c.args.repository.now m TooMany c.args.reach.now _ _ _ c.as_slice-at-items.ensures c.loop-at-test.true has (many_stands c.args.repository.now m) c.object_in.ensures (c.loop-at.invariant.none m has)
    (λ id found. object_of_many c.args.repository.now m id c.object_in.result.now found (subst (λ R. IsTooLarge R c.object_in.result.now) c.loop-at.invariant.stays (c.in_ok-is_too_large.ensures.large.0 c.if-branch.true)))

pub loop-at-preserved : goal.loop-at-preserved
loop-at-preserved c = record {
  stays = c.in_ok-is_too_large.ensures.stays ∙ c.loop-at.invariant.stays;
  none = λ m has.
      object_is_fine c.args.repository.now m TooMany c.args.reach.now _ _ _ c.as_slice-at-items.ensures c.loop-at-test.true c.object_in.ensures (c.loop-at.invariant.none m has)
      (λ id found broken.
      true≢false (sym (c.in_ok-is_too_large.ensures.large.1
      (subst (λ R. IsTooLarge R c.object_in.result.now) (sym c.loop-at.invariant.stays) (many_of_object c.args.repository.now m id c.object_in.result.now found broken)))
      ∙ c.if-branch.false));
}

pub returns-then-is_message_too_large : goal.returns-then-is_message_too_large
returns-then-is_message_too_large c m has =
    tells_message c.args.repository.now m TooMany c.args.reach.now has (many_stands c.args.repository.now m)
    (all_asked c.args.repository.now m TooMany c.args.reach.now _ _ c.as_slice-at-items.ensures c.loop-at-test.false (c.loop-at.invariant.none m has))
    (message_of_many c.args.repository.now m c.args.reach.now c.message_in.result.now c.message_in.ensures.whole has c.message_in.ensures.message (c.if-is_message_too_large.ensures.0 refl))

pub returns : goal.returns
returns c m has =
    tells_none c.args.repository.now m TooMany c.args.reach.now has (many_stands c.args.repository.now m)
    (all_asked c.args.repository.now m TooMany c.args.reach.now _ _ c.as_slice-at-items.ensures c.loop-at-test.false (c.loop-at.invariant.none m has))
    (λ broken. true≢false (sym (c.if-is_message_too_large.ensures.1 (many_of_message c.args.repository.now m c.args.reach.now c.message_in.result.now has c.message_in.ensures.message broken))))
