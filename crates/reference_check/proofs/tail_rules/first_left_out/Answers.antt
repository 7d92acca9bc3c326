-- One more object is asked.
use Rattle.std.proofs.Common.{refl, true≢false, sym}
use Rattle.reference_check.specs.inner.Ranks.{IsLeftOut}
use Rattle.reference_check.specs.Rules.{LeftOutKind}
use Rattle.reference_check.proofs.FirstPlaces.{object_breaks, object_is_fine, all_asked, tells_none, stands_as_object, no_message, of_object}
use Rattle.reference_check.proofs.tail_rules.first_left_out.Goals as goal

pub returns-then-is_left_out : goal.returns-then-is_left_out
returns-then-is_left_out c m has =
    object_breaks c.args.repository.now m LeftOutKind c.args.reach.now _ _ _ c.as_slice-at-items.ensures c.loop-at-test.true has (stands_as_object c.args.repository.now IsLeftOut) c.object_in.ensures (c.loop-at.invariant m has)
    (λ id found. (id, c.object_in.result.now, refl, found, c.if-is_left_out.ensures.0 refl))

pub loop-at-preserved : goal.loop-at-preserved
loop-at-preserved c m has =
    object_is_fine c.args.repository.now m LeftOutKind c.args.reach.now _ _ _ c.as_slice-at-items.ensures c.loop-at-test.true c.object_in.ensures (c.loop-at.invariant m has)
    (λ id found broken. true≢false (sym (c.if-is_left_out.ensures.1 (of_object c.args.repository.now id c.object_in.result.now IsLeftOut found broken))))

pub returns : goal.returns
returns c m has =
    tells_none c.args.repository.now m LeftOutKind c.args.reach.now has (stands_as_object c.args.repository.now IsLeftOut) (all_asked c.args.repository.now m LeftOutKind c.args.reach.now _ _ c.as_slice-at-items.ensures c.loop-at-test.false (c.loop-at.invariant m has))
    (no_message c.args.repository.now IsLeftOut)
