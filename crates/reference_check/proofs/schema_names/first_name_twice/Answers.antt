-- The first name that clashes is that of the first object that breaks the rule.
use Rattle.std.proofs.Common.{◌∙◌, refl, sym, true≢false}
use Rattle.reference_check.specs.inner.Owners.{owner_of}
use Rattle.reference_check.specs.Rules.{NameTwice}
use Rattle.reference_check.proofs.FirstPlaces.{place_breaks, place_is_fine, all_asked, tells_none, tells_message}
use Rattle.reference_check.proofs.SchemaNames.{twice_stands, object_clashes, object_is_clear, message_clashes, message_is_clear}
use Rattle.reference_check.proofs.schema_names.first_name_twice.Goals as goal

pub returns-then-has_clash : goal.returns-then-has_clash
returns-then-has_clash c m has =
    place_breaks c.args.repository.now m NameTwice c.args.reach.now _ _ _ c.as_slice-at-items.ensures c.loop-at-test.true has (twice_stands c.args.repository.now m) c.object_in.ensures (c.loop-at.invariant m has)
    (object_clashes c.args.repository.now m c.args.reach.now has (owner_of c.in_ok-owners.owners) (c.in_ok-owners.ensures m has) c.as_slice-at-items.result.now c.loop-at.at-index c.object_in.result.now c.as_slice.result.now
    c.as_slice-at-items.ensures c.loop-at-test.true c.object_in.ensures (c.as_slice.ensures ∙ c.in_ok-names.ensures) (c.if-has_clash.ensures.0 refl))

pub loop-at-preserved : goal.loop-at-preserved
loop-at-preserved c m has =
    place_is_fine c.args.repository.now m NameTwice c.args.reach.now _ _ c.object_in.result.now c.as_slice-at-items.ensures c.loop-at-test.true (c.loop-at.invariant m has)
    (object_is_clear c.args.repository.now m c.args.reach.now has (owner_of c.in_ok-owners.owners) (c.in_ok-owners.ensures m has) c.as_slice-at-items.result.now c.loop-at.at-index c.object_in.result.now c.as_slice.result.now
    c.as_slice-at-items.ensures c.loop-at-test.true c.object_in.ensures (c.as_slice.ensures ∙ c.in_ok-names.ensures) (c.loop-at.invariant m has)
    (λ clash. true≢false (sym (c.if-has_clash.ensures.1 clash))))

pub returns-then-has_clash-2 : goal.returns-then-has_clash-2
returns-then-has_clash-2 c m has =
    let none = all_asked c.args.repository.now m NameTwice c.args.reach.now _ _ c.as_slice-at-items.ensures c.loop-at-test.false (c.loop-at.invariant m has) in
    tells_message c.args.repository.now m NameTwice c.args.reach.now has (twice_stands c.args.repository.now m) none
    (message_clashes c.args.repository.now m c.args.reach.now has (owner_of c.in_ok-owners.owners) (c.in_ok-owners.ensures m has) c.message_in.result.now c.as_slice-2.result.now c.object_count.result
    c.message_in.ensures.whole c.message_in.ensures.message (c.as_slice-2.ensures ∙ c.in_ok-names-2.ensures) c.object_count.ensures.count (c.if-has_clash-2.ensures.0 refl))

pub returns : goal.returns
returns c m has =
    let none = all_asked c.args.repository.now m NameTwice c.args.reach.now _ _ c.as_slice-at-items.ensures c.loop-at-test.false (c.loop-at.invariant m has) in
    tells_none c.args.repository.now m NameTwice c.args.reach.now has (twice_stands c.args.repository.now m) none
    (message_is_clear c.args.repository.now m c.args.reach.now has (owner_of c.in_ok-owners.owners) (c.in_ok-owners.ensures m has) c.message_in.result.now c.as_slice-2.result.now c.object_count.result
    c.message_in.ensures.message (c.as_slice-2.ensures ∙ c.in_ok-names-2.ensures) c.object_count.ensures.count none (λ clash. true≢false (sym (c.if-has_clash-2.ensures.1 clash))))
