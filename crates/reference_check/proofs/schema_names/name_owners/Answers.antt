-- One more object owns its names, and then the message.
use Rattle.std.proofs.Common.{◌∙◌}
use Rattle.reference_check.specs.inner.Owners.{owner_of}
use Rattle.reference_check.proofs.SchemaNames.{no_owner_first, owners_one_more, owners_of_message}
use Rattle.reference_check.proofs.schema_names.name_owners.Goals as goal

pub loop-at-init : goal.loop-at-init
loop-at-init c m has = no_owner_first c.args.repository.now m c.args.reach.now.objects c.new-owners.result c.new-owners.ensures.empty

pub loop-at-preserved : goal.loop-at-preserved
loop-at-preserved c m has =
    owners_one_more c.args.repository.now m c.args.reach.now c.as_slice-at-items.result.now c.loop-at.at-index c.object_in.result.now c.as_slice.result.now (owner_of c.loop-at.owners) (owner_of c.own_names.new.owners)
    has c.as_slice-at-items.ensures c.loop-at-test.true c.object_in.ensures (c.as_slice.ensures ∙ c.in_ok-names.ensures) c.in_ok-own_names.ensures (c.loop-at.invariant m has)

pub returns : goal.returns
returns c m has =
    owners_of_message c.args.repository.now m c.args.reach.now c.as_slice-at-items.result.now c.loop-at.at-index c.message_in.result.now c.as_slice-2.result.now c.object_count.result (owner_of c.loop-at.owners)
    (owner_of c.own_names-2.new.owners) has c.as_slice-at-items.ensures c.loop-at-test.false c.message_in.ensures.message (c.as_slice-2.ensures ∙ c.in_ok-names-2.ensures) c.object_count.ensures.count
    c.in_ok-own_names-2.ensures (c.loop-at.invariant m has)
