-- One more name has its owner.
use Rattle.std.proofs.Common.{◌≡◌, ◌∙◌, Some, subst}
use Rattle.std.specs.Bool.{if◌then◌else◌}
use Rattle.std.specs.Str.{bytes_eq}
use Rattle.reference_check.specs.inner.Owners.{owner_of}
use Rattle.reference_check.proofs.SchemaNames.{owner_updated, owned_one_more}
use Rattle.reference_check.proofs.schema_names.own_names.Goals as goal

pub loop-name-preserved : goal.loop-name-preserved
loop-name-preserved c q =
    let key : c.into_vec.result.items ≡ c.name-item.result = c.into_vec.ensures ∙ c.in_ok-copy.ensures in
    owned_one_more c.args.names.now c.loop-name.name-index c.name-item.result q c.args.rank (owner_of c.args.owners.now q) (owner_of c.loop-name.owners q) (owner_of c.insert.new.self q)
    c.loop-name-test.true c.name-item.is
    (subst (λ p. owner_of c.insert.new.self q ≡ (if bytes_eq p q then Some c.args.rank else owner_of c.loop-name.owners q)) key
    (owner_updated c.loop-name.owners c.insert.new.self c.into_vec.result.items c.args.rank c.in_ok-insert.ensures.updates.1 c.in_ok-insert.ensures.updates.3 q))
    (c.loop-name.invariant q)
