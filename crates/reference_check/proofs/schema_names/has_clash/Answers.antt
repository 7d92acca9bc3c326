-- One more name is asked.
use Rattle.std.proofs.Common.{◌≡◌, ◌≢◌, ◌⊎◌, Some, sym, subst, true≢false}
use Rattle.std.specs.Prelude.{codes}
use Rattle.reference_check.specs.inner.Owners.{owner_of}
use Rattle.reference_check.proofs.Lists.{item_at, none_before_more, none_contained}
use Rattle.reference_check.proofs.schema_names.has_clash.Goals as goal

pub loop-name-preserved : goal.loop-name-preserved
loop-name-preserved c =
    none_before_more (λ name. (name ≡ codes "Document") ⊎ (owner_of c.args.owners.now name ≢ Some c.args.rank)) c.args.names.now c.loop-name.name-index c.name-item.result c.loop-name.invariant
    (item_at _ _ _ c.loop-name-test.true c.name-item.is) (λ clash. true≢false (sym (c.if-is_clash.ensures.1 (subst (λ n. (n ≡ codes "Document") ⊎ (owner_of c.args.owners.now n ≢ Some c.args.rank)) (sym c.bytes.ensures) clash))))

pub returns : goal.returns
returns c = (
  λ never. absurd (true≢false (sym never)),
  λ (name, among, clash). absurd (none_contained (λ n. (n ≡ codes "Document") ⊎ (owner_of c.args.owners.now n ≢ Some c.args.rank)) c.args.names.now c.loop-name.name-index c.loop-name.invariant c.loop-name-test.false name among clash),
)
