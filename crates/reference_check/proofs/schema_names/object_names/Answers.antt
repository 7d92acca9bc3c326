-- An amount with currencies has two names.
use Rattle.std.proofs.Common.{sym}
use Rattle.reference_check.specs.Reach.{kind_currency}
use Rattle.reference_check.proofs.SchemaNames.{names_made}
use Rattle.reference_check.proofs.schema_names.object_names.Goals as goal

pub returns : goal.returns
returns c =
    names_made c.args.object.now.name c.in_ok-copy.field-0 c.extend.new.self c.in_ok-simple.simple c.new-names.result c.push.new.self c.push-2.new.self
    (kind_currency c.args.object.now.kind c.args.object.now.currency) (sym c.if-not-is_with_currency.ensures) c.new-names.ensures c.in_ok-copy.ensures c.in_ok-push.ensures.ok c.in_ok-simple.ensures c.in_ok-extend.ensures.ok
    c.in_ok-push-2.ensures.ok
