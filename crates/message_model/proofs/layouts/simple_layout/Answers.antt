use Rattle.std.proofs.Common.{◌≡◌, Some, rules}
use Rattle.repo_objects.specs.declared.objects.Kinds.TheVariants as kinds
use Rattle.message_model.specs.Compiled.{place_of}
use Rattle.message_model.specs.inner.Numbers.{ids_at}
use Rattle.message_model.proofs.SlotLists.{money_same, money_stands}
use Rattle.message_model.proofs.layouts.simple_layout.Goals as goal

pub returns-in-Some : goal.returns-in-Some
returns-in-Some c places are can is base =
    let amount : c.args.kind ≡ kinds.Amount = search rules in
    let given : c.args.object.now.currency ≡ Some c.bytes.result.now = search rules in
    money_same c.args.repository.now (place_of (ids_at c.args.repository.now.objects places)) c.args.object.now c.args.kind c.bytes.result.now c.number_of.result c.args.base amount given
    (c.number_of.ensures places are (money_stands c.args.repository.now places c.args.object.now c.args.kind c.bytes.result.now can is amount given)) base
