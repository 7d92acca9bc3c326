use Rattle.std.proofs.Common.{rules, ◌≡◌, Some, subst}
use Rattle.std.specs.Prelude.{Option}
use Rattle.message_model.specs.Tables.{message_of}
use Rattle.xml_instances.specs.Open.{HoldsText}
use Rattle.xml_instances.specs.declared.content.OpenText.{OpenText}
use Rattle.xml_instances.proofs.content.quick.open_run.Goals as goal

pub returns-in-Some-clause-taken : goal.returns-in-Some-clause-taken
returns-in-Some-clause-taken c r simple taken h =
    let is : c.args.text.now ≡ Some c.in-Some.open = search rules in
    c.take_run.ensures.taken r simple taken (subst (λ (x : Option OpenText). HoldsText (message_of c.args.model.now) x simple taken) is h)
