use Rattle.std.proofs.Common.{subst, sym, rules}
use Rattle.message_model.specs.declared.fault.InstanceError.{InstanceError}
use Rattle.xml_instances.specs.Checking.{IsTold}
use Rattle.xml_instances.specs.inner.Fronts.{HoldsTag}
use Rattle.xml_instances.specs.declared.content.Content.{Content}
use Rattle.xml_instances.specs.declared.opened.Refusal.TheVariants.{Memory as NoMemory}
use Rattle.xml_instances.proofs.checker.held.hold_tag.Goals as goal

pub returns-then-done : goal.returns-then-done
returns-then-done c = record {
  made = search rules;
  lean = search rules;
  none = search rules;
  taken = λ ls n e ours h. c.in-Ok.ensures.taken ls n e ours h c.if-done.true;
  shown = λ ls n e ours h may. c.in-Ok.ensures.shown ls n e ours h c.if-done.true;
}

pub returns-else-done : goal.returns-else-done
returns-else-done c =
    subst (λ (x : Content). HoldsTag c.args.model.now x c.hold_any_tag.new.content c.args.kind c.args.name.now c.args.place c.hold_any_tag.result c.hold_any_tag.new.stop) (c.in-Ok.ensures.kept c.if-done.false) c.hold_any_tag.ensures

pub returns-in-Err : goal.returns-in-Err
returns-in-Err c = record {
  made = search rules;
  lean = search rules;
  none = search rules;
  taken = (NoMemory, (λ ls n e ours h. tt), subst (λ (v : InstanceError). IsTold NoMemory c.args.place v) (sym c.requires.none) tt);
  shown = search rules;
}
