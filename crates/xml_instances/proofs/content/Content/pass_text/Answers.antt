use Rattle.std.proofs.Common.{rules, ◌≡◌, Some, None, subst}
use Rattle.std.specs.Prelude.{Option, IfSome}
use Rattle.std.specs.Borrow.{Bor}
use Rattle.facets.specs.declared.simple.Simple.{Simple}
use Rattle.message_model.specs.Tables.{types_of}
use Rattle.xml_instances.specs.Built.{TextShown}
use Rattle.xml_instances.specs.Keeping.{GoOn}
use Rattle.xml_instances.specs.Open.{IsRuleOf}
use Rattle.xml_instances.specs.declared.content.OpenText.{OpenText}
use Rattle.xml_instances.specs.inner.Quick.{IsTextTypeOf}
use Rattle.xml_instances.proofs.content.Content.pass_text.Goals as goal

pub returns-in-Some-take-clause-made : goal.returns-in-Some-take-clause-made
returns-in-Some-take-clause-made c =
    let types = types_of c.args.model.now in
    let was : c.args.self.now.text ≡ Some c.in-Some-take.open = search rules in
    let told : IsTextTypeOf types c.args.self.now.text c.in-Some.simple.now =
    subst (λ (o : Option (Bor Simple)). IfSome o (λ s. IsTextTypeOf types c.args.self.now.text s.now)) c.in-Some.is c.in_ok-simple.ensures.told in
    record {
      kept = c.keep.ensures.kept types c.requires.kept (subst (λ (x : Option OpenText). IsTextTypeOf types x c.in-Some.simple.now) was told);
      text = search rules;
      innermost = search rules;
    }

pub returns-in-Some-take-clause-taken : goal.returns-in-Some-take-clause-taken
returns-in-Some-take-clause-taken c simple text h done = subst (λ (o : Option (Bor Simple)). IfSome o (λ _. IsRuleOf simple text None)) c.in-Some.is (c.in_ok-simple.ensures.taken simple text h)

pub returns-in-Some-take-clause-shown : goal.returns-in-Some-take-clause-shown
returns-in-Some-take-clause-shown c simple text h done =
    subst (λ (o : Option (Bor Simple)). IfSome o (λ _. GoOn c.args.self.now.pieces c.pass_open.new.pieces (TextShown simple text))) c.in-Some.is (c.in_ok-simple.ensures.shown simple text h)
