use Rattle.std.proofs.Common.{◌≡◌, Some, sym, subst}
use Rattle.std.specs.Prelude.{IfOk}
use Rattle.message_model.specs.Tables.{types_of}
use Rattle.message_model.specs.Views.{IsFormOf}
use Rattle.message_model.specs.declared.model.Form.TheVariants as form
use Rattle.der_codec.specs.OpenLeaves.{IsBegunUnder}
use Rattle.der_codec.proofs.ContentsJudged.{simple_text, simple_form, envelope_form}
use Rattle.der_codec.proofs.open_leaf.begin_value.Goals as goal

pub begin_simple-requires-clause-limits : goal.begin_simple-requires-clause-limits
begin_simple-requires-clause-limits c =
    let at = types_of c.args.model.now c.args.number in
    let told = c.in-Some-Simple in
    let e : told.field-0 ≡ form.Simple told.simple = (let a = told.field-0-is in let b = told.simple-is in cc) in
    let is : IsFormOf (Some (form.Simple told.simple)) at = subst (λ z. IsFormOf (Some z) at) e told.ensures.form in
    (c.type_count.ensures.sound c.args.number).limits told.simple.now (simple_text at told.simple is)

pub begin_simple-requires-clause-made : goal.begin_simple-requires-clause-made
begin_simple-requires-clause-made c =
    let at = types_of c.args.model.now c.args.number in
    let told = c.in-Some-Simple in
    let e : told.field-0 ≡ form.Simple told.simple = (let a = told.field-0-is in let b = told.simple-is in cc) in
    let is : IsFormOf (Some (form.Simple told.simple)) at = subst (λ z. IsFormOf (Some z) at) e told.ensures.form in
    (types_of c.args.model.now, simple_text at told.simple is, c.requires)

pub returns-in-Some-Simple-clause-made : goal.returns-in-Some-Simple-clause-made
returns-in-Some-Simple-clause-made c =
    let at = types_of c.args.model.now c.args.number in
    let told = c.in-Some-Simple in
    let e : told.field-0 ≡ form.Simple told.simple = (let a = told.field-0-is in let b = told.simple-is in cc) in
    let is : IsFormOf (Some (form.Simple told.simple)) at = subst (λ z. IsFormOf (Some z) at) e told.ensures.form in
    c.begin_simple.ensures.made (types_of c.args.model.now) (simple_text at told.simple is) c.requires

pub returns-in-Some-Simple-clause-begun : goal.returns-in-Some-Simple-clause-begun
returns-in-Some-Simple-clause-begun c =
    let at = types_of c.args.model.now c.args.number in
    let told = c.in-Some-Simple in
    let e : told.field-0 ≡ form.Simple told.simple = (let a = told.field-0-is in let b = told.simple-is in cc) in
    let is : IsFormOf (Some (form.Simple told.simple)) at = subst (λ z. IsFormOf (Some z) at) e told.ensures.form in
    subst (λ f. IfOk c.begin_simple.result (λ opened. IsBegunUnder f opened)) (sym (simple_form at told.simple is)) c.begin_simple.ensures.begun

pub returns-in-Some-Envelope-clause-begun : goal.returns-in-Some-Envelope-clause-begun
returns-in-Some-Envelope-clause-begun c =
    let at = types_of c.args.model.now c.args.number in
    let told = c.in-Some-Envelope in
    let e : told.field-0 ≡ form.Envelope = (let a = told.field-0-is in cc) in
    let is : IsFormOf (Some form.Envelope) at = subst (λ z. IsFormOf (Some z) at) e told.ensures.form in
    subst (λ f. IfOk c.begin_envelope.result (λ opened. IsBegunUnder f opened)) (sym (envelope_form at is)) c.begin_envelope.ensures
