use Rattle.std.proofs.Common.{◌≡◌, Some, subst}
use Rattle.message_model.specs.Tables.{types_of}
use Rattle.message_model.specs.Views.{IsFormOf}
use Rattle.message_model.specs.declared.model.Form.TheVariants as form
use Rattle.der_model.specs.DerMessage.{der_message}
use Rattle.der_codec.proofs.ContentsJudged.{simple_text}
use Rattle.der_codec.proofs.LeavesKnown.{simple_known}
use Rattle.der_codec.proofs.known.known_value.Goals as goal

pub known_simple-requires : goal.known_simple-requires
known_simple-requires c =
    let at = types_of c.args.model.now c.args.number in
    let told = c.in-Some-Simple in
    let e : told.field-0 ≡ form.Simple told.simple = (let a = told.field-0-is in let b = told.simple-is in cc) in
    let is : IsFormOf (Some (form.Simple told.simple)) at = subst (λ z. IsFormOf (Some z) at) e told.ensures.form in
    (types_of c.args.model.now, simple_text at told.simple is, c.requires)

pub returns-in-Some-Simple : goal.returns-in-Some-Simple
returns-in-Some-Simple c =
    let at = types_of c.args.model.now c.args.number in
    let told = c.in-Some-Simple in
    let e : told.field-0 ≡ form.Simple told.simple = (let a = told.field-0-is in let b = told.simple-is in cc) in
    let is : IsFormOf (Some (form.Simple told.simple)) at = subst (λ z. IsFormOf (Some z) at) e told.ensures.form in
    simple_known (der_message c.args.model.now) (types_of c.args.model.now) c.args.number at told.simple c.args.octets.now c.known_simple.result is c.known_simple.ensures
