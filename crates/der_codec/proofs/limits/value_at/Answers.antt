use Rattle.std.proofs.Common.{◌≡◌, Some, subst}
use Rattle.message_model.specs.Tables.{types_of}
use Rattle.message_model.specs.Views.{IsFormOf}
use Rattle.message_model.specs.declared.model.Form.TheVariants as form
use Rattle.der_codec.proofs.CutSpots.{value_leaf}
use Rattle.der_codec.proofs.limits.value_at.Goals as goal

pub returns-in-Some-Simple-clause-some : goal.returns-in-Some-Simple-clause-some
returns-in-Some-Simple-clause-some c =
    let at = types_of c.args.model.now c.args.number in
    let told = c.in-Some-Simple in
    let e : told.field-0 ≡ form.Simple told.simple = (let a = told.field-0-is in let b = told.simple-is in cc) in
    let is : IsFormOf (Some (form.Simple told.simple)) at = subst (λ z. IsFormOf (Some z) at) e told.ensures.form in
    value_leaf c.args.model.now c.args.number told.simple c.type_count.ensures.sound c.type_count.ensures.sorted is
