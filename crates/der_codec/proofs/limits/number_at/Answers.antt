use Rattle.std.proofs.Common.{◌≡◌, Some, subst}
use Rattle.message_model.specs.Tables.{types_of}
use Rattle.message_model.specs.Views.{IsFormOf}
use Rattle.message_model.specs.declared.model.Form.TheVariants as form
use Rattle.der_codec.proofs.CutSpots.{number_leaf}
use Rattle.der_codec.proofs.limits.number_at.Goals as goal

pub returns-in-Some-Money-clause-some : goal.returns-in-Some-Money-clause-some
returns-in-Some-Money-clause-some c =
    let at = types_of c.args.model.now c.args.number in
    let told = c.in-Some-Money in
    let e : told.field-0 ≡ form.Money told.field-0-0 told.base = (let a = told.field-0-is in let b = told.base-is in cc) in
    let is : IsFormOf (Some (form.Money told.field-0-0 told.base)) at = subst (λ z. IsFormOf (Some z) at) e told.ensures.form in
    number_leaf c.args.model.now c.args.number told.field-0-0 told.base c.type_count.ensures.sound c.type_count.ensures.sorted is
