use Rattle.std.proofs.Common.{◌≡◌, Some, subst}
use Rattle.message_model.specs.Tables.{types_of}
use Rattle.message_model.specs.Views.{IsFormOf}
use Rattle.message_model.specs.declared.model.Form.TheVariants as form
use Rattle.der_model.specs.DerMessage.{der_message}
use Rattle.der_codec.proofs.LeavesKnown.{amount_held}
use Rattle.der_codec.proofs.known.is_amount.Goals as goal

pub returns-in-Some-Money : goal.returns-in-Some-Money
returns-in-Some-Money c = λ e.
    let at = types_of c.args.model.now c.args.number in
    let told = c.in-Some-Money in
    let same : told.field-0 ≡ form.Money told.field-0-0 told.base = (let a = told.field-0-is in let b = told.base-is in cc) in
    let is : IsFormOf (Some (form.Money told.field-0-0 told.base)) at = subst (λ z. IsFormOf (Some z) at) same told.ensures.form in
    amount_held (der_message c.args.model.now) at told.field-0-0 told.base c.args.octets.now is (c.is_decimal.ensures e)
