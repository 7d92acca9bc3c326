use Rattle.std.proofs.Common.{◌≡◌, Some, subst}
use Rattle.message_model.specs.Tables.{types_of}
use Rattle.message_model.specs.Views.{IsFormOf}
use Rattle.message_model.specs.declared.model.Form.TheVariants as form
use Rattle.der_model.specs.DerMessage.{der_message}
use Rattle.der_codec.proofs.ContentsJudged.{money_judged, money_text}
use Rattle.der_codec.proofs.contents.judge_number.Goals as goal

pub judge_simple-requires-clause-limits : goal.judge_simple-requires-clause-limits
judge_simple-requires-clause-limits c =
    let at = types_of c.args.model.now c.args.number in
    let told = c.in-Some-Money in
    let e : told.field-0 ≡ form.Money told.field-0-0 told.base = (let a = told.field-0-is in let b = told.base-is in cc) in
    let is : IsFormOf (Some (form.Money told.field-0-0 told.base)) at = subst (λ z. IsFormOf (Some z) at) e told.ensures.form in
    (c.type_count.ensures.sound c.args.number).limits told.base.now (money_text at told.field-0-0 told.base is)

pub judge_simple-requires-clause-made : goal.judge_simple-requires-clause-made
judge_simple-requires-clause-made c =
    let at = types_of c.args.model.now c.args.number in
    let told = c.in-Some-Money in
    let e : told.field-0 ≡ form.Money told.field-0-0 told.base = (let a = told.field-0-is in let b = told.base-is in cc) in
    let is : IsFormOf (Some (form.Money told.field-0-0 told.base)) at = subst (λ z. IsFormOf (Some z) at) e told.ensures.form in
    (types_of c.args.model.now, money_text at told.field-0-0 told.base is, c.requires.made)

pub returns-in-Some-Money-clause-made : goal.returns-in-Some-Money-clause-made
returns-in-Some-Money-clause-made c =
    let at = types_of c.args.model.now c.args.number in
    let told = c.in-Some-Money in
    let e : told.field-0 ≡ form.Money told.field-0-0 told.base = (let a = told.field-0-is in let b = told.base-is in cc) in
    let is : IsFormOf (Some (form.Money told.field-0-0 told.base)) at = subst (λ z. IsFormOf (Some z) at) e told.ensures.form in
    c.judge_simple.ensures.made (types_of c.args.model.now) (money_text at told.field-0-0 told.base is) c.requires.made

pub returns-in-Some-Money-clause-judged : goal.returns-in-Some-Money-clause-judged
returns-in-Some-Money-clause-judged c =
    let at = types_of c.args.model.now c.args.number in
    let told = c.in-Some-Money in
    let e : told.field-0 ≡ form.Money told.field-0-0 told.base = (let a = told.field-0-is in let b = told.base-is in cc) in
    let is : IsFormOf (Some (form.Money told.field-0-0 told.base)) at = subst (λ z. IsFormOf (Some z) at) e told.ensures.form in
    money_judged (der_message c.args.model.now) at told.field-0-0 told.base c.args.octets.now c.judge_simple.result is c.judge_simple.ensures.judged

pub returns-in-Some-Money-clause-within : goal.returns-in-Some-Money-clause-within
returns-in-Some-Money-clause-within c = λ bytes h plain few prim is.
    let at = types_of c.args.model.now c.args.number in
    let told = c.in-Some-Money in
    let e : told.field-0 ≡ form.Money told.field-0-0 told.base = (let a = told.field-0-is in let b = told.base-is in cc) in
    let of : IsFormOf (Some (form.Money told.field-0-0 told.base)) at = subst (λ z. IsFormOf (Some z) at) e told.ensures.form in
    c.judge_simple.ensures.within bytes (λ wants. h c.args.number told.base.now (money_text at told.field-0-0 told.base of) wants) few is

pub returns-in-Some-Money-clause-room : goal.returns-in-Some-Money-clause-room
returns-in-Some-Money-clause-room c = λ bytes h. c.judge_simple.ensures.room (types_of c.args.model.now) bytes h
