use Rattle.std.proofs.Common.{◌≡◌, Some, refl, subst}
use Rattle.message_model.specs.Tables.{types_of}
use Rattle.message_model.specs.Views.{IsFormOf}
use Rattle.message_model.specs.declared.model.Form.TheVariants as form
use Rattle.der_model.specs.DerMessage.{der_message}
use Rattle.der_codec.proofs.ContentsJudged.{simple_judged, simple_text, envelope_judged, no_envelope}
use Rattle.der_codec.proofs.contents.judge_value.Goals as goal

pub judge_simple-requires-clause-limits : goal.judge_simple-requires-clause-limits
judge_simple-requires-clause-limits c =
    let at = types_of c.args.model.now c.args.number in
    let told = c.in-Some-Simple in
    let e : told.field-0 ≡ form.Simple told.simple = (let a = told.field-0-is in let b = told.simple-is in cc) in
    let is : IsFormOf (Some (form.Simple told.simple)) at = subst (λ z. IsFormOf (Some z) at) e told.ensures.form in
    (c.type_count.ensures.sound c.args.number).limits told.simple.now (simple_text at told.simple is)

pub judge_simple-requires-clause-made : goal.judge_simple-requires-clause-made
judge_simple-requires-clause-made c =
    let at = types_of c.args.model.now c.args.number in
    let told = c.in-Some-Simple in
    let e : told.field-0 ≡ form.Simple told.simple = (let a = told.field-0-is in let b = told.simple-is in cc) in
    let is : IsFormOf (Some (form.Simple told.simple)) at = subst (λ z. IsFormOf (Some z) at) e told.ensures.form in
    (types_of c.args.model.now, simple_text at told.simple is, c.requires.made)

pub returns-in-Some-Simple-clause-made : goal.returns-in-Some-Simple-clause-made
returns-in-Some-Simple-clause-made c =
    let at = types_of c.args.model.now c.args.number in
    let told = c.in-Some-Simple in
    let e : told.field-0 ≡ form.Simple told.simple = (let a = told.field-0-is in let b = told.simple-is in cc) in
    let is : IsFormOf (Some (form.Simple told.simple)) at = subst (λ z. IsFormOf (Some z) at) e told.ensures.form in
    c.judge_simple.ensures.made (types_of c.args.model.now) (simple_text at told.simple is) c.requires.made

pub returns-in-Some-Simple-clause-judged : goal.returns-in-Some-Simple-clause-judged
returns-in-Some-Simple-clause-judged c =
    let at = types_of c.args.model.now c.args.number in
    let told = c.in-Some-Simple in
    let e : told.field-0 ≡ form.Simple told.simple = (let a = told.field-0-is in let b = told.simple-is in cc) in
    let is : IsFormOf (Some (form.Simple told.simple)) at = subst (λ z. IsFormOf (Some z) at) e told.ensures.form in
    simple_judged (der_message c.args.model.now) (types_of c.args.model.now) c.args.number at told.simple c.args.octets.now c.judge_simple.result is c.judge_simple.ensures.judged

pub returns-in-Some-Envelope-clause-judged : goal.returns-in-Some-Envelope-clause-judged
returns-in-Some-Envelope-clause-judged c =
    let m = der_message c.args.model.now in
    let at = types_of c.args.model.now c.args.number in
    let told = c.in-Some-Envelope in
    let e : told.field-0 ≡ form.Envelope = (let a = told.field-0-is in cc) in
    let is : IsFormOf (Some form.Envelope) at = subst (λ z. IsFormOf (Some z) at) e told.ensures.form in
    envelope_judged m (types_of c.args.model.now) c.args.number at c.args.octets.now c.judge_envelope.result is (c.judge_envelope.ensures m refl)

pub returns-in-Some-Simple-clause-within : goal.returns-in-Some-Simple-clause-within
returns-in-Some-Simple-clause-within c = λ bytes h plain few prim is.
    let at = types_of c.args.model.now c.args.number in
    let told = c.in-Some-Simple in
    let e : told.field-0 ≡ form.Simple told.simple = (let a = told.field-0-is in let b = told.simple-is in cc) in
    let of : IsFormOf (Some (form.Simple told.simple)) at = subst (λ z. IsFormOf (Some z) at) e told.ensures.form in
    c.judge_simple.ensures.within bytes (λ wants. h c.args.number told.simple.now (simple_text at told.simple of) wants) few is

pub returns-in-Some-Simple-clause-room : goal.returns-in-Some-Simple-clause-room
returns-in-Some-Simple-clause-room c = λ bytes h. c.judge_simple.ensures.room (types_of c.args.model.now) bytes h

pub returns-in-Some-Envelope-clause-within : goal.returns-in-Some-Envelope-clause-within
returns-in-Some-Envelope-clause-within c = λ bytes h plain few prim is.
    let at = types_of c.args.model.now c.args.number in
    let told = c.in-Some-Envelope in
    let e : told.field-0 ≡ form.Envelope = (let a = told.field-0-is in cc) in
    let of : IsFormOf (Some form.Envelope) at = subst (λ z. IsFormOf (Some z) at) e told.ensures.form in
    no_envelope (types_of c.args.model.now) c.args.number plain of
