-- By the first three fields.
use Rattle.std.proofs.Common.{sym, ◌∙◌, true≢false}
use Rattle.csv.specs.Records.{fields_of}
use Rattle.code_sets.proofs.Records.{least_one, least_two, least_three, sound_two, first_none, second_none, third_some, two_fields, look_up}
use Rattle.code_sets.proofs.read.judged.Goals as goal

pub returns-in_default-clause-err : goal.returns-in_default-clause-err
returns-in_default-clause-err c = least_one (fields_of c.args.row.now) (first_none (fields_of c.args.row.now) (sym c.in_default.ensures.value))

pub returns-in_default-get-clause-err : goal.returns-in_default-get-clause-err
returns-in_default-get-clause-err c = least_one (fields_of c.args.row.now) (second_none (fields_of c.args.row.now) (sym c.in_default-get.ensures.value))

pub returns-then-is_some-clause-err : goal.returns-then-is_some-clause-err
returns-then-is_some-clause-err c =
    least_one (fields_of c.args.row.now) (third_some (fields_of c.args.row.now) (look_up c.get-3.result _ _ c.get-3.ensures.value (sym c.is_some.ensures ∙ c.if-is_some.true)))

pub returns-then-not-is_text-clause-err : goal.returns-then-not-is_text-clause-err
returns-then-not-is_text-clause-err c =
    let none = look_up c.get-3.result _ _ c.get-3.ensures.value (sym c.is_some.ensures ∙ c.if-is_some.false) in
    let e = two_fields (fields_of c.args.row.now) c.in-Some.set.now c.in-Some-get.code.now (sym c.in-Some.ensures.value) (sym c.in-Some-get.ensures.value) none in
    least_two (fields_of c.args.row.now) c.in-Some.set.now c.in-Some-get.code.now e (λ a b. true≢false (sym (c.is_text.ensures.1 a) ∙ c.if-not-is_text.true))

pub returns-then-not-is_text-2-clause-err : goal.returns-then-not-is_text-2-clause-err
returns-then-not-is_text-2-clause-err c =
    let none = look_up c.get-3.result _ _ c.get-3.ensures.value (sym c.is_some.ensures ∙ c.if-is_some.false) in
    let e = two_fields (fields_of c.args.row.now) c.in-Some.set.now c.in-Some-get.code.now (sym c.in-Some.ensures.value) (sym c.in-Some-get.ensures.value) none in
    least_two (fields_of c.args.row.now) c.in-Some.set.now c.in-Some-get.code.now e (λ a b. true≢false (sym (c.is_text-2.ensures.1 b) ∙ c.if-not-is_text-2.true))

pub returns-then-not-is_code-clause-err : goal.returns-then-not-is_code-clause-err
returns-then-not-is_code-clause-err c =
    let none = look_up c.get-3.result _ _ c.get-3.ensures.value (sym c.is_some.ensures ∙ c.if-is_some.false) in
    let e = two_fields (fields_of c.args.row.now) c.in-Some.set.now c.in-Some-get.code.now (sym c.in-Some.ensures.value) (sym c.in-Some-get.ensures.value) none in
    least_three (fields_of c.args.row.now) c.in-Some.set.now c.in-Some-get.code.now e (c.is_text.ensures.0 c.if-not-is_text.false) (c.is_text-2.ensures.0 c.if-not-is_text-2.false)
    (λ a. true≢false (sym (c.is_code.ensures.1 a) ∙ c.if-not-is_code.true))

pub returns-clause-ok : goal.returns-clause-ok
returns-clause-ok c =
    let none = look_up c.get-3.result _ _ c.get-3.ensures.value (sym c.is_some.ensures ∙ c.if-is_some.false) in
    let e = two_fields (fields_of c.args.row.now) c.in-Some.set.now c.in-Some-get.code.now (sym c.in-Some.ensures.value) (sym c.in-Some-get.ensures.value) none in
    (e, sound_two (fields_of c.args.row.now) c.in-Some.set.now c.in-Some-get.code.now e (c.is_text.ensures.0 c.if-not-is_text.false) (c.is_text-2.ensures.0 c.if-not-is_text-2.false) (c.is_code.ensures.0 c.if-not-is_code.false))
