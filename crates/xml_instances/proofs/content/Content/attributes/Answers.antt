use Rattle.std.proofs.Common.{rules, map}
use Rattle.markup.specs.TagAttributes.{tag_entry}
use Rattle.message_model.specs.Tables.{types_of, message_of}
use Rattle.xml_instances.specs.Open.{path_round}
use Rattle.xml_instances.proofs.Contents.{unknown_said, money_said, money_form}
use Rattle.xml_instances.proofs.GoingOn.{code_of_form}
use Rattle.xml_instances.proofs.content.Content.attributes.Goals as goal

pub returns-then-has_unknown-clause-taken : goal.returns-then-has_unknown-clause-taken
returns-then-has_unknown-clause-taken c =
    unknown_said (Unit {0}) (message_of c.args.model.now) (types_of c.args.model.now c.args.number) (map tag_entry c.args.attrs.now) (path_round (types_of c.args.model.now) c.args.self.now.round.items) c.is_money-money.result c.refused.result (c.is_money-money.ensures (types_of c.args.model.now c.args.number) c.form-form.ensures.form) (search rules) c.refused.ensures

pub currency-requires-clause-code : goal.currency-requires-clause-code
currency-requires-clause-code c =
    c.type_count.ensures.codes c.args.number c.in-Some-Money.code c.in-Some-Money.field-0-1.now
    (money_form (types_of c.args.model.now c.args.number) c.in-Some-Money.field-0 c.in-Some-Money.code c.in-Some-Money.field-0-1 (search rules) (search rules))

pub returns-in-Some-Money-clause-taken : goal.returns-in-Some-Money-clause-taken
returns-in-Some-Money-clause-taken c =
    let f = money_form (types_of c.args.model.now c.args.number) c.in-Some-Money.field-0 c.in-Some-Money.code c.in-Some-Money.field-0-1 (search rules) (search rules) in
    money_said (message_of c.args.model.now) (types_of c.args.model.now c.args.number) c.in-Some-Money.code c.in-Some-Money.field-0-1.now (map tag_entry c.args.attrs.now) (path_round (types_of c.args.model.now) c.args.self.now.round.items) c.is_money-money.result c.currency.result f
    (c.is_money-money.ensures (types_of c.args.model.now c.args.number) c.form-form.ensures.form) (search rules) c.currency.ensures.taken

pub returns-in-Some-Money-clause-shown : goal.returns-in-Some-Money-clause-shown
returns-in-Some-Money-clause-shown c =
    let f = money_form (types_of c.args.model.now c.args.number) c.in-Some-Money.field-0 c.in-Some-Money.code c.in-Some-Money.field-0-1 (search rules) (search rules) in
    code_of_form c.args.model.now (types_of c.args.model.now c.args.number) c.in-Some-Money.code c.in-Some-Money.field-0-1.now (map tag_entry c.args.attrs.now) c.args.self.now.pieces c.currency.new.self.pieces c.currency.result f
    c.currency.ensures.shown
