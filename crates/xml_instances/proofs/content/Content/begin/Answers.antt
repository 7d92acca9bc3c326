use Rattle.message_model.specs.Tables.{message_of, types_of}
use Rattle.xml_instances.proofs.Contents.{begun_simple, begun_money}
use Rattle.xml_instances.proofs.content.Content.begin.Goals as goal

pub returns-in-Some-Simple-clause-taken : goal.returns-in-Some-Simple-clause-taken
returns-in-Some-Simple-clause-taken c = begun_simple (message_of c.args.model.now) (types_of c.args.model.now c.args.number) c.in-Some-Simple.field-0 c.in-Some-Simple.simple c.begin_text.new.self c.begin_text.result c.in-Some-Simple.field-0-is c.in-Some-Simple.ensures.form c.begin_text.ensures.taken

pub returns-in-Some-Money-clause-taken : goal.returns-in-Some-Money-clause-taken
returns-in-Some-Money-clause-taken c = begun_money (message_of c.args.model.now) (types_of c.args.model.now c.args.number) c.in-Some-Money.field-0 c.in-Some-Money.field-0-0 c.in-Some-Money.base c.begin_text-in-Some-Money.new.self c.begin_text-in-Some-Money.result c.in-Some-Money.field-0-is c.in-Some-Money.ensures.form c.begin_text-in-Some-Money.ensures.taken
