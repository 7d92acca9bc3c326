use Rattle.std.proofs.Common.{rules}
use Rattle.message_model.specs.Tables.{message_of, types_of}
use Rattle.xml_instances.specs.Open.{path_round}
use Rattle.xml_instances.proofs.Contents.{text_ended}
use Rattle.xml_instances.proofs.GoingOn.{text_leaf}
use Rattle.xml_instances.proofs.content.Content.leaf_ending.Goals as goal

pub returns-in-Some-Text-clause-taken : goal.returns-in-Some-Text-clause-taken
returns-in-Some-Text-clause-taken c l e q s =
    text_ended (message_of c.args.model.now) c.args.self.now.text c.args.self.now.innermost e l (path_round (types_of c.args.model.now) c.args.self.now.round.items) c.text_ending.result (search rules) q s c.text_ending.ensures.taken

pub returns-in-Some-Text-clause-shown : goal.returns-in-Some-Text-clause-shown
returns-in-Some-Text-clause-shown c l e q s = text_leaf (message_of c.args.model.now) c.args.self.now.text c.args.self.now.innermost e l c.text_ending.result c.args.self.now.pieces c.text_ending.new.self.pieces (search rules) q s c.text_ending.ensures.shown
