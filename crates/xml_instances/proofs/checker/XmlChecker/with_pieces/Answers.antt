use Rattle.std.proofs.Common.{[], refl}
use Rattle.message_model.specs.Tables.{message_of, types_of}
use Rattle.xml_instances.proofs.GoingOn.{built_first, open_same, made_same}
use Rattle.xml_instances.proofs.UnusedJudges.{none_ended}
use Rattle.xml_instances.proofs.checker.XmlChecker.with_pieces.Goals as goal

pub returns-clause-made : goal.returns-clause-made
returns-clause-made c = made_same (types_of c.args.model.now) c.new-content.result c.keep_pieces.new.self c.keep_pieces.ensures.checks c.keep_pieces.ensures.text c.keep_pieces.ensures.innermost c.new-content.ensures.made

pub returns-clause-fed : goal.returns-clause-fed
returns-clause-fed c = record {
  told = [];
  given = c.new.ensures.taken;
  counted = c.new.ensures.none;
  placed = refl;
  fine = tt;
  open_are = open_same (message_of c.args.model.now) c.new-content.result c.keep_pieces.new.self [] c.keep_pieces.ensures.text c.keep_pieces.ensures.innermost c.keep_pieces.ensures.round c.new-content.ensures.open;
  built = built_first c.args.model.now c.keep_pieces.new.self.pieces c.keep_pieces.ensures.shown;
  none = c.new-2.ensures;
  sound = refl;
}

pub returns-clause-leaves : goal.returns-clause-leaves
returns-clause-leaves c = none_ended (types_of c.args.model.now) _ (made_same (types_of c.args.model.now) c.new-content.result c.keep_pieces.new.self c.keep_pieces.ensures.checks c.keep_pieces.ensures.text c.keep_pieces.ensures.innermost c.new-content.ensures.made)
