-- The name at the place, or none.
use Rattle.std.proofs.Common.{◌∙◌}
use Rattle.asn1_model.proofs.TypeNameLemmas.{found_none}
use Rattle.asn1_model.proofs.type_names.TypeNames.name.Goals as goal

pub returns-in-None : goal.returns-in-None
returns-in-None c T are = c.new.ensures ∙ found_none c.args.self.now T c.args.number c.place.result are c.place.ensures c.in-None.ensures
