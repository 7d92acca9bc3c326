use Rattle.message_model.proofs.TypeForms.{object_typed}
use Rattle.message_model.proofs.object_types.object_type.Goals as goal

pub returns-clause-typed : goal.returns-clause-typed
returns-clause-typed c m id places found are can =
    object_typed c.args.repository.now m places id c.args.object.now _ found (c.in_ok-layout.ensures.layout places are can) c.in_ok-copy.ensures c.in_ok-copy-2.ensures
