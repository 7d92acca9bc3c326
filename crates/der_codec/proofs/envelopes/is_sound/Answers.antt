use Rattle.der_codec.proofs.envelopes.is_sound.Goals as goal

pub returns-clause-sound : goal.returns-clause-sound
returns-clause-sound c =
    let made = c.type_count.ensures in
    c.tables_are_sound.ensures c.args.model.now made.sound made.codes made.sorted made.root c.one_tree.ensures
