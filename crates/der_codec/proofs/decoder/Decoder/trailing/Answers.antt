use Rattle.der_codec.specs.Levels.{inwards}
use Rattle.der_codec.proofs.InputEnds.{is_trailing}
use Rattle.der_codec.proofs.decoder.Decoder.trailing.Goals as goal

pub returns-clause-stopped : goal.returns-clause-stopped
returns-clause-stopped c = λ m bytes octet r.
    let s = c.args.self.now in
    is_trailing m (inwards s.levels.items) s.due s.start s.place bytes octet r c.requires

pub returns-clause-memory : goal.returns-clause-memory
returns-clause-memory c = λ is. absurd cc
