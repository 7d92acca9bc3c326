use Rattle.std.proofs.Common.{ap}
use Rattle.std.specs.Option.{option_map}
use Rattle.inst_pool.specs.Pieces.{Region}
use Rattle.der_codec.proofs.RoomFronts.{kept_front}
use Rattle.der_codec.proofs.laws.what_is_kept_is_a_front.Goals as goal

pub returns : goal.returns
returns c = λ T reader bytes behind v sound made h short spelled.
    let keeping = made.1 h.given.sound in
    let front = kept_front T reader.checker bytes behind keeping.region v sound h.given keeping.is short spelled in
    (keeping.region.pieces, front.0, ap (option_map (λ (region : Region). region.pieces)) keeping.is, front.1)
