use Rattle.der_codec.specs.Levels.{inwards}
use Rattle.der_codec.proofs.InputEnds.{is_cut}
use Rattle.der_codec.proofs.decoder.Decoder.truncated.Goals as goal

pub returns : goal.returns
returns c = λ m bytes r low going. (let s = c.args.self.now in is_cut m (inwards s.levels.items) s.due s.start s.place bytes r low going)
