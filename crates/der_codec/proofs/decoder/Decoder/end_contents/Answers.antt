use Rattle.std.proofs.Common.{subst}
use Rattle.der_codec.specs.Levels.{inwards}
use Rattle.der_codec.specs.Decoding.{Reads}
use Rattle.der_codec.proofs.ContentsSteps.{contents_clean}
use Rattle.der_codec.proofs.decoder.Decoder.end_contents.Goals as goal

pub returns-clause-read : goal.returns-clause-read
returns-clause-read c = λ m bytes more r size held.
    let s = c.args.self.now in
    let xs = inwards s.levels.items in
    contents_clean m xs c.args.spot c.args.left c.new.result s.start s.place bytes more (subst (λ z. Reads m xs z s.start s.place bytes) c.requires.due r) size held c.new.ensures
