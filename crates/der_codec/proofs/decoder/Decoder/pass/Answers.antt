use Rattle.std.proofs.Common.{◌-◌, ◌+◌, ◌++◌, subst, arith}
use Rattle.der_codec.specs.Levels.{inwards}
use Rattle.der_codec.specs.Decoding.{Reads}
use Rattle.der_codec.specs.declared.decoder.Due.TheVariants as due
use Rattle.der_codec.proofs.ContentsSteps.{contents_read}
use Rattle.der_codec.proofs.decoder.Decoder.pass.Goals as goal

pub returns-clause-read : goal.returns-clause-read
returns-clause-read c = λ m bytes more r size.
    let s = c.args.self.now in
    let xs = inwards s.levels.items in
    let r1 = subst (λ z. Reads m xs z s.start s.place bytes) c.requires.due r in
    let fits = c.requires.count in
    subst (λ z. Reads m xs (due.Contents c.args.spot (c.args.left - z)) s.start (s.place + z) (bytes ++ more)) size
    (contents_read m xs c.args.spot c.args.left s.start s.place bytes more (omega arith) r1)
