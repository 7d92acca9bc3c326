use Rattle.std.proofs.Common.{◌++◌, length, ap}
use Rattle.der_model.proofs.RealWritten.{real_is}
use Rattle.der_writer.specs.inner.Heads.{head_octets}
use Rattle.der_writer.proofs.Pairs.{same_text}
use Rattle.der_writer.proofs.contents.push_real.Goals as goal

pub returns : goal.returns
returns g c =
    same_text g.O.Sink.held g.O.Sink.faults g.O.Sink.room _ _ (ap (λ z. head_octets c.args.head (length z) ++ z) (real_is _ c.args.number c.scale-scale.ensures.decimal c.nr3_into-length.ensures.contents)) _ _ c.push_contents.result c.push_contents.ensures
