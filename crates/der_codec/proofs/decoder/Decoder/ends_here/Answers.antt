use Rattle.std.proofs.Common.{sym}
use Rattle.der_codec.specs.Levels.{inwards}
use Rattle.der_codec.specs.Decoding.{end_of_first}
use Rattle.der_codec.proofs.Nested.{fresh_within, not_at_end}
use Rattle.der_codec.proofs.decoder.Decoder.ends_here.Goals as goal

pub returns-then-end-self : goal.returns-then-end-self
returns-then-end-self c = record {
  no = λ is m bytes r fresh.
      let s = c.args.self.now in
      let xs = inwards s.levels.items in
      not_at_end (end_of_first xs) s.place c.in-Some.end (sym c.in-Some.ensures) (fresh_within m xs s.due s.start s.place bytes fresh r) c.if-end-self.true;
}
