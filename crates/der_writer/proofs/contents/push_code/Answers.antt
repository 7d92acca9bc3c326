use Rattle.std.proofs.Common.{◌++◌, length, ap, ◌∙◌}
use Rattle.der_writer.specs.inner.Heads.{head_octets}
use Rattle.der_writer.proofs.CodeOctets.{octets_1, octets_2, octets_3, octets_4, octets_5}
use Rattle.der_writer.proofs.Pairs.{same_text}
use Rattle.der_writer.proofs.contents.push_code.Goals as goal

pub returns-then-place-lt128 : goal.returns-then-place-lt128
returns-then-place-lt128 g c =
    same_text g.O.Sink.held g.O.Sink.faults g.O.Sink.room _ _ (ap (λ z. head_octets c.args.head (length z) ++ z) (c.as_slice.ensures ∙ octets_1 c.args.place c.if-place-lt128.true)) _ _ c.push_contents.result c.push_contents.ensures

pub returns-then-place-lt32768 : goal.returns-then-place-lt32768
returns-then-place-lt32768 g c =
    same_text g.O.Sink.held g.O.Sink.faults g.O.Sink.room _ _ (ap (λ z. head_octets c.args.head (length z) ++ z) (c.as_slice-then-place-lt32768.ensures ∙ octets_2 c.args.place c.if-place-lt128.false c.if-place-lt32768.true)) _ _
    c.push_contents-then-place-lt32768.result c.push_contents-then-place-lt32768.ensures

pub returns-then-place-lt8388608 : goal.returns-then-place-lt8388608
returns-then-place-lt8388608 g c =
    same_text g.O.Sink.held g.O.Sink.faults g.O.Sink.room _ _ (ap (λ z. head_octets c.args.head (length z) ++ z) (c.as_slice-then-place-lt8388608.ensures ∙ octets_3 c.args.place c.if-place-lt32768.false c.if-place-lt8388608.true)) _ _
    c.push_contents-then-place-lt8388608.result c.push_contents-then-place-lt8388608.ensures

pub returns-then-place-lt2147483648 : goal.returns-then-place-lt2147483648
returns-then-place-lt2147483648 g c =
    same_text g.O.Sink.held g.O.Sink.faults g.O.Sink.room _ _ (ap (λ z. head_octets c.args.head (length z) ++ z) (c.as_slice-then-place-lt2147483648.ensures ∙ octets_4 c.args.place c.if-place-lt8388608.false c.if-place-lt2147483648.true)) _ _
    c.push_contents-then-place-lt2147483648.result c.push_contents-then-place-lt2147483648.ensures

pub returns : goal.returns
returns g c =
    same_text g.O.Sink.held g.O.Sink.faults g.O.Sink.room _ _ (ap (λ z. head_octets c.args.head (length z) ++ z) (c.as_slice-2.ensures ∙ octets_5 c.args.place c.if-place-lt2147483648.false c.ranges.place.fits)) _ _ c.push_contents-2.result c.push_contents-2.ensures
