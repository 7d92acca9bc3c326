use Rattle.std.proofs.Common.{◌∷◌, [], ◌+◌, ◌/◌, ◌%◌, ap, sym, ◌∙◌}
use Rattle.der_octets.proofs.TagFronts.{one_octet, two_octets, three_octets}
use Rattle.der_writer.specs.inner.Heads.{tag_of}
use Rattle.der_writer.proofs.Pairs.{same_text}
use Rattle.der_writer.proofs.heads.push_identifier.Goals as goal

pub returns-then-number-lt31 : goal.returns-then-number-lt31
returns-then-number-lt31 g c =
    same_text g.O.Sink.held g.O.Sink.faults g.O.Sink.room _ _ (c.as_slice.ensures ∙ (ap (λ z. (z + c.args.head.number) ∷ []) c.bits-bits.ensures.bits ∙ sym (one_octet c.args.head.constructed (tag_of c.args.head) c.if-number-lt31.true)))
    _ _ c.push_bytes.result c.push_bytes.ensures.push

pub returns-then-number-lt128 : goal.returns-then-number-lt128
returns-then-number-lt128 g c =
    same_text g.O.Sink.held g.O.Sink.faults g.O.Sink.room _ _ (c.as_slice-then-number-lt128.ensures ∙ (ap (λ z. (z + 31) ∷ c.args.head.number ∷ []) c.bits-bits.ensures.bits ∙ sym (two_octets c.args.head.constructed (tag_of c.args.head) c.if-number-lt31.false c.if-number-lt128.true)))
    _ _ c.push_bytes-then-number-lt128.result c.push_bytes-then-number-lt128.ensures.push

pub returns : goal.returns
returns g c =
    same_text g.O.Sink.held g.O.Sink.faults g.O.Sink.room _ _ (c.as_slice-2.ensures ∙ (ap (λ z. (z + 31) ∷ (128 + c.args.head.number / 128) ∷ (c.args.head.number % 128) ∷ []) c.bits-bits.ensures.bits ∙ sym (three_octets c.args.head.constructed (tag_of c.args.head) c.if-number-lt128.false c.args.head.short)))
    _ _ c.push_bytes-2.result c.push_bytes-2.ensures.push
