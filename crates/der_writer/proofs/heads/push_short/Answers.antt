use Rattle.std.proofs.Common.{◌∷◌, [], ◌+◌, ◌++◌, ap, ap₂, sym, ◌∙◌}
use Rattle.der_octets.proofs.TagFronts.{one_octet}
use Rattle.der_writer.specs.inner.Heads.{tag_of}
use Rattle.der_writer.proofs.HeadLemmas.{short_is}
use Rattle.der_writer.proofs.Pairs.{same_text}
use Rattle.der_writer.proofs.heads.push_short.Goals as goal

pub returns : goal.returns
returns g c =
    let text = ap (λ z. (z + c.args.head.number) ∷ c.args.len ∷ []) c.bits.ensures.bits ∙ ap₂ (λ x y. x ++ y) (sym (one_octet c.args.head.constructed (tag_of c.args.head) c.requires.number)) (short_is c.args.len c.requires.len) in
    same_text g.O.Sink.held g.O.Sink.faults g.O.Sink.room _ _ (c.as_slice.ensures ∙ text) _ _ c.push_bytes.result c.push_bytes.ensures.push
