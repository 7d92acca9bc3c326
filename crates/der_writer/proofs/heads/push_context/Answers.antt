use Rattle.std.proofs.Common.{◌∷◌, [], ◌+◌, ◌++◌, refl, ap, ap₂, sym, ◌∙◌}
use Rattle.der_octets.specs.Octets.{context}
use Rattle.der_octets.proofs.TagFronts.{one_octet}
use Rattle.der_writer.proofs.HeadLemmas.{short_is}
use Rattle.der_writer.proofs.Pairs.{same_text}
use Rattle.der_writer.proofs.heads.push_context.Goals as goal

pub returns-then-is_low : goal.returns-then-is_low
returns-then-is_low g c =
    let low = c.if-is_low.ensures refl in
    let text = ap (λ z. (z + c.args.number) ∷ c.args.len ∷ []) c.context_bits-bits.ensures.bits ∙ ap₂ (λ x y. x ++ y) (sym (one_octet c.args.constructed (context c.args.number) low.0)) (short_is c.args.len low.1) in
    same_text g.O.Sink.held g.O.Sink.faults g.O.Sink.room _ _ (c.as_slice.ensures ∙ text) _ _ c.push_bytes.result c.push_bytes.ensures.push

pub returns : goal.returns
returns g c =
    same_text g.O.Sink.held g.O.Sink.faults g.O.Sink.room _ _ (c.context.ensures c.args.len) _ _ c.push_long.result c.push_long.ensures
