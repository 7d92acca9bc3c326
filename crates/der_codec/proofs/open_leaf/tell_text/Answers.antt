use Rattle.std.proofs.Common.{refl, ap}
use Rattle.reference_check.specs.Forms.{text_type}
use Rattle.message_model.specs.Tables.{types_of}
use Rattle.der_codec.proofs.OpenSpots.{leaf_under, told_simple}
use Rattle.der_codec.proofs.open_leaf.tell_text.Goals as goal

pub end_text-requires-clause-made : goal.end_text-requires-clause-made
end_text-requires-clause-made c = (types_of c.args.model.now, ap text_type c.in-Some.ensures.typed, c.requires.made)

pub end_text-requires-clause-opened : goal.end_text-requires-clause-opened
end_text-requires-clause-opened c =
    let g = c.requires.opened in
    (g.0, leaf_under (types_of c.args.model.now c.args.number) c.in-Some.simple.now _ _ c.args.rest.now g.0 c.in-Some.ensures.typed refl g.1)

pub returns-in-Some-clause-made : goal.returns-in-Some-clause-made
returns-in-Some-clause-made c = c.end_text.ensures.made (types_of c.args.model.now) (ap text_type c.in-Some.ensures.typed) c.requires.made

pub returns-in-Some-clause-told : goal.returns-in-Some-clause-told
returns-in-Some-clause-told c = λ octets h.
    let T = c.args.model.now in
    let n = c.args.number in
    let simple = c.in-Some.simple.now in
    let typed = c.in-Some.ensures.typed in
    told_simple T n simple octets c.end_text.result typed (c.end_text.ensures.told octets (leaf_under (types_of T n) simple _ _ c.args.rest.now octets typed refl h))
