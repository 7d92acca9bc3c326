use Rattle.std.proofs.Common.{◌≡◌, length, sym, ap, ◌∙◌, eqb-true}
use Rattle.der_model.specs.LeafContents.{integer_octets}
use Rattle.der_codec.proofs.CodeNumbers.{one_octet}
use Rattle.der_codec.proofs.known.digit_of.Goals as goal

pub returns : goal.returns
returns c =
    let none : length c.in-Some.behind.now ≡ 0 = eqb-true (length c.in-Some.behind.now) 0 (sym c.is_empty.ensures ∙ c.if-not-is_empty.false) in
    one_octet c.in-Some.first.now c.args.octets.now c.in-Some.behind.now c.in-Some.ensures.cases.0 none c.if-first-ge128.false ∙ ap integer_octets (sym c.from.ensures)
