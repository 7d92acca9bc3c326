use Rattle.std.proofs.Common.{refl}
use Rattle.message_model.specs.Tables.{types_of}
use Rattle.der_codec.specs.declared.open_leaf.OpenLeaf.TheVariants as opens
use Rattle.der_codec.proofs.OpenSpots.{leaf_under, told_simple}
use Rattle.der_codec.proofs.open_leaf.tell_binary.Goals as goal

pub count_octets-requires : goal.count_octets-requires
count_octets-requires c =
    let g = c.requires in
    (leaf_under (types_of c.args.model.now c.args.number) c.in-Some.simple.now opens.Binary opens.Binary g.0 g.1 c.in-Some.ensures.typed refl g.2).0

pub returns-in-Some : goal.returns-in-Some
returns-in-Some c = λ rest octets h size.
    let T = c.args.model.now in
    let n = c.args.number in
    let simple = c.in-Some.simple.now in
    let typed = c.in-Some.ensures.typed in
    told_simple T n simple octets c.count_octets.result typed (c.count_octets.ensures octets (leaf_under (types_of T n) simple opens.Binary opens.Binary rest octets typed refl h).2 size)
