-- The three pieces at the place are those of the element.
use Rattle.std.proofs.Common.{◌+◌, ◌≤◌, length, arith}
use Rattle.data_types.specs.LeafAnswers.{leaf_of}
use Rattle.inst_pool.specs.Pieces.{edge_of}
use Rattle.message_model.specs.Tables.{types_of}
use Rattle.xml_writer.proofs.ElementTexts.{element_within, element_writes, element_put}
use Rattle.xml_writer.proofs.elements.put_element.Goals as goal

pub put_simple-requires : goal.put_simple-requires
put_simple-requires c =
    element_writes c.args.instance.now.region.pieces c.args.place.at (edge_of c.in-Some.element.edge) (leaf_of c.in-Some.element.leaf) c.in-Some.ensures
    (types_of c.args.model.now) c.args.place.innermost c.requires.text

pub overflow_add-result : goal.overflow_add-result
overflow_add-result c =
    let within : c.args.place.at + 3 ≤ length c.args.instance.now.region.pieces =
    element_within c.args.instance.now.region.pieces c.args.place.at (edge_of c.in-Some.element.edge) (leaf_of c.in-Some.element.leaf) c.in-Some.ensures in
    let bounded = c.count-count.ensures.bounded in
    omega (arith, within, bounded.nodes, bounded.node_limit)

pub returns-clause-put : goal.returns-clause-put
returns-clause-put c =
    element_put c.args.instance.now.region.pieces c.args.place.at (edge_of c.in-Some.element.edge) (leaf_of c.in-Some.element.leaf) c.in-Some.ensures
    (types_of c.args.model.now) c.args.place.innermost c.args.buffer.now c.put_simple.new.buffer (c.put_simple.ensures.put c.if-not-put_simple.false)

pub returns-clause-within : goal.returns-clause-within
returns-clause-within c =
    element_within c.args.instance.now.region.pieces c.args.place.at (edge_of c.in-Some.element.edge) (leaf_of c.in-Some.element.leaf) c.in-Some.ensures
