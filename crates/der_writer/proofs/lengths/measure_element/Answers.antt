use Rattle.std.proofs.Common.{◌+◌, arith}
use Rattle.data_types.specs.Value.{Holds}
use Rattle.inst_pool.specs.Pieces.{edge_of}
use Rattle.message_model.specs.Tables.{types_of}
use Rattle.der_writer.proofs.KnownStages.{bytes_at}
use Rattle.der_writer.proofs.SimpleStages.{simple_bytes}
use Rattle.der_writer.proofs.lengths.measure_element.Goals as goal

pub measure_simple-requires-clause-few : goal.measure_simple-requires-clause-few
measure_simple-requires-clause-few c =
    let is = c.requires.simple in
    let few = is.few in
    let bytes = bytes_at c.args.instance.now.region.pieces (c.args.at + 1) (Holds is.leaf) is.there.holds in
    let all = c.count-count.ensures.bounded.bytes in
    let most = c.count-count.ensures.bounded.byte_limit in
    omega (arith, few, bytes, all, most)

pub measure_plain-requires-clause-few : goal.measure_plain-requires-clause-few
measure_plain-requires-clause-few c =
    let is = c.requires.simple in
    let few = is.few in
    let bytes = bytes_at c.args.instance.now.region.pieces (c.args.at + 1) (Holds is.leaf) is.there.holds in
    let all = c.count-count.ensures.bounded.bytes in
    let most = c.count-count.ensures.bounded.byte_limit in
    omega (arith, few, bytes, all, most)

pub returns-clause-most : goal.returns-clause-most
returns-clause-most c =
    let bytes = simple_bytes (types_of c.args.model.now) c.args.instance.now.region.pieces c.args.at (edge_of c.args.element.edge) c.args.element.size c.requires.simple in
    let most = c.measure_simple.ensures.most in
    omega (arith, bytes, most)

pub returns-then-is_plain-clause-most : goal.returns-then-is_plain-clause-most
returns-then-is_plain-clause-most c =
    let bytes = simple_bytes (types_of c.args.model.now) c.args.instance.now.region.pieces c.args.at (edge_of c.args.element.edge) c.args.element.size c.requires.simple in
    let most = c.measure_plain.ensures.most in
    omega (arith, bytes, most)
