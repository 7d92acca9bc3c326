use Rattle.std.proofs.Common.{◌+◌, length, ap, arith}
use Rattle.data_types.specs.Value.{Holds}
use Rattle.message_model.specs.Tables.{types_of}
use Rattle.der_writer.specs.inner.Heads.{before_view}
use Rattle.der_writer.specs.inner.PieceOctets.{leaf_octets}
use Rattle.der_writer.proofs.KnownStages.{bytes_at, knows_free, piece_there, size_there, size_within}
use Rattle.der_writer.proofs.lengths.fill.Goals as goal

pub filled_size-filled-requires : goal.filled_size-filled-requires
filled_size-filled-requires c =
    let ps = c.args.instance.now.region.pieces in
    let p = piece_there ps c.args.at c.requires.place in
    let size = size_within p.0 c.args.size (size_there ps c.args.at c.args.size p.0 p.1 c.requires.size) in
    let bytes = bytes_at ps c.args.at p.0 p.1 in
    let all = c.count-count.ensures.bounded.bytes in
    let most = c.count-count.ensures.bounded.byte_limit in
    omega (arith, size, bytes, all, most)

pub returns-clause-known : goal.returns-clause-known
returns-clause-known c l there s k =
    let size = size_there c.args.instance.now.region.pieces c.args.at c.args.size (Holds l) there c.requires.size in
    knows_free c.args.instance.now c.args.at c.args.pass.kept c.args.pass.ended c.args.pass.sum _ s k (length (leaf_octets (types_of c.args.model.now) (before_view c.args.before) l)) (ap (λ z. c.args.pass.sum + z) (c.filled_size-filled.ensures.size l size.0))

pub returns-clause-most : goal.returns-clause-most
returns-clause-most c p there =
    let size = size_within p c.args.size (size_there c.args.instance.now.region.pieces c.args.at c.args.size p there c.requires.size) in
    omega (arith, size, c.filled_size-filled.ensures.most)
