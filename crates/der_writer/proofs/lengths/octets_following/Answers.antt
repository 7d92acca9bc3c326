use Rattle.std.proofs.Common.{◌∙◌, sym}
use Rattle.inst_pool.specs.Pieces.{edge_of}
use Rattle.message_model.specs.Tables.{types_of}
use Rattle.der_writer.proofs.KnownStages.{following_begun, following_other, following_plain}
use Rattle.der_writer.proofs.lengths.octets_following.Goals as goal

pub returns : goal.returns
returns c =
    let there = rw c.in-Some-Open.field-0-is at c.in-Some-Open.ensures in
    c.group.ensures ∙ following_begun (types_of c.args.model.now) c.args.instance.now c.args.at c.args.kept c.args.slot (edge_of c.in-Some-Open.edge) (sym there) c.if-edge-slot.false (sym c.is_plain.ensures ∙ c.if-is_plain.false) c.if-kept-eq0.false

pub returns-then-edge-slot : goal.returns-then-edge-slot
returns-then-edge-slot c =
    let there = rw c.in-Some-Open.field-0-is at c.in-Some-Open.ensures in
    following_other (types_of c.args.model.now) c.args.instance.now c.args.at c.args.kept c.args.slot (edge_of c.in-Some-Open.edge) (sym there) c.if-edge-slot.true

pub returns-then-is_plain : goal.returns-then-is_plain
returns-then-is_plain c =
    let there = rw c.in-Some-Open.field-0-is at c.in-Some-Open.ensures in
    following_plain (types_of c.args.model.now) c.args.instance.now c.args.at c.args.kept c.args.slot (edge_of c.in-Some-Open.edge) (sym there) c.if-edge-slot.false (sym c.is_plain.ensures ∙ c.if-is_plain.true)
