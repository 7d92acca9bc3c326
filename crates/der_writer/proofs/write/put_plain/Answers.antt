-- Its slot is one of few, and its three pieces are written at once.
use Rattle.std.proofs.Common.{◌+◌, arith, refl, sym, ◌∙◌}
use Rattle.data_types.specs.LeafAnswers.{leaf_of}
use Rattle.inst_pool.specs.Pieces.{edge_of}
use Rattle.message_model.specs.Tables.{types_of}
use Rattle.der_writer.specs.inner.Measuring.{before_place}
use Rattle.der_writer.proofs.Plain.{few_slots}
use Rattle.der_writer.proofs.Putting.{put_three}
use Rattle.der_writer.proofs.write.put_plain.Goals as goal

pub push_plain-requires : goal.push_plain-requires
push_plain-requires c = few_slots (types_of c.args.model.now) (edge_of c.in-Some.element.edge) c.type_count-types.ensures.sound (sym c.is_plain.ensures ∙ c.if-not-is_plain.false)

pub returns-in-Ok-clause-put : goal.returns-in-Ok-clause-put
returns-in-Ok-clause-put c =
    put_three (types_of c.args.model.now) c.args.instance.now c.args.place (record { at = c.args.place.at + 3; next = c.in-Some.element.edge.slot + 1; left = c.args.place.left }) (edge_of c.in-Some.element.edge) (leaf_of c.in-Some.element.leaf)
    c.args.buffer.now c.push_plain.new.sink c.requires.place c.in-Some.ensures (sym c.is_plain.ensures ∙ c.if-not-is_plain.false) refl (omega arith) refl
    (c.in-Ok.ensures (before_place c.args.instance.now.region.pieces c.args.place.at) c.requires.place.next).appends
