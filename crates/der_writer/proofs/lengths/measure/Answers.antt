use Rattle.std.proofs.Common.{◌≡◌, sym, ap, ◌∙◌, subst}
use Rattle.fragments.specs.Fragment.{fragment}
use Rattle.message_model.specs.Tables.{types_of, pieces_of}
use Rattle.der_writer.specs.inner.PieceOctets.{Begun, document_edge}
use Rattle.der_writer.specs.inner.Passes.{stage}
use Rattle.der_writer.specs.inner.Measuring.{Knows}
use Rattle.der_writer.proofs.CountsLast.{has_counts}
use Rattle.der_writer.proofs.lengths.measure.Goals as goal

pub returns-clause-measured : goal.returns-clause-measured
returns-clause-measured c v admits is =
    let T = c.args.model.now in
    let mid = c.measure_pieces-pass.new.instance in
    let new = c.keep_whole.new.instance in
    let pass = c.measure_pieces-pass.result in
    let old : c.args.instance.now.region.pieces ≡ pieces_of fragment T v = sym (ap (λ r. r.pieces) c.measure_pieces-pass.ensures.region) ∙ (sym (ap (λ r. r.pieces) c.keep_whole.ensures.region) ∙ is) in
    has_counts T v mid new pass.kept pass.ended pass.sum c.type_count-types.ensures.root admits is c.keep_whole.ensures.region
    (subst (λ z. Knows mid 0 pass.kept pass.ended pass.sum (stage (types_of T) (Begun document_edge) z)) old c.measure_pieces-pass.ensures.known)
    c.keep_whole.ensures.size c.keep_whole.ensures.lens c.keep_whole.ensures.groups
