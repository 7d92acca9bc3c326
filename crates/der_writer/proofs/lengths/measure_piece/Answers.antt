use Rattle.std.proofs.Common.{◌+◌, drop, Some, sym, ap, ◌∙◌, subst, arith, add-one}
use Rattle.data_types.specs.Value.{Begins, Holds, Ends}
use Rattle.inst_pool.specs.Pieces.{edge_of}
use Rattle.message_model.specs.Tables.{types_of}
use Rattle.der_writer.specs.inner.Heads.{before_view}
use Rattle.der_writer.specs.inner.Passes.{piece_step, stage}
use Rattle.der_writer.specs.inner.Measuring.{Knows, before_place}
use Rattle.der_writer.proofs.StageBounds.{stage_beside, stage_within}
use Rattle.der_writer.proofs.KnownStages.{bytes_from, piece_there, begins_there, ends_there, holds_there, stage_at}
use Rattle.der_writer.proofs.lengths.measure_piece.Goals as goal

pub begin-requires-clause-known : goal.begin-requires-clause-known
begin-requires-clause-known c =
    let ps = c.args.instance.now.region.pieces in
    (stage (types_of c.args.model.now) (before_place ps (c.args.at + 1)) (drop (c.args.at + 1) ps), c.requires.known, (stage_within (types_of c.args.model.now) (before_place ps (c.args.at + 1)) (drop (c.args.at + 1) ps)).0)

pub returns-in-Begun-clause-known : goal.returns-in-Begun-clause-known
returns-in-Begun-clause-known c =
    let ps = c.args.instance.now.region.pieces in
    let g = types_of c.args.model.now in
    let s = stage g (before_place ps (c.args.at + 1)) (drop (c.args.at + 1) ps) in
    let p = piece_there ps c.args.at c.requires.place in
    let read = ap (before_place ps) (add-one c.args.at) ∙ sym c.read-seen.ensures.before in
    let is = begins_there p.0 (edge_of c.in-Begun.edge) (sym p.2 ∙ (read ∙ ap before_view c.in-Begun.is)) in
    let whole = stage_at g ps c.args.at (Begins (edge_of c.in-Begun.edge)) (p.1 ∙ ap (λ z. Some z) is) in
    subst (Knows c.begin.new.instance c.args.at c.begin.result.kept c.begin.result.ended c.begin.result.sum) (sym whole) (c.begin.ensures.known (before_place ps c.args.at) c.next_at.ensures s c.requires.known)

pub returns-in-Begun-clause-most : goal.returns-in-Begun-clause-most
returns-in-Begun-clause-most c =
    let p = piece_there c.args.instance.now.region.pieces c.args.at c.requires.place in
    let bytes = bytes_from c.args.instance.now.region.pieces c.args.at p.0 p.1 in
    omega (arith, bytes, c.begin.ensures.most)

pub returns-in-Filled-clause-known : goal.returns-in-Filled-clause-known
returns-in-Filled-clause-known c =
    let ps = c.args.instance.now.region.pieces in
    let g = types_of c.args.model.now in
    let s = stage g (before_place ps (c.args.at + 1)) (drop (c.args.at + 1) ps) in
    let p = piece_there ps c.args.at c.requires.place in
    let read = ap (before_place ps) (add-one c.args.at) ∙ sym c.read-seen.ensures.before in
    let is = holds_there p.0 (sym p.2 ∙ (read ∙ ap before_view c.in-Filled.is)) in
    let there = p.1 ∙ ap (λ z. Some z) is.1 in
    let whole = stage_at g ps c.args.at (Holds is.0) there in
    subst (Knows c.args.instance.now c.args.at c.fill.result.kept c.fill.result.ended c.fill.result.sum) (ap (λ b. piece_step g b (Holds is.0) (drop (c.args.at + 1) ps) s) c.before_at.ensures ∙ sym whole) (c.fill.ensures.known is.0 there s c.requires.known)

pub returns-in-Filled-clause-most : goal.returns-in-Filled-clause-most
returns-in-Filled-clause-most c =
    let p = piece_there c.args.instance.now.region.pieces c.args.at c.requires.place in
    let bytes = bytes_from c.args.instance.now.region.pieces c.args.at p.0 p.1 in
    let most = c.fill.ensures.most p.0 p.1 in
    omega (arith, bytes, most)

pub end-requires-clause-piece : goal.end-requires-clause-piece
end-requires-clause-piece c =
    let ps = c.args.instance.now.region.pieces in
    let p = piece_there ps c.args.at c.requires.place in
    let read = ap (before_place ps) (add-one c.args.at) ∙ sym c.read-seen.ensures.before in
    p.1 ∙ ap (λ z. Some z) (ends_there p.0 (edge_of c.in-Ended.edge) (sym p.2 ∙ (read ∙ ap before_view c.in-Ended.is)))

pub returns-in-Ended-clause-known : goal.returns-in-Ended-clause-known
returns-in-Ended-clause-known c =
    let ps = c.args.instance.now.region.pieces in
    let g = types_of c.args.model.now in
    let s = stage g (before_place ps (c.args.at + 1)) (drop (c.args.at + 1) ps) in
    let p = piece_there ps c.args.at c.requires.place in
    let read = ap (before_place ps) (add-one c.args.at) ∙ sym c.read-seen.ensures.before in
    let is = ends_there p.0 (edge_of c.in-Ended.edge) (sym p.2 ∙ (read ∙ ap before_view c.in-Ended.is)) in
    let whole = stage_at g ps c.args.at (Ends (edge_of c.in-Ended.edge)) (p.1 ∙ ap (λ z. Some z) is) in
    subst (Knows c.end.new.instance c.args.at c.end.result.kept c.end.result.ended c.end.result.sum) (sym whole)
    (c.end.ensures.known (before_place ps c.args.at) c.next_at-in-Ended.ensures s c.requires.known (stage_beside g (before_place ps (c.args.at + 1)) (drop (c.args.at + 1) ps)))

pub returns-in-Ended-clause-most : goal.returns-in-Ended-clause-most
returns-in-Ended-clause-most c =
    let p = piece_there c.args.instance.now.region.pieces c.args.at c.requires.place in
    let bytes = bytes_from c.args.instance.now.region.pieces c.args.at p.0 p.1 in
    omega (arith, bytes, c.end.ensures.most)
