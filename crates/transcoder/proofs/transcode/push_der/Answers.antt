use Rattle.std.proofs.Common.{ap, ◌∙◌}
use Rattle.inst_pool.specs.Pieces.{Region}
use Rattle.transcoder.proofs.transcode.push_der.Goals as goal

pub write_der-requires-clause-held : goal.write_der-requires-clause-held
write_der-requires-clause-held g c =
    let held = c.requires.held in
    (held.0, held.1, ap (λ (r : Region). r.pieces) c.measure.ensures.same ∙ held.2)
