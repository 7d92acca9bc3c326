use Rattle.std.proofs.Common.{◌≤◌, arith}
use Rattle.std.specs.List.{prefix_len}
use Rattle.markup.specs.PlainTags.{continues_plain}
use Rattle.markup.proofs.InsideRuns.{in_part, start_still, end_still, attribute_still}
use Rattle.markup.proofs.inside.part_length.Goals as goal

pub returns-in_default : goal.returns-in_default
returns-in_default c =
    let k = in_part c.args.part c.in_default.not-Colon in
    let h : c.name_length.result ≤ prefix_len continues_plain c.args.piece.now = omega (arith, c.name_length.ensures.count) in
    record {
      within = c.name_length.ensures.within;
      name = start_still c.args.part k c.args.piece.now c.name_length.result h;
      attribute = attribute_still c.args.part k c.args.piece.now c.name_length.result h;
      end = end_still c.args.part k c.args.piece.now c.name_length.result h;
    }
