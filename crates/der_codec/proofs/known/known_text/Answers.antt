use Rattle.der_codec.proofs.LeavesJudged.{text_fits}
use Rattle.der_codec.proofs.known.known_text.Goals as goal

pub returns-then-is_known_text : goal.returns-then-is_known_text
returns-then-is_known_text c =
    let r = c.in-Some.ensures.some in
    let g = c.is_known_text.ensures r c.if-is_known_text.true in
    text_fits c.args.simple.now c.args.octets.now c.in-Some.count g.0 c.requires.free.0 c.requires.free.1 r g.1
