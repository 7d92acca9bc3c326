use Rattle.std.proofs.Common.{refl, encode_utf8_all}
use Rattle.data_types.specs.Leaf.{Bytes}
use Rattle.facets.proofs.TextRules.{text_given}
use Rattle.facets.proofs.leaf_verdict.LeafVerdict.knows.Goals as goal

pub knows-requires-clause-made : goal.knows-requires-clause-made
knows-requires-clause-made c = let (text, had) = c.requires.made in (_, text, had.seen)

pub returns : goal.returns
returns c = λ r yes.
    let told = c.knows.ensures r yes in
    (Bytes (encode_utf8_all r.chars), text_given c.args.simple.now r.chars (Bytes (encode_utf8_all r.chars)) c.requires.free.0 c.requires.free.1 r.are told.0 told.1 (r.are, refl))
