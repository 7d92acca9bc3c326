use Rattle.std.proofs.lemmas.Simd.{length-chunk}
use Rattle.lexical_core.proofs.SameWords.{vectors_decide}
use Rattle.lexical_core.proofs.same_bytes.are_words_same.Goals as goal

pub returns : goal.returns
returns g c = vectors_decide g.row.N _ _ (length-chunk c.args.at g.row.N c.args.left.now c.requires.left) (length-chunk c.args.at g.row.N c.args.right.now c.requires.right) c.requires.few
