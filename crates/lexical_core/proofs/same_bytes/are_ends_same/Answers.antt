use Rattle.std.proofs.Common.{refl}
use Rattle.lexical_core.proofs.SameWords.{ends_decide}
use Rattle.lexical_core.proofs.same_bytes.are_ends_same.Goals as goal

pub returns-then-are_words_same : goal.returns-then-are_words_same
returns-then-are_words_same g c = ends_decide g.row.N _ c.args.left.now c.args.right.now c.requires.lengths c.requires.covers.0 c.requires.covers.1 (c.if-are_words_same.ensures.0 refl) c.are_words_same-then-are_words_same.ensures
