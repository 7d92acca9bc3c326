-- The bytes so far stand for themselves.
use Rattle.std.proofs.Common.{◌≡◌, ◌++◌, take, drop}
use Rattle.asn1_model.specs.ModuleText.{comment_text}
use Rattle.asn1_writer.proofs.comment.plain_count.Given as goal

abbrev pub invariant-loop-count : goal.invariant-loop-count
invariant-loop-count l = comment_text l.text ≡ take l.count l.text ++ comment_text (drop l.count l.text)
