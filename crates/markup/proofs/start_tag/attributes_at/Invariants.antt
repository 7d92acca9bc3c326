-- The attributes before what is left are given, and what is left is the last of those that are there.
use Rattle.std.proofs.Common.{length, map}
use Rattle.markup.specs.inner.TagParts.{tag_given}
use Rattle.markup.specs.inner.WholeStarts.{AreGiven, AreLeft}
use Rattle.markup.proofs.start_tag.attributes_at.Given as goal

abbrev pub invariant-loop-attribute : goal.invariant-loop-attribute
invariant-loop-attribute l = AreGiven l.bytes (map tag_given l.found.items) l.left × AreLeft l.bytes l.left

abbrev pub decreases-loop-attribute : goal.decreases-loop-attribute
decreases-loop-attribute l = length l.left
