-- The attributes before are spelled.
use Rattle.std.proofs.Common.{◌≡◌, ◌++◌, drop, map}
use Rattle.markup.specs.inner.TagParts.{tag_given}
use Rattle.markup.proofs.attributes.spelled_attributes.Given as goal

abbrev pub invariant-loop-one : goal.invariant-loop-one
invariant-loop-one l = map tag_given l.attributes.items ++ drop l.one-index l.given ≡ l.given
