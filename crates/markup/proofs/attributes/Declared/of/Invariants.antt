-- The attributes from the place on are looked at.
use Rattle.std.proofs.Common.{◌≡◌, ◌≤◌, ◌+◌, List, length, map, drop}
use Rattle.std.specs.List.{list_any}
use Rattle.markup.specs.inner.Bindings.{Binds}
use Rattle.markup.specs.Scopes.{declarations}
use Rattle.markup.specs.declared.tag.Given.{Given}
use Rattle.markup.specs.inner.TagParts.{tag_given, declares_badly, AreDeclared}
use Rattle.markup.proofs.attributes.Declared.of.Given as goal

abbrev pub invariant-loop-at : goal.invariant-loop-at
invariant-loop-at l = (l.at ≤ length l.given) × (l.declared.count + l.at ≤ length l.given)
    × (l.declared.count ≡ length (declarations (map tag_given (drop l.at l.given)))) × (l.declared.is_bad ≡ list_any declares_badly (map tag_given (drop l.at l.given)))
    × ((before : List Given) → Binds l.fn.bindings before → AreDeclared before (map tag_given (drop l.at l.given)) l.declared l.bindings)

abbrev pub decreases-loop-at : goal.decreases-loop-at
decreases-loop-at l = l.at
