use Rattle.std.proofs.Common.{◌≡◌, ◌+◌, ◌≤◌, ◌<◌, ◌++◌, false, length, map}
use Rattle.std.specs.List.{flat_map}
use Rattle.markup.specs.EventItems.{entry_of}
use Rattle.fragments.specs.Plain.{AreSortedEntries}
use Rattle.fragments.specs.Fragment.{written_text, namespaces_of, attribute_written, needs_none}
use Rattle.respell.proofs.NumberingLemmas.{AreNumbered}
use Rattle.respell.proofs.spelling.push_attributes.Given as goal

abbrev pub invariant-loop-attr : goal.invariant-loop-attr
invariant-loop-attr l =
    (AreSortedEntries (map entry_of l.fn.attrs) → AreNumbered (map entry_of l.fn.attrs) (map entry_of l.left) l.last l.number
    × (l.text ++ flat_map written_text (map (attribute_written (namespaces_of (map entry_of l.fn.attrs))) (map entry_of l.left)) ≡ l.fn.text ++ flat_map written_text (map (attribute_written (namespaces_of (map entry_of l.fn.attrs))) (map entry_of l.fn.attrs))))
    × (needs_none l.last ≡ false → 0 < l.number) × (l.number + length l.left ≤ length l.fn.attrs)

abbrev pub decreases-loop-attr : goal.decreases-loop-attr
decreases-loop-attr l = length l.left
