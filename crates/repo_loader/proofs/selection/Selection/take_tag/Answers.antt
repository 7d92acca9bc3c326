-- The start of the tag is read, and of an empty element the end.
use Rattle.std.proofs.Common.{[], ◌∷◌, ◌∙◌, sym, map, if◌then◌else◌}
use Rattle.lexical_core.specs.Tree.{Expanded, Starts, Ends}
use Rattle.markup.specs.TagAttributes.{tag_entry}
use Rattle.markup.specs.Events.{Placed}
use Rattle.markup.specs.Scopes.{placed_at}
use Rattle.repo_loader.proofs.EventSteps.{broken_on, ends_behind}
use Rattle.repo_loader.proofs.selection.Selection.take_tag.Goals as goal

pub returns-then-is_some : goal.returns-then-is_some
returns-then-is_some c told h =
    let name : Expanded = record { namespace = c.bytes.result.now; local = c.args.tag.now.name.now } in
    let starts : Placed = record { place = c.args.place; item = Starts name (map tag_entry c.as_slice.result.now) } in
    rw (sym c.bytes.ensures, sym c.as_slice.ensures.value)
    (broken_on c.take_start.new.self told (placed_at c.args.place (if c.args.tag.now.is_empty then Ends name ∷ [] else [])) starts c.in_ok-fault.fault (sym c.is_some.ensures ∙ c.if-is_some.true) (c.in_ok-fault.ensures told h))

pub returns-then-tag : goal.returns-then-tag
returns-then-tag c told h =
    let name : Expanded = record { namespace = c.bytes.result.now; local = c.args.tag.now.name.now } in
    let starts : Placed = record { place = c.args.place; item = Starts name (map tag_entry c.as_slice.result.now) } in
    rw (c.if-tag.true, sym c.bytes.ensures, sym c.as_slice.ensures.value)
    (ends_behind c.take_start.new.self c.take_end.new.self told starts c.args.place name c.in_ok-fault.fault (sym c.is_some.ensures ∙ c.if-is_some.false) (c.in_ok-fault.ensures told h) (λ so_far l. c.take_end.ensures so_far c.args.place name l))
