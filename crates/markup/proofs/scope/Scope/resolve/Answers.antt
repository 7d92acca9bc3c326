-- The parts of the tag and its expanded attributes are those of the whole tag.
use Rattle.std.proofs.Common.{map, length, sym, ap, ◌∙◌, subst}
use Rattle.std.specs.List.{list_any}
use Rattle.markup.specs.Scopes.{declarations, all_declarations}
use Rattle.markup.specs.inner.TagParts.{tag_given, declares_badly, AreDeclared}
use Rattle.markup.proofs.ScopeLemmas.{resolved}
use Rattle.markup.proofs.scope.Scope.resolve.Goals as goal

pub returns : goal.returns
returns c tags tag is_scope is_name is_given =
    let same = c.as_slice.ensures.value in
    resolved tags tag c.args.self.now (map tag_given c.args.attributes.now.items) c.in_ok-parts.parts c.of.new.bindings c.args.prefix.now c.in_ok-namespace.namespace c.in_ok-expanded.expanded c.of-2.new.attributes.items
    is_scope is_given (c.in_ok-parts.ensures.bad ∙ ap (λ xs. list_any declares_badly (map tag_given xs)) same)
    (subst (λ xs. AreDeclared (all_declarations tags) (map tag_given xs) c.in_ok-parts.parts c.of.new.bindings) same (c.in_ok-parts.ensures.kept (all_declarations tags) is_scope.declared))
    (c.in_ok-parts.ensures.count ∙ ap (λ xs. length (declarations (map tag_given xs))) same) (sym is_name) c.in_ok-namespace.ensures c.in_ok-expanded.ensures
