-- The name of the innermost element is the one that is told.
use Rattle.std.proofs.Common.{◌∷◌, sym, ap, subst, ◌∙◌}
use Rattle.std.specs.Result.{OnOk}
use Rattle.markup.specs.EventItems.{Tells}
use Rattle.markup.specs.Events.{namespace_of, expanded_in, end_tag_items, element_name}
use Rattle.markup.specs.Scopes.{placed_at}
use Rattle.markup.specs.declared.tag.Spelled.{Spelled}
use Rattle.markup.proofs.scope.Scope.end.Goals as goal

pub returns-clause-tells : goal.returns-clause-tells
returns-clause-tells c tag tags is named =
    subst (λ o. OnOk c.tell_end.result (Tells c.args.out.now c.tell_end.new.out (placed_at c.args.place (end_tag_items o))))
    (ap (λ n. expanded_in n c.args.name.local) (c.in_ok-namespace.ensures (tag ∷ tags) is.declared ∙ ap (namespace_of (tag ∷ tags)) c.bytes.ensures) ∙ ap (λ (n : Spelled). element_name (tag ∷ tags) n) (sym named))
    c.tell_end.ensures.ok
