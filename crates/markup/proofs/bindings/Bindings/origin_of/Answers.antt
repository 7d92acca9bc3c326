-- A declaration binds the prefix, or it is bound without one.
use Rattle.std.proofs.Common.{[], sym, ap, ◌∙◌}
use Rattle.std.specs.Option.{option_or}
use Rattle.markup.specs.inner.Ranks.{no_binding}
use Rattle.markup.specs.Events.{namespace_of}
use Rattle.markup.specs.Scopes.{all_declarations}
use Rattle.markup.proofs.BindingLemmas.{namespace_at, unbound}
use Rattle.markup.proofs.Lookups.{namespace_is}
use Rattle.markup.proofs.bindings.Bindings.origin_of.Goals as goal

pub returns-in-Some : goal.returns-in-Some
returns-in-Some c tags is =
    ap (λ o. option_or o (namespace_of [] c.args.prefix.now))
    (namespace_at (all_declarations tags) c.args.self.now.open c.args.prefix.now c.in-Some.place.now no_binding is.open_are (sym (is.latest_are c.args.prefix.now) ∙ sym c.in-Some.ensures.value))
    ∙ sym (namespace_is tags c.args.prefix.now)

pub returns-in-None : goal.returns-in-None
returns-in-None c tags is =
    c.origin_ahead.ensures c.args.self.now
    ∙ ap (λ o. option_or o (namespace_of [] c.args.prefix.now)) (sym (unbound (all_declarations tags) c.args.prefix.now (sym (is.latest_are c.args.prefix.now) ∙ sym c.in-None.ensures.value)))
    ∙ sym (namespace_is tags c.args.prefix.now)
