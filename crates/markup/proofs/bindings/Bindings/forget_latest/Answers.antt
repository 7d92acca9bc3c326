-- The map has of the prefix what it had before the declaration.
use Rattle.std.proofs.Common.{ℕ, List, Option, None, Some, refl, sym, ap, subst, ◌∙◌, append-nil}
use Rattle.std.specs.Bool.{if◌then◌else◌}
use Rattle.std.specs.Option.{IsSome}
use Rattle.std.specs.Str.{bytes_eq}
use Rattle.markup.specs.inner.Bindings.{place_in}
use Rattle.markup.proofs.BindingLemmas.{binds_less, binds_none, places_updated}
use Rattle.markup.proofs.bindings.Bindings.forget_latest.Goals as goal

pub returns-in_default : goal.returns-in_default
returns-in_default c declared is =
    let none = rw c.in_default.is at c.pop.ensures.none in
    let same = rw c.in_default.is at c.pop.ensures.items in
    binds_none declared c.args.self.now (record { alloc = c.args.self.now.alloc; «open» = c.pop.new.self; latest = c.args.self.now.latest }) is none (sym (append-nil c.pop.new.self) ∙ sym same ∙ none) refl

pub returns-in-Some-former : goal.returns-in-Some-former
returns-in-Some-former c declared is =
    binds_less declared c.args.self.now (record { alloc = c.args.self.now.alloc; «open» = c.pop.new.self; latest = c.set_place.new.places }) c.in-Some.last is c.in-Some.ensures.items
    (λ had q. c.set_place.ensures (subst (λ (p : List ℕ). IsSome (place_in c.args.self.now.latest p)) (sym c.bytes.ensures) (had c.in-Some-former.place c.in-Some-former.is)) q
    ∙ ap (λ (p : List ℕ). if bytes_eq p q then Some c.in-Some-former.place else place_in c.args.self.now.latest q) c.bytes.ensures
    ∙ ap (λ (o : Option ℕ). if bytes_eq c.in-Some.last.prefix q then o else place_in c.args.self.now.latest q) (sym c.in-Some-former.is))

pub returns : goal.returns
returns c declared is =
    binds_less declared c.args.self.now (record { alloc = c.args.self.now.alloc; «open» = c.pop.new.self; latest = c.remove.new.self }) c.in-Some.last is c.in-Some.ensures.items
    (λ had q. places_updated c.bytes-in-None.result.now c.args.self.now.latest c.remove.new.self None c.remove.ensures.updates q
    ∙ ap (λ (p : List ℕ). if bytes_eq p q then None else place_in c.args.self.now.latest q) c.bytes-in-None.ensures
    ∙ ap (λ (o : Option ℕ). if bytes_eq c.in-Some.last.prefix q then o else place_in c.args.self.now.latest q) (sym c.in-None.is))
