-- One more declaration is kept, with the place of the former one.
use Rattle.std.proofs.Common.{◌≡◌, ℕ, List, Some, sym, ap, ◌∙◌}
use Rattle.std.specs.Bool.{if◌then◌else◌}
use Rattle.std.specs.Str.{bytes_eq}
use Rattle.markup.specs.inner.Bindings.{place_in}
use Rattle.markup.proofs.BindingLemmas.{binds_more, places_updated}
use Rattle.markup.proofs.bindings.Bindings.declare.Goals as goal

pub returns : goal.returns
returns c declared given is declares_it same =
    let key_is : c.in_ok-key.key.items ≡ c.args.prefix.now = c.in_ok-key.ensures.items in
    let kept_is = c.from_vec-prefix.ensures ∙ c.in_ok-from_slice.ensures.items in
    binds_more declared given c.args.self.now (record { alloc = c.args.self.now.alloc; «open» = c.push.new.self; latest = c.insert.new.self }) c.from_vec-prefix.result c.in_ok-namespace.namespace c.in_ok-former.former c.len.result
    is (declares_it ∙ ap Some (sym kept_is)) (same ∙ sym c.in_ok-namespace.ensures) (c.in_ok-former.ensures.old ∙ ap (place_in c.args.self.now.latest) (key_is ∙ sym kept_is)) c.len.ensures c.in_ok-push.ensures
    (λ q. places_updated c.in_ok-key.key.items c.args.self.now.latest c.insert.new.self (Some c.len.result) c.in_ok-former.ensures.updates q
    ∙ ap (λ (p : List ℕ). if bytes_eq p q then Some c.len.result else place_in c.args.self.now.latest q) (key_is ∙ sym kept_is))
