-- The name is among those that were given, with the ending 1 to try next.
use Rattle.std.proofs.Common.{◌≡◌, ℕ, ◌∷◌, List, Some, sym, ap, subst, ◌∙◌}
use Rattle.std.specs.Bool.{if◌then◌else◌}
use Rattle.std.specs.Str.{bytes_eq}
use Rattle.lexical_core.proofs.ByteKeys.{found_updated}
use Rattle.asn1_model.specs.inner.Given.{HasGivenNames, ending_of}
use Rattle.asn1_model.proofs.GivenLemmas.{given_plain}
use Rattle.asn1_model.proofs.given.Given.give_plain.Goals as goal

pub returns : goal.returns
returns c taken kept =
    let old = c.args.self.now in
    let new = record old { endings = c.insert.new.self } in
    let key_is : c.in_ok-key.key.items ≡ c.args.name.now = c.in_ok-key.ensures.items in
    let is : c.in_ok-given.given.items ≡ c.args.name.now = c.in_ok-given.ensures.items in (
      is,
      subst (λ (n : List ℕ). HasGivenNames new (n ∷ taken)) (sym is)
          (given_plain old new taken c.args.name.now kept
          (λ q. found_updated c.in_ok-key.key.items old.endings c.insert.new.self (Some 1) c.in_ok-insert.ensures.updates q
          ∙ ap (λ (p : List ℕ). if bytes_eq p q then Some 1 else ending_of old.endings q) key_is)),
    )
