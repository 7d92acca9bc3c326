-- A name that is not kept was not given.
use Rattle.std.proofs.Common.{◌≡◌, ◌∷◌, length, sym, ◌∙◌}
use Rattle.std.proofs.lemmas.Result.{IfOk-weaker}
use Rattle.asn1_model.specs.Names.{first_free}
use Rattle.asn1_model.specs.inner.Given.{HasGivenNames}
use Rattle.asn1_model.proofs.GivenLemmas.{plain_free}
use Rattle.asn1_model.proofs.given.Given.give.Goals as goal

pub returns-in-None : goal.returns-in-None
returns-in-None c taken kept count =
    let name = c.args.name.now in
    let after = c.give_plain.new.self in
    IfOk-weaker c.give_plain.result (λ given. (given.items ≡ name) × HasGivenNames after (given.items ∷ taken))
    (λ given. (given.items ≡ first_free (length taken) taken name 0) × HasGivenNames after (given.items ∷ taken))
    (λ given both. (both.0 ∙ plain_free c.args.self.now taken name kept (sym c.in-None.ensures), both.1)) (c.give_plain.ensures taken kept)
