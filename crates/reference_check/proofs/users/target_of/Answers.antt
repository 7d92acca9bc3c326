use Rattle.std.proofs.Common.{Some, sym, ap, ◌∙◌}
use Rattle.std.specs.Option.{option_copied}
use Rattle.reference_check.proofs.SearchAnswers.{target_tells}
use Rattle.reference_check.proofs.users.target_of.Goals as goal

pub returns-in-Some : goal.returns-in-Some
returns-in-Some c =
    target_tells c.args.repository.now c.args.element.now c.bytes.result.now c.place.result c.place.ensures.whole
    (sym c.only_reference.ensures ∙ (ap option_copied c.in-Some.is ∙ ap Some (sym c.bytes.ensures))) c.place.ensures.found c.place.ensures.there
