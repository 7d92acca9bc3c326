use Rattle.std.proofs.Common.{length, refl}
use Rattle.std.proofs.lemmas.Option.{slice_get_read, slice_get_past}
use Rattle.message_model.proofs.Numbering.{numbered, has_number}
use Rattle.message_model.proofs.numbers.number_of.Goals as goal

pub returns-in_default-get : goal.returns-in_default-get
returns-in_default-get c places are stands =
    absurd (has_number c.args.repository.now c.place.ensures.whole places c.args.numbers.now c.args.id.now c.in-Some.place are stands c.in-Some.ensures.found
    (slice_get_past c.args.numbers.now c.in-Some.place c.in_default-get.ensures.lookup.3))

pub returns : goal.returns
returns c places are stands =
    numbered c.args.repository.now c.place.ensures.whole places c.args.numbers.now c.args.id.now c.in-Some.place c.in-Some-get.number.now are stands c.in-Some.ensures.found
    (slice_get_read c.args.numbers.now (length c.args.numbers.now) c.in-Some.place c.in-Some-get.number.now refl c.in-Some-get.ensures.lookup.3.0 c.in-Some-get.ensures.lookup.1)
