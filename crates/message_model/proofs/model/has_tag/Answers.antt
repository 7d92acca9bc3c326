use Rattle.std.proofs.Common.{length, refl, sym, ap, ◌∙◌}
use Rattle.std.specs.Option.{option_map}
use Rattle.std.proofs.lemmas.Slice.Eq.{bytes_eq-Decides}
use Rattle.std.proofs.lemmas.Option.{slice_get-map, slice_get_read}
use Rattle.message_model.specs.Views.{slot_info}
use Rattle.message_model.proofs.model.has_tag.Goals as goal

pub returns-in-Some : goal.returns-in-Some
returns-in-Some c h =
    let read = slice_get_read c.args.slots.now (length c.args.slots.now) c.args.at c.in-Some.slot.now refl c.in-Some.ensures.lookup.3.0 c.in-Some.ensures.lookup.1 in
    (slot_info c.in-Some.slot.now, slice_get-map slot_info c.args.slots.now c.args.at ∙ ap (option_map slot_info) read, sym c.bytes.ensures ∙ (bytes_eq-Decides _ _).0 (sym c.are_same.ensures ∙ h))
