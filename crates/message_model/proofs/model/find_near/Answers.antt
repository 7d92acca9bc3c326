use Rattle.std.proofs.Common.{◌≡◌, ℕ, List, Some, refl, sym, ap, ◌∙◌}
use Rattle.reference_check.specs.Forms.{Slot}
use Rattle.reference_check.specs.Steps.{find_slot}
use Rattle.message_model.specs.inner.Quick.{HasTagAt, AreTagged}
use Rattle.message_model.specs.Views.{slots_view}
use Rattle.message_model.proofs.model.find_near.Goals as goal

found : (slots : List (Slot ℕ)) (at : ℕ) (tag : List ℕ) → AreTagged slots → HasTagAt slots at tag → Some at ≡ find_slot 0 slots tag
found slots at tag apart (s, there, same) = sym (apart at s there) ∙ ap (find_slot 0 slots) same

pub returns-then-has_tag : goal.returns-then-has_tag
returns-then-has_tag c = found (slots_view c.args.slots.now) _ c.args.tag.now c.requires.apart (c.if-has_tag.ensures refl)

pub returns-then-has_tag-2 : goal.returns-then-has_tag-2
returns-then-has_tag-2 c = found (slots_view c.args.slots.now) c.unwrap_or-near.result c.args.tag.now c.requires.apart (c.if-has_tag-2.ensures refl)

pub returns-in-Some-find : goal.returns-in-Some-find
returns-in-Some-find c = found (slots_view c.args.slots.now) c.in-Some-find.at c.args.tag.now c.requires.apart c.in-Some-find.ensures

pub returns-in-Some-find_ahead : goal.returns-in-Some-find_ahead
returns-in-Some-find_ahead c = found (slots_view c.args.slots.now) c.in-Some-find_ahead.at c.args.tag.now c.requires.apart c.in-Some-find_ahead.ensures
