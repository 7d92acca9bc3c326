use Rattle.std.proofs.Common.{◌≡◌, false, true}
use Rattle.message_model.specs.Tables.{types_of}
use Rattle.der_codec.specs.inner.Elements.{has_slots}
use Rattle.der_codec.proofs.LastSpots.{none_shown, slot_shown}
use Rattle.std.proofs.Common.{sym}
use Rattle.der_codec.proofs.elements.target_element.Goals as goal

pub returns-then-not-has_slots : goal.returns-then-not-has_slots
returns-then-not-has_slots c = λ comp found is. (let T = types_of c.args.model.now in let e : has_slots (T c.args.parent) ≡ false = (let a = c.if-not-has_slots.true in let b = c.has_slots.ensures in cc) in sym (none_shown c.args.parent c.args.slot (T c.args.parent) e))

pub returns : goal.returns
returns c = λ comp found is. (let T = types_of c.args.model.now in let e : has_slots (T c.args.parent) ≡ true = (let a = c.if-not-has_slots.false in let b = c.has_slots.ensures in cc) in slot_shown T c.args.parent c.args.target c.args.slot (T c.args.parent) comp e found is)
