use Rattle.std.proofs.Common.{refl}
use Rattle.xml_instances.proofs.KeptPieces.{told_flat, envelope_shown, kept_as}
use Rattle.xml_instances.proofs.pieces.Pieces.envelope.Goals as goal

pub returns : goal.returns
returns c = rw (← c.self.view_is) (λ s h. (
  _,
  (c.text.result.now, (λ tree is. c.text.ensures s.inside tree h.inside_are (told_flat tree s.inside is)), refl),
  envelope_shown (kept_as c.self.inside.builder.pieces c.self.inside.element) s c.text.result.now c.hold_bytes.new.builder.pieces c.new.result h c.new.ensures c.in_ok-hold_bytes.ensures.ok,
))
