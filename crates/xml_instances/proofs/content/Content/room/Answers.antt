use Rattle.std.proofs.Common.{rules, ◌≡◌, Option, Some, sym, subst, ◌∙◌}
use Rattle.message_model.specs.Tables.{types_of}
use Rattle.xml_instances.specs.declared.content.quick.Room.TheVariants.{Blanks}
use Rattle.xml_instances.specs.declared.opened.Opened.{Opened}
use Rattle.xml_instances.specs.declared.opened.Opened.TheVariants as opened
use Rattle.xml_instances.specs.inner.Quick.{IsRoomIn}
use Rattle.xml_instances.proofs.content.Content.room.Goals as goal

pub returns-in-Some-Envelope : goal.returns-in-Some-Envelope
returns-in-Some-Envelope c =
    let e : c.args.self.now.innermost ≡ Some (opened.Envelope c.in-Some-Envelope.field-0-0) = search rules in
    subst (λ (o : Option Opened). IsRoomIn (types_of c.args.model.now) o Blanks) (sym e) tt

pub returns-else-is_bare : goal.returns-else-is_bare
returns-else-is_bare c =
    let e : c.args.self.now.innermost ≡ Some (opened.Parent c.in-Some-Parent.number c.in-Some-Parent.field-0-1 c.in-Some-Parent.field-0-2) = search rules in
    subst (λ (o : Option Opened). IsRoomIn (types_of c.args.model.now) o Blanks) (sym e) (sym c.is_bare.ensures ∙ c.if-is_bare.false)
