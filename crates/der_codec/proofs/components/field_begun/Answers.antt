use Rattle.std.proofs.Common.{◌≡◌, sym, subst}
use Rattle.der_octets.specs.TagSteps.{tag_view}
use Rattle.message_model.specs.Tables.{types_of, message_of}
use Rattle.der_model.specs.DerMessage.{in_der}
use Rattle.der_model.specs.Structures as structures
use Rattle.der_model.specs.Structures.{structure}
use Rattle.der_model.specs.States.{identifier_answer}
use Rattle.der_codec.specs.Levels.{IsSpot}
use Rattle.der_codec.specs.Components.{IsFound}
use Rattle.der_codec.specs.declared.components.Found.TheVariants.{Begins}
use Rattle.der_codec.proofs.Runs.{some_each}
use Rattle.der_codec.proofs.components.field_begun.Goals as goal

pub returns-in-Value : goal.returns-in-Value
returns-in-Value c = some_each c.field_of_type.result c.field_of_type.ensures (λ field h fragment l is.
    let m = in_der fragment (message_of c.args.model.now) in
    let spot : l.spot ≡ structures.Value c.in-Value.number = subst (λ z. IsSpot (types_of c.args.model.now) z l.spot) c.in-Value.is is.spot in
    subst (λ z. IsFound (types_of c.args.model.now) (Begins field.number field.spot) (identifier_answer (structure m z) l.came c.args.id.constructed (tag_view c.args.id))) (sym spot) (h fragment l.came is.next))
