use Rattle.std.proofs.Common.{◌≡◌, sym, subst}
use Rattle.message_model.specs.Tables.{types_of, message_of}
use Rattle.der_model.specs.DerMessage.{in_der}
use Rattle.der_model.specs.Structures as structures
use Rattle.der_model.specs.Structures.{structure}
use Rattle.der_model.specs.States.{end_answer}
use Rattle.der_codec.specs.Levels.{IsSpot}
use Rattle.der_codec.specs.Components.{IsEnded}
use Rattle.der_codec.proofs.value_ends.end_of.Goals as goal

pub returns-in-Instance : goal.returns-in-Instance
returns-in-Instance c = λ fragment l is.
    let m = in_der fragment (message_of c.args.model.now) in
    let spot : l.spot ≡ structures.Instance = subst (λ z. IsSpot (types_of c.args.model.now) z l.spot) c.in-Instance.is is.spot in
    subst (λ z. IsEnded (types_of c.args.model.now) c.end_of_type.result (end_answer (structure m z) l.came)) (sym spot) (c.end_of_type.ensures fragment l.came is.next)

pub returns-in-Value : goal.returns-in-Value
returns-in-Value c = λ fragment l is.
    let m = in_der fragment (message_of c.args.model.now) in
    let spot : l.spot ≡ structures.Value c.in-Value.number = subst (λ z. IsSpot (types_of c.args.model.now) z l.spot) c.in-Value.is is.spot in
    subst (λ z. IsEnded (types_of c.args.model.now) c.end_of_type-in-Value.result (end_answer (structure m z) l.came)) (sym spot) (c.end_of_type-in-Value.ensures fragment l.came is.next)
