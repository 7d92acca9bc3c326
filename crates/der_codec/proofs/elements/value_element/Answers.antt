use Rattle.std.proofs.Common.{subst}
use Rattle.message_model.specs.Tables.{types_of}
use Rattle.der_model.specs.DerMessage.{der_message}
use Rattle.der_codec.specs.Levels.{IsSpot}
use Rattle.der_codec.specs.inner.Elements.{edge_if}
use Rattle.der_codec.proofs.LastSpots.{none_came, value_came, other_came, list_other, instance_other, number_other}
use Rattle.der_codec.proofs.elements.value_element.Goals as goal

pub returns-then-next-eq0 : goal.returns-then-next-eq0
returns-then-next-eq0 c = λ of came at next last. none_came (der_message c.args.model.now) c.args.parent of came c.args.next c.if-next-eq0.true next

pub returns-in-Value : goal.returns-in-Value
returns-in-Value c = λ of came at next last.
    value_came (der_message c.args.model.now) c.args.parent c.in-Value.target c.args.next of came (edge_if c.target_element.result) c.target_element.ensures (subst (λ z. IsSpot (types_of c.args.model.now) z of) c.in-Value.is at) next last

pub returns-in-Instance : goal.returns-in-Instance
returns-in-Instance c = λ of came at next last. other_came (der_message c.args.model.now) c.args.parent of came (λ t. instance_other (types_of c.args.model.now) t of (subst (λ z. IsSpot (types_of c.args.model.now) z of) c.in-Instance.is at)) last

pub returns-in-List : goal.returns-in-List
returns-in-List c = λ of came at next last. other_came (der_message c.args.model.now) c.args.parent of came (λ t. list_other (types_of c.args.model.now) _ _ t of (subst (λ z. IsSpot (types_of c.args.model.now) z of) c.in-List.is at)) last

pub returns-in-Number : goal.returns-in-Number
returns-in-Number c = λ of came at next last. other_came (der_message c.args.model.now) c.args.parent of came (λ t. number_other (types_of c.args.model.now) _ t of (subst (λ z. IsSpot (types_of c.args.model.now) z of) c.in-Number.is at)) last
