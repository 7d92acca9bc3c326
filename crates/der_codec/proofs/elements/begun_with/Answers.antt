use Rattle.std.proofs.Common.{◌∙◌}
use Rattle.der_model.specs.DerMessage.{der_message}
use Rattle.der_codec.specs.inner.Elements.{edges_of}
use Rattle.der_codec.proofs.LastSpots.{value_last}
use Rattle.der_codec.proofs.elements.begun_with.Goals as goal

pub returns-in-Value : goal.returns-in-Value
returns-in-Value c = value_last (der_message c.args.model.now) c.args.level.now c.args.spot c.in-Value.parent (edges_of c.one_element.result) c.in-Value.is c.requires (λ of came at next last. c.one_element.ensures ∙ c.value_element.ensures of came at next last)
