use Rattle.std.proofs.Common.{refl, subst}
use Rattle.message_model.specs.Tables.{types_of}
use Rattle.der_model.specs.DerMessage.{der_message}
use Rattle.der_codec.specs.OpenLeaves.{IsOpenUnder}
use Rattle.der_codec.proofs.OpenSpots.{envelope_taken, told_envelope, told_no_text}
use Rattle.der_codec.proofs.open_leaf.OpenLeaf.tell.Goals as goal

pub returns-in-NoText-clause-told : goal.returns-in-NoText-clause-told
returns-in-NoText-clause-told c = λ octets h size.
    let f = types_of c.args.model.now c.args.number in
    told_no_text c.args.model.now c.args.number c.args.rest.now octets (subst (λ z. IsOpenUnder f z c.args.rest.now octets) c.in-NoText.is h)

pub returns-in-Envelope-clause-told : goal.returns-in-Envelope-clause-told
returns-in-Envelope-clause-told c = λ octets h size.
    let f = types_of c.args.model.now c.args.number in
    let opened = subst (λ z. IsOpenUnder f z c.args.rest.now octets) c.in-Envelope.is h in
    told_envelope c.args.model.now c.args.number _ c.args.rest.now octets c.tell_envelope.result opened (c.tell_envelope.ensures (der_message c.args.model.now) octets refl (envelope_taken f _ c.args.rest.now octets opened))
