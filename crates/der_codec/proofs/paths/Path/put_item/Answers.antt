use Rattle.std.proofs.Common.{[], ◌∷◌, ◌++◌, subst}
use Rattle.std.specs.Prelude.{slice_get}
use Rattle.std.proofs.lemmas.Result.{on_ok_weaker}
use Rattle.reference_check.specs.Forms.{form_slots}
use Rattle.message_model.specs.Tables.{types_of}
use Rattle.der_model.specs.States.{Numbered}
use Rattle.der_codec.specs.inner.OpenNames.{HasNames}
use Rattle.der_codec.proofs.PathsWritten.{item_whole}
use Rattle.der_codec.proofs.paths.Path.put_item.Goals as goal

pub returns : goal.returns
returns c = λ names h.
    let types = types_of c.args.model.now in
    let slot = c.in-Some.slot in
    on_ok_weaker c.put_alternative.result
    (λ q. subst (HasNames types c.put_alternative.new.self) (item_whole types _ (slice_get (form_slots (types c.args.parent)) c.args.slot) names c.args.count c.args.at c.in-Some.ensures) q)
    (c.put_alternative.ensures (names ++ Numbered slot.tag.now c.args.count ∷ []) (c.in_ok-put_element.ensures types names h))
