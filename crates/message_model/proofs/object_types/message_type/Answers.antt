use Rattle.std.proofs.Common.{sym, ap, subst, ◌∙◌}
use Rattle.std.proofs.Common.{map}
use Rattle.reference_check.specs.Graph.{slot_of}
use Rattle.message_model.specs.Compiled.{place_of, message_name}
use Rattle.message_model.specs.inner.Numbers.{NamePlaces, ids_at}
use Rattle.message_model.specs.Views.{slots_view}
use Rattle.message_model.proofs.TypeForms.{message_formed}
use Rattle.message_model.proofs.object_types.message_type.Goals as goal

pub returns : goal.returns
returns c m places found are names =
    let seen : NamePlaces c.args.repository.now.objects places c.as_slice.result.now = subst (λ xs. NamePlaces c.args.repository.now.objects places xs) (sym c.as_slice.ensures) names in
    record {
      form = message_formed c.args.repository.now m (place_of (ids_at c.args.repository.now.objects places)) c.args.definition.now (slots_view c.in_ok-slots.slots) found
          (c.in_ok-slots.ensures places are seen ∙ ap (map slot_of) c.as_slice.ensures);
      word = c.in_ok-text_of.ensures;
      name = c.in_ok-copy.ensures ∙ ap message_name (sym found);
    }
