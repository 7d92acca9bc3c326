use Rattle.std.proofs.Common.{◌≡◌, ◌∷◌, ◌++◌, map, ap, ◌∙◌, sym}
use Rattle.std.proofs.lemmas.Map.Iter.{rest_more, rest_so_far}
use Rattle.message_model.proofs.SortedTexts.{Kept, above_last}
use Rattle.message_model.proofs.sorted_codes.codes_in.Goals as goal

pub push-requires : goal.push-requires
push-requires c =
    let start = c.into_iter-text-iterator.ensures.into_iter_gives in
    let so_far = rest_so_far (λ (v : Kept). v) c.loop-text.yielded c.into_iter-text-iterator.result c.loop-text.text-iterator c.loop-text.yielded_by in
    let more = rest_more (λ (v : Kept). v) c.loop-text.text-iterator c.next.new.self c.next.result c.in-Some.text c.in-Some.is c.next.ensures.steps in
    let joined : c.args.texts.keys ≡ map (λ y. y) c.loop-text.yielded ++ (c.in-Some.text ∷ c.next.new.self) = sym start.0 ∙ (so_far ∙ ap (λ r. map (λ y. y) c.loop-text.yielded ++ r) more) in
    rw (c.loop-text.invariant.2, c.from_vec.ensures) (above_last c.args.texts.keys c.loop-text.yielded c.next.new.self c.in-Some.text start.4 joined)
