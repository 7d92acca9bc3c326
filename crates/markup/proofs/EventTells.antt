-- Events that are appended one after another.
use Rattle.std.proofs.Common.{◌≡◌, List, [], ◌++◌, map, refl, sym, ◌∙◌, ap, append_assoc, append-nil}
use Rattle.std.proofs.lemmas.List.{map-append}
use Rattle.markup.specs.Events.{Placed}
use Rattle.markup.specs.EventItems.{placed_event, Tells}
use Rattle.markup.specs.declared.event.Event.{Event}

pub tells_none : (old new : List Event) → new ≡ old → Tells old new []
tells_none old new e = record { more = []; appended = e ∙ sym (append-nil old); told_are = refl }

pub tells_twice : (a b c : List Event) (x y : List Placed) → Tells a b x → Tells b c y → Tells a c (x ++ y)
tells_twice a b c x y k l = record {
  more = k.more ++ l.more;
  appended = l.appended ∙ (ap (λ v. v ++ l.more) k.appended ∙ append_assoc a k.more l.more);
  told_are = map-append placed_event k.more l.more ∙ (ap (λ v. v ++ map placed_event l.more) k.told_are ∙ ap (λ v. x ++ v) l.told_are);
}
