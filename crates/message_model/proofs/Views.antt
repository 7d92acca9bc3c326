-- What a look-up in the tables finds.
use Rattle.std.proofs.Common.{◌≡◌, ℕ, zero, suc, List, [], ◌∷◌, Some, None, refl, ◌+◌, ◌<◌, ◌≤◌, length, drop, drop-cons, get_or, cond, add-one, map}
use Rattle.std.proofs.Math.ListN.{drop_of_length-le}
use Rattle.std.specs.Str.{bytes_eq}
use Rattle.std.specs.Prelude.{slice_get}
use Rattle.std.specs.Option.{option_map}
use Rattle.std.proofs.lemmas.Option.{slice_get-map}
use Rattle.reference_check.specs.Steps.{find_slot}
use Rattle.message_model.specs.Views.{slots_view}
use Rattle.message_model.specs.declared.slot_list.SlotInfo.{SlotInfo}

-- the kit's lemma, by a name that a tactic of code can have
pub slice_get_map : {A B : Type 0} (f : A → B) (xs : List A) (k : ℕ) → slice_get (map f xs) k ≡ option_map f (slice_get xs k)
slice_get_map f xs k = slice_get-map f xs k

-- from one place on, the search looks at the slot there and then goes on
pub find_rest : (slots : List SlotInfo) (i : ℕ) (tag : List ℕ) (d : SlotInfo) → i < length slots → find_slot i (slots_view (drop i slots)) tag ≡ cond (bytes_eq (get_or slots i d).tag tag) (Some i) (find_slot (i + 1) (slots_view (drop (i + 1) slots)) tag)
find_rest slots i tag d h = rw (add-one, drop-cons slots i d) refl

pub find_end : (slots : List SlotInfo) (i : ℕ) (tag : List ℕ) → length slots ≤ i → find_slot i (slots_view (drop i slots)) tag ≡ None
find_end slots i tag h = (let e : drop i slots ≡ [] = drop_of_length-le slots h in rw e refl)

pub drop_view : (n : ℕ) (slots : List SlotInfo) → slots_view (drop n slots) ≡ drop n (slots_view slots)
drop_view zero slots = refl
drop_view (suc n) [] = refl
drop_view (suc n) (s ∷ slots) = drop_view n slots
