-- The elements that events read, one event after the other.
use Rattle.std.proofs.Common.{◌≡◌, ℕ, List, [], ◌∷◌, ◌++◌, refl, sym, ap, ◌∙◌, subst, append_assoc, append-nil}
use Rattle.markup.specs.Events.{Placed}
use Rattle.repo_loader.specs.declared.part.Part.{Part}
use Rattle.repo_loader.specs.Selected.{FileTag, PlacedTag, innermost, item_tags, parts_open_behind, placed_tags, event_tags, parts_open_after}
use Rattle.repo_loader.specs.FileFaults.{BreaksTagRule, AreSoundTags, tags_of}

-- the elements of more events
pub event_tags_append : (parts : List Part) (es fs : List Placed) → event_tags parts (es ++ fs) ≡ event_tags parts es ++ event_tags (parts_open_after parts es) fs
event_tags_append parts [] fs = refl
event_tags_append parts (e ∷ es) fs =
    let here = placed_tags e.place (item_tags (innermost parts) e.item) in
    ap (λ l. here ++ l) (event_tags_append (parts_open_behind parts e.item) es fs)
    ∙ sym (append_assoc here (event_tags (parts_open_behind parts e.item) es) (event_tags (parts_open_after (parts_open_behind parts e.item) es) fs))

pub open_after_append : (parts : List Part) (es fs : List Placed) → parts_open_after parts (es ++ fs) ≡ parts_open_after (parts_open_after parts es) fs
open_after_append parts [] fs = refl
open_after_append parts (e ∷ es) fs = open_after_append (parts_open_behind parts e.item) es fs

-- one event more
pub event_tags_snoc : (es : List Placed) (e : Placed) → event_tags [] (es ++ e ∷ []) ≡ event_tags [] es ++ placed_tags e.place (item_tags (innermost (parts_open_after [] es)) e.item)
event_tags_snoc es e =
    event_tags_append [] es (e ∷ []) ∙ ap (λ l. event_tags [] es ++ l) (append-nil (placed_tags e.place (item_tags (innermost (parts_open_after [] es)) e.item)))

-- one element more that breaks no rule
pub sound_snoc : (acc : List FileTag) (ts : List PlacedTag) (t : PlacedTag) → AreSoundTags acc ts → ((rule : ℕ) → BreaksTagRule (acc ++ tags_of ts) t.tag rule → ⊥) → AreSoundTags acc (ts ++ t ∷ [])
sound_snoc acc [] t s h = ((λ rule b. h rule (subst (λ a. BreaksTagRule a t.tag rule) (sym (append-nil acc)) b)), tt)
sound_snoc acc (u ∷ ts) t s h =
    (s.0, sound_snoc (acc ++ u.tag ∷ []) ts t s.1 (λ rule b. h rule (subst (λ a. BreaksTagRule a t.tag rule) (append_assoc acc (u.tag ∷ []) (tags_of ts)) b)))
