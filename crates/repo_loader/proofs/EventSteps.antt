-- What is read grows with each event.
use Rattle.std.proofs.Common.{◌≡◌, ℕ, true, false, List, [], ◌∷◌, ◌++◌, length, map, reverse, drop, ◌+◌, Option, Some, None, refl, sym, ap, ◌∙◌, subst, append_assoc, append-nil}
use Rattle.std.specs.Char.{encode_utf8}
use Rattle.std.specs.Option.{is_some}
use Rattle.std.specs.Prelude.{option_to_list}
use Rattle.std.proofs.lemmas.List.{map-append, reverse-append}
use Rattle.lexical_core.specs.Tree.{Expanded, Entry as Attribute, Starts, Ends}
use Rattle.markup.specs.Events.{Placed}
use Rattle.markup.specs.EventItems.{placed_event}
use Rattle.markup.specs.Literals.{characters_from}
use Rattle.markup.specs.declared.event.Event.{Event}
use Rattle.repo_loader.specs.declared.fault.LoadFault.{LoadFault}
use Rattle.repo_loader.specs.declared.part.Part.{Part}
use Rattle.repo_loader.specs.declared.part.Part.TheVariants.{LeftOut}
use Rattle.repo_loader.specs.declared.selection.Selection.{Selection}
use Rattle.repo_loader.specs.Selected.{FileTag, PlacedTag, part_in, tag_if, innermost, item_tags, parts_open_behind, placed_tags, event_tags, parts_open_after}
use Rattle.repo_loader.specs.FileFaults.{AreSoundTags, IsFirstBroken, tags_of}
use Rattle.repo_loader.specs.inner.LoadingSteps.{HasTags}
use Rattle.repo_loader.specs.inner.SelectionSteps.{tags_told, CanEnd, HasLoaded, IsBrokenBy, LoadsOn}
use Rattle.repo_loader.specs.inner.Stops.{IsSoundTag, IsLeastTagRule}
use Rattle.repo_loader.proofs.EventTags.{event_tags_append, open_after_append, event_tags_snoc, sound_snoc}
use Rattle.repo_loader.proofs.FirstBroken.{first_of_more}
use Rattle.repo_loader.proofs.TagSteps.{tag_of}

-- an element that is read gives its tag
pub read_tag : (part : Part) (as' : List Attribute) → (part ≡ LeftOut → ⊥) → tag_if part as' ≡ tag_of part as' ∷ []
read_tag LeftOut as' none = absurd (none refl)
read_tag _ as' none = refl

-- ---- the open elements

pub open_one : (opened old new : List Part) (part : Part) → reverse old ≡ opened → new ≡ old ++ part ∷ [] → reverse new ≡ part ∷ opened
open_one opened old new part is e = ap reverse e ∙ reverse-append old (part ∷ []) ∙ ap (λ ps. part ∷ ps) is

pub close_one : (opened old new : List Part) (last : Option Part) → reverse old ≡ opened → old ≡ new ++ option_to_list last → (last ≡ None → new ≡ []) → reverse new ≡ drop 1 opened
close_one opened old new None is e none = ap reverse (none refl) ∙ sym (ap (drop 1) (sym is ∙ ap reverse (e ∙ append-nil new ∙ none refl)))
close_one opened old new (Some part) is e none = sym (ap (drop 1) (sym is ∙ (ap reverse e ∙ reverse-append new (part ∷ []))))

-- ---- one event more

-- an event that starts no element which is read
pub quiet_event : (old new : Selection) (told : List Placed) (e : Placed) → HasLoaded old told → item_tags (innermost (parts_open_after [] told)) e.item ≡ [] → new.loading ≡ old.loading
    → reverse new.open_parts.items ≡ parts_open_behind (parts_open_after [] told) e.item → HasLoaded new (told ++ e ∷ [])
quiet_event old new told e h none same opened = record {
  open_are = opened ∙ sym (open_after_append [] told (e ∷ []));
  sound = subst (AreSoundTags []) (sym tags) h.sound;
  tags = subst (λ l. HasTags l (tags_told (told ++ e ∷ []))) (sym same) (subst (λ (ts : List PlacedTag). HasTags old.loading (tags_of ts)) (sym tags) h.tags);
  closes = subst CanEnd (sym same) h.closes;
} where
  tags : event_tags [] (told ++ e ∷ []) ≡ event_tags [] told
  tags = event_tags_snoc told e ∙ (ap (λ ts. event_tags [] told ++ placed_tags e.place ts) none ∙ append-nil (event_tags [] told))

-- an event that starts an element which is read
module _ (old new : Selection) (told : List Placed) (e : Placed) (t : FileTag) (h : HasLoaded old told) (one : item_tags (innermost (parts_open_after [] told)) e.item ≡ t ∷ []) where
  abbrev here : PlacedTag
  here = record { place = e.place; tag = t }

  tags_more : event_tags [] (told ++ e ∷ []) ≡ event_tags [] told ++ here ∷ []
  tags_more = event_tags_snoc told e ∙ ap (λ ts. event_tags [] told ++ placed_tags e.place ts) one

  names_more : tags_told (told ++ e ∷ []) ≡ tags_told told ++ t ∷ []
  names_more = ap tags_of tags_more ∙ map-append (λ (x : PlacedTag). x.tag) (event_tags [] told) (here ∷ [])

  pub tag_event : reverse new.open_parts.items ≡ parts_open_behind (parts_open_after [] told) e.item → HasTags new.loading (tags_told told ++ t ∷ []) × IsSoundTag (tags_told told) t → CanEnd new.loading
      → HasLoaded new (told ++ e ∷ [])
  tag_event opened has can = record {
    open_are = opened ∙ sym (open_after_append [] told (e ∷ []));
    sound = subst (AreSoundTags []) (sym tags_more) (sound_snoc [] (event_tags [] told) here h.sound has.1);
    tags = subst (HasTags new.loading) (sym names_more) has.0;
    closes = can;
  }

  pub tag_broken : (rule : ℕ) → IsLeastTagRule (tags_told told) t rule → IsBrokenBy (told ++ e ∷ []) (record { rule = rule; markup = None; place = e.place })
  tag_broken rule broken = record {
    first = record {
      before = event_tags [] told;
      tag = here;
      after = [];
      split = tags_more;
      sound = h.sound;
      broken = broken.0;
      least = broken.1;
      place_is = refl;
    };
    no_markup = refl;
  }

-- the start of an element that is this part
module _ (old new : Selection) (told : List Placed) (place : ℕ) (n : Expanded) (as' : List Attribute) (part : Part) (h : HasLoaded old told)
    (is : part ≡ part_in (innermost (reverse old.open_parts.items)) n as') (pushed : new.open_parts.items ≡ old.open_parts.items ++ part ∷ []) where
  abbrev pub start : Placed
  start = record { place = place; item = Starts n as' }

  part_is : part_in (innermost (parts_open_after [] told)) n as' ≡ part
  part_is = ap (λ ps. part_in (innermost ps) n as') (sym h.open_are) ∙ sym is

  opened : reverse new.open_parts.items ≡ part_in (innermost (parts_open_after [] told)) n as' ∷ parts_open_after [] told
  opened = open_one (parts_open_after [] told) old.open_parts.items new.open_parts.items part h.open_are pushed ∙ ap (λ p. p ∷ parts_open_after [] told) (sym part_is)

  pub start_passed : part ≡ LeftOut → new.loading ≡ old.loading → HasLoaded new (told ++ start ∷ [])
  start_passed left same = quiet_event old new told start h (ap (λ p. tag_if p as') (part_is ∙ left)) same opened

  one_tag : (part ≡ LeftOut → ⊥) → tag_if (part_in (innermost (parts_open_after [] told)) n as') as' ≡ tag_of part as' ∷ []
  one_tag read = ap (λ p. tag_if p as') part_is ∙ read_tag part as' read

  pub start_taken : (part ≡ LeftOut → ⊥) → HasTags new.loading (tags_told told ++ tag_of part as' ∷ []) × IsSoundTag (tags_told told) (tag_of part as') → CanEnd new.loading → HasLoaded new (told ++ start ∷ [])
  start_taken read has can = tag_event old new told start (tag_of part as') h (one_tag read) opened has can

  pub start_broken : (part ≡ LeftOut → ⊥) → (rule : ℕ) → IsLeastTagRule (tags_told told) (tag_of part as') rule → IsBrokenBy (told ++ start ∷ []) (record { rule = rule; markup = None; place = place })
  start_broken read rule least = tag_broken old new told start (tag_of part as') h (one_tag read) rule least

-- ---- several events

-- what the first element that breaks a rule is stays so where more events come
pub broken_more : (told more : List Placed) (fault : LoadFault) → IsBrokenBy told fault → IsBrokenBy (told ++ more) fault
broken_more told more fault h = record {
  first = subst (λ (ts : List PlacedTag). IsFirstBroken ts fault.rule fault.place) (sym (event_tags_append [] told more)) (first_of_more (event_tags [] told) (event_tags (parts_open_after [] told) more) fault.rule fault.place h.first);
  no_markup = h.no_markup;
}

-- a fault that the first of several events shows
pub broken_on : (s : Selection) (told more : List Placed) (e : Placed) (o : Option LoadFault) → is_some o ≡ true → LoadsOn s (told ++ e ∷ []) o → LoadsOn s (told ++ e ∷ more) o
broken_on s told more e None h l = absurd cc
broken_on s told more e (Some fault) h l = subst (λ es. IsBrokenBy es fault) (append_assoc told (e ∷ []) more) (broken_more (told ++ e ∷ []) more fault l)

-- none that it shows, and an end behind it
pub ends_behind : (old new : Selection) (told : List Placed) (e : Placed) (place : ℕ) (name : Expanded) (o : Option LoadFault) → is_some o ≡ false → LoadsOn old (told ++ e ∷ []) o
    → ((so_far : List Placed) → HasLoaded old so_far → HasLoaded new (so_far ++ (record { place = place; item = Ends name }) ∷ [])) → HasLoaded new (told ++ e ∷ (record { place = place; item = Ends name }) ∷ [])
ends_behind old new told e place name None h l ends = subst (HasLoaded new) (append_assoc told (e ∷ []) (record { place = place; item = Ends name } ∷ [])) (ends (told ++ e ∷ []) l)
ends_behind old new told e place name (Some fault) h l ends = absurd cc

-- the events before the rest are read
pub record LoadedSoFar (s : Selection) (told : List Placed) (all rest : List Event) : Type 0 where
  pub so_far : List Placed
  pub all_are : told ++ map placed_event all ≡ so_far ++ map placed_event rest
  pub loaded : HasLoaded s so_far

pub one_loaded : (old new : Selection) (told : List Placed) (all rest : List Event) (e : Event) (h : LoadedSoFar old told all (e ∷ rest)) → HasLoaded new (h.so_far ++ placed_event e ∷ []) → LoadedSoFar new told all rest
one_loaded old new told all rest e h k = record {
  so_far = h.so_far ++ placed_event e ∷ [];
  all_are = h.all_are ∙ sym (append_assoc h.so_far (placed_event e ∷ []) (map placed_event rest));
  loaded = k;
}

pub one_broken : (old : Selection) (told : List Placed) (all rest : List Event) (e : Event) (fault : LoadFault) (h : LoadedSoFar old told all (e ∷ rest)) → IsBrokenBy (h.so_far ++ placed_event e ∷ []) fault → IsBrokenBy (told ++ map placed_event all) fault
one_broken old told all rest e fault h k =
    subst (λ es. IsBrokenBy es fault) (append_assoc h.so_far (placed_event e ∷ []) (map placed_event rest) ∙ sym h.all_are) (broken_more (h.so_far ++ placed_event e ∷ []) (map placed_event rest) fault k)

-- ---- characters alone

run_tags : (parts : List Part) (place : ℕ) (cs : List ℕ) → event_tags parts (characters_from place cs) ≡ []
run_tags parts place [] = refl
run_tags parts place (c ∷ cs) = run_tags parts (place + length (encode_utf8 c)) cs

run_open : (parts : List Part) (place : ℕ) (cs : List ℕ) → parts_open_after parts (characters_from place cs) ≡ parts
run_open parts place [] = refl
run_open parts place (c ∷ cs) = run_open parts (place + length (encode_utf8 c)) cs

-- they say nothing
pub run_loaded : (s : Selection) (told : List Placed) (place : ℕ) (cs : List ℕ) → HasLoaded s told → HasLoaded s (told ++ characters_from place cs)
run_loaded s told place cs h = record {
  open_are = h.open_are ∙ sym (open_after_append [] told (characters_from place cs) ∙ run_open (parts_open_after [] told) place cs);
  sound = subst (AreSoundTags []) (sym tags) h.sound;
  tags = subst (λ (ts : List PlacedTag). HasTags s.loading (tags_of ts)) (sym tags) h.tags;
  closes = h.closes;
} where
  tags : event_tags [] (told ++ characters_from place cs) ≡ event_tags [] told
  tags = event_tags_append [] told (characters_from place cs) ∙ (ap (λ ts. event_tags [] told ++ ts) (run_tags (parts_open_after [] told) place cs) ∙ append-nil (event_tags [] told))
