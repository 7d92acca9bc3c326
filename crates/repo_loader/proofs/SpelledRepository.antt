-- What bytes spell is a repository: an entry with the id of an earlier one breaks a rule, and the values of attributes are texts.
use Rattle.std.proofs.Common.{◌≡◌, ◌≢◌, ℕ, ◌<◌, Bool, true, false, true≢false, List, [], ◌∷◌, ◌++◌, length, get_or, Option, Some, None, Contains, AllPairs, if◌then◌else◌, refl, sym, ap, subst, append-nil, append_assoc, arith}
use Rattle.std.proofs.lemmas.List.{map-append}
use Rattle.std.proofs.lemmas.List.Elements.{Contains-get_or}
use Rattle.std.proofs.lemmas.List.Quantifiers.{all_pairs_push}
use Rattle.lexical_core.specs.Names.{attribute_value}
use Rattle.markup.specs.Events.{events}
use Rattle.markup.specs.Marks.{tag_limit}
use Rattle.repo_objects.specs.Repository.{DictionaryEntry, Contents, ids_of, HasId, IsRepository}
use Rattle.repo_loader.specs.declared.part.Part.{Part}
use Rattle.repo_loader.specs.declared.part.Part.TheVariants as part
use Rattle.repo_loader.specs.FileNames.{id_name}
use Rattle.repo_loader.specs.FileValues.{text_or_empty}
use Rattle.repo_loader.specs.inner.FileSteps.{with_last, with_parts}
use Rattle.repo_loader.specs.Selected.{FileTag, PlacedTag}
use Rattle.repo_loader.specs.File.{is_entry, kind_at, entry, objects, contents_of}
use Rattle.repo_loader.specs.FileFaults.{IsEntry, twice, lacks_id, AreSoundTags, tags_of}
use Rattle.repo_loader.specs.Loaded.{token_tags, Spells}
use Rattle.repo_loader.specs.inner.Stops.{IsSoundTag}
use Rattle.repo_loader.proofs.Steps.{objects_snoc}
use Rattle.repo_loader.proofs.Texts.{events_texts}
use Rattle.repo_loader.proofs.OneRepository.{contents_by_tokens}
use Rattle.repo_loader.proofs.SpelledTexts.{HaveTagTexts, event_tags_texts, object_texts, all_message_texts}

-- ---- the ids

abbrev AreApart : List DictionaryEntry → Type 0
AreApart entries = AllPairs (λ one other. one ≢ other) (ids_of entries)

-- what a tag gives the last entry leaves its id
same_ids : (t : FileTag) (entries : List DictionaryEntry) → ids_of (with_last (with_parts t) entries) ≡ ids_of entries
same_ids t [] = refl
same_ids t (e ∷ []) = refl
same_ids t (e ∷ (f ∷ entries)) = ap (λ l. e.id ∷ l) (same_ids t (f ∷ entries))

of_entry : (p : Part) → is_entry p ≡ true → IsEntry p
of_entry (part.Entry kind) h = tt
of_entry _ h = absurd (true≢false (sym h))

-- no earlier entry has the id of one that breaks no rule
new_id : (before : List FileTag) (t : FileTag) → is_entry t.part ≡ true → IsSoundTag before t → HasId (objects before) (text_or_empty (attribute_value id_name t.attributes)) → ⊥
new_id before t is sound = by (attribute_value id_name t.attributes) refl
  where
    by : (o : Option (List ℕ)) → attribute_value id_name t.attributes ≡ o → HasId (objects before) (text_or_empty o) → ⊥
    by None e h = sound 5 (lacks_id (of_entry t.part is) e refl)
    by (Some id) e h = sound 3 (twice id (of_entry t.part is) e h refl)

apart_more : (entries : List DictionaryEntry) (e : DictionaryEntry) → AreApart entries → (HasId entries e.id → ⊥) → AreApart (entries ++ e ∷ [])
apart_more entries e apart new =
    let others : (k : ℕ) (d : List ℕ) → k < length (ids_of entries) → get_or (ids_of entries) k d ≢ e.id =
    λ k d below same. new (subst (Contains (ids_of entries)) same (Contains-get_or (ids_of entries) k d below)) in
    subst (AllPairs (λ one other. one ≢ other)) (sym (map-append (λ (e : DictionaryEntry). e.id) entries (e ∷ [])))
    (all_pairs_push (λ one other. one ≢ other) (ids_of entries) e.id apart others)

-- one element more that breaks no rule
apart_step : (before : List FileTag) (t : FileTag) → IsSoundTag before t → AreApart (objects before) → AreApart (objects (before ++ t ∷ []))
apart_step before t sound apart = subst AreApart (sym (objects_snoc t before)) (by (is_entry t.part) refl)
  where
    here : DictionaryEntry
    here = entry (kind_at t.part) t.attributes []

    by : (b : Bool) → is_entry t.part ≡ b → AreApart (if b then objects before ++ here ∷ [] else with_last (with_parts t) (objects before))
    by true is = apart_more (objects before) here apart (new_id before t is sound)
    by false is = subst (AllPairs (λ one other. one ≢ other)) (sym (same_ids t (objects before))) apart

-- the entries among elements that break no rule have different ids
ids_apart : (before : List FileTag) (ts : List PlacedTag) → AreSoundTags before ts → AreApart (objects before) → AreApart (objects (before ++ tags_of ts))
ids_apart before [] sound apart = subst (λ l. AreApart (objects l)) (sym (append-nil before)) apart
ids_apart before (t ∷ ts) sound apart =
    subst (λ l. AreApart (objects l)) (append_assoc before (t.tag ∷ []) (tags_of ts))
    (ids_apart (before ++ t.tag ∷ []) ts sound.1 (apart_step before t.tag sound.0 apart))

-- ---- the repository

pub spelled_is_a_repository : (bytes : List ℕ) (x : Contents) → Spells bytes x → IsRepository x
spelled_is_a_repository bytes x h = subst IsRepository (sym (contents_by_tokens bytes x h)) all
  where
    tags : List FileTag
    tags = tags_of (token_tags h.tokens)

    texts : HaveTagTexts tags
    texts = event_tags_texts [] (events [] 0 h.tokens) (events_texts tag_limit [] 0 bytes h.tokens [] h.marks)

    all : IsRepository (contents_of tags)
    all = record {
      distinct = ids_apart [] (token_tags h.tokens) h.sound (λ i j d before within. absurd (omega (arith, within)));
      object_texts = object_texts tags texts;
      message_texts = all_message_texts tags texts;
    }
