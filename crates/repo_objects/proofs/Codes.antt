-- What stays true of a repository when the codes of an object are replaced.
use Rattle.std.proofs.Common.{◌≡◌, ℕ, zero, suc, List, [], ◌∷◌, map, All, Option, Some, unwrap_or, refl, sym, ap, subst, Vec}
use Rattle.std.specs.Prelude.{AllPairs, ◌≢◌, slice_get}
use Rattle.std.proofs.lemmas.List.Elements.{All-nil, All-cons, All-head, All-tail}
use Rattle.std.specs.declared.alloc.Global.{Global}
use Rattle.indexmap.specs.IndexMap.{set_value_at}
use Rattle.repo_objects.specs.declared.objects.Object.{Object}
use Rattle.repo_objects.specs.declared.objects.CodeDef.{CodeDef}
use Rattle.repo_objects.specs.Objects.{HasCodeTexts}
use Rattle.repo_objects.specs.Repository.{DictionaryEntry, Contents, ids_of, HasEntryTexts, IsRepository, entry_with_codes, with_codes}
use Rattle.repo_objects.specs.Stored.{stored_entry, entries_of}

-- the ids stay
same_ids : (entries : List DictionaryEntry) (at : ℕ) (codes : List CodeDef) → ids_of (with_codes entries at codes) ≡ ids_of entries
same_ids [] at codes = refl
same_ids (e ∷ es) zero codes = refl
same_ids (e ∷ es) (suc at) codes = ap (λ l. e.id ∷ l) (same_ids es at codes)

-- an entry with other codes has texts
pub coded_texts : (codes : List CodeDef) (e : DictionaryEntry) → All HasCodeTexts codes → HasEntryTexts e → HasEntryTexts (entry_with_codes codes e)
coded_texts codes e texts h = record {
  id = h.id;
  object = record {
    name = h.object.name;
    word = h.object.word;
    pattern = h.object.pattern;
    elements = h.object.elements;
    codes = texts;
    trace = h.object.trace;
    currency = h.object.currency;
  };
}

texts_kept : (entries : List DictionaryEntry) (at : ℕ) (codes : List CodeDef) → All HasCodeTexts codes → All HasEntryTexts entries → All HasEntryTexts (with_codes entries at codes)
texts_kept [] at codes texts all = All-nil HasEntryTexts
texts_kept (e ∷ es) zero codes texts all =
    All-cons HasEntryTexts (entry_with_codes codes e) es (coded_texts codes e texts (All-head HasEntryTexts e es all)) (All-tail HasEntryTexts e es all)
texts_kept (e ∷ es) (suc at) codes texts all =
    All-cons HasEntryTexts e (with_codes es at codes) (All-head HasEntryTexts e es all) (texts_kept es at codes texts (All-tail HasEntryTexts e es all))

-- an object with other codes
pub with_other_codes : (contents : Contents) (at : ℕ) (codes : List CodeDef) → All HasCodeTexts codes → IsRepository contents
    → IsRepository (record contents { objects = with_codes contents.objects at codes })
with_other_codes contents at codes texts before = record {
  distinct = subst (AllPairs (λ one other. one ≢ other)) (sym (same_ids contents.objects at codes)) before.distinct;
  object_texts = texts_kept contents.objects at codes texts before.object_texts;
  message_texts = before.message_texts;
}

-- the map's entries with a value whose codes are replaced
pub codes_put : (stored : List (Vec ℕ Global × Object)) (at : ℕ) (object : Object) (codes : List CodeDef) → slice_get (map (λ (e : Vec ℕ Global × Object). e.1) stored) at ≡ Some object
    → entries_of (set_value_at stored at (record object { codes = codes })) ≡ with_codes (entries_of stored) at codes
codes_put [] at object codes h = refl
codes_put (e ∷ es) zero object codes h =
    ap (λ (o : Object). record { id = e.0.items; object = record o { codes = codes } } ∷ entries_of es) (sym (ap (λ (r : Option Object). unwrap_or r e.1) h))
codes_put (e ∷ es) (suc at) object codes h = ap (λ l. stored_entry e ∷ l) (codes_put es at object codes h)
