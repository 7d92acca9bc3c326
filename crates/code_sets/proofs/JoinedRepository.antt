-- What codes make of a repository is a repository: each code of a record is a text, and no id changes.
use Rattle.std.proofs.Common.{◌≡◌, ◌≢◌, ℕ, suc, ◌&&◌, Bool, true, false, List, [], ◌∷◌, map, All, AllPairs, inl, inr, if◌then◌else◌, refl, sym, subst}
use Rattle.std.proofs.lemmas.List.Elements.{All-nil, All-cons, All-map}
use Rattle.lexical_core.specs.Characters.{IsXmlText}
use Rattle.repo_objects.specs.declared.objects.CodeDef.{CodeDef}
use Rattle.repo_objects.specs.Objects.{HasCodeTexts}
use Rattle.repo_objects.specs.Repository.{DictionaryEntry, Contents, ids_of, HasEntryTexts, IsRepository, entry_with_codes}
use Rattle.repo_objects.proofs.Codes.{coded_texts}
use Rattle.code_sets.specs.declared.record.CodeRecord.{CodeRecord}
use Rattle.code_sets.specs.Codes.{Fields, IsCode, no_code, IsSoundRecord, AreSoundRecords, numbered_records, Joins, is_code_set, is_none_yet, code_of, codes_for, once, joined_contents, joined_entry}
use Rattle.code_sets.specs.CodesErrors.{AreCodes}
use Rattle.code_sets.proofs.SomeAnswer.{Decided, decide_code}
use Rattle.code_sets.proofs.JoinLemmas.{kept_texts, defs_texts}

-- ---- the codes of records

-- the code of a record that breaks no rule is a text
code_text : (set code : List ℕ) → IsSoundRecord (set ∷ (code ∷ [])) → IsXmlText code
code_text set code sound = by (decide_code code)
  where
    by : Decided (IsCode code) → IsXmlText code
    by (inl is) = is.1
    by (inr none) = absurd (sound 3 (no_code refl none refl))

-- those of all records
codes_are : (n : ℕ) (rows : List Fields) → AreSoundRecords rows → AreCodes (numbered_records n rows)
codes_are n [] h = All-nil (λ (r : CodeRecord). IsXmlText r.code)
codes_are n ([] ∷ rows) h = codes_are (suc n) rows h.1
codes_are n ((set ∷ []) ∷ rows) h = codes_are (suc n) rows h.1
codes_are n ((set ∷ (code ∷ [])) ∷ rows) h =
    All-cons (λ (r : CodeRecord). IsXmlText r.code) (record { number = n; set = set; code = code }) (numbered_records (suc n) rows) (code_text set code h.0) (codes_are (suc n) rows h.1)
codes_are n ((set ∷ (code ∷ (more ∷ fields))) ∷ rows) h = codes_are (suc n) rows h.1

-- ---- the entries

module _ (lists : List CodeRecord) where
  -- the codes that are given to an entry
  abbrev given : DictionaryEntry → List CodeDef
  given e = map code_of (once [] (codes_for e.object.name lists))

  given_texts : (e : DictionaryEntry) → AreCodes lists → All HasCodeTexts (given e)
  given_texts e texts =
      defs_texts (once [] (codes_for e.object.name lists)) (given e) (kept_texts (λ name. once [] (codes_for name lists)) lists texts (λ name. refl) e.object.name) refl

  joined_texts : (e : DictionaryEntry) → AreCodes lists → HasEntryTexts e → HasEntryTexts (joined_entry lists e)
  joined_texts e texts h = by (is_code_set e.object.kind && is_none_yet e.object.codes)
    where
      by : (b : Bool) → HasEntryTexts (if b then entry_with_codes (given e) e else e)
      by true = coded_texts (given e) e (given_texts e texts) h
      by false = h

  same_id : (e : DictionaryEntry) → (joined_entry lists e).id ≡ e.id
  same_id e = by (is_code_set e.object.kind && is_none_yet e.object.codes)
    where
      by : (b : Bool) → (if b then entry_with_codes (given e) e else e).id ≡ e.id
      by true = refl
      by false = refl

  same_ids : (entries : List DictionaryEntry) → ids_of (map (joined_entry lists) entries) ≡ ids_of entries
  same_ids [] = refl
  same_ids (e ∷ entries) = λ i. same_id e i ∷ same_ids entries i

  joined_is : (contents : Contents) → AreCodes lists → IsRepository contents → IsRepository (joined_contents lists contents)
  joined_is contents texts whole = record {
    distinct = subst (AllPairs (λ one other. one ≢ other)) (sym (same_ids contents.objects)) whole.distinct;
    object_texts = All-map HasEntryTexts (joined_entry lists) contents.objects (λ k d below. joined_texts _ texts (whole.object_texts k d below));
    message_texts = whole.message_texts;
  }

-- ---- the repository

pub joined_is_a_repository : (contents : Contents) (bytes : List ℕ) (new : Contents) → IsRepository contents → Joins contents bytes new → IsRepository new
joined_is_a_repository contents bytes new whole h =
    let (rows, records, sound, lists_are) = h.reads in
    subst IsRepository (sym h.new_is) (joined_is h.lists contents (subst AreCodes (sym lists_are) (codes_are 1 rows sound)) whole)
