-- What stays true of a repository when an object or a message is added.
use Rattle.std.proofs.Common.{◌≡◌, ℕ, ◌<◌, List, [], ◌∷◌, ◌++◌, length, get_or, Contains, ◌≢◌, Result, Ok, Err, OnOk, OnErr, sym, ap, ◌∙◌, subst, inl, inr, arith}
use Rattle.std.proofs.lemmas.Bool.{cases_lt}
use Rattle.std.proofs.lemmas.List.{map-append, length-map, get_or-map, get_or_default}
use Rattle.std.proofs.lemmas.List.Elements.{All-push, Contains-get_or}
use Rattle.std.proofs.lemmas.List.Quantifiers.{all_pairs_push}
use Rattle.std.specs.Prelude.{AllPairs}
use Rattle.repo_objects.specs.declared.objects.MessageDef.{MessageDef}
use Rattle.repo_objects.specs.Laws.{NamesOneObject}
use Rattle.repo_objects.specs.Objects.{HasMessageTexts}
use Rattle.repo_objects.specs.Repository.{DictionaryEntry, Contents, ids_of, HasId, HasEntryTexts, IsRepository}

-- an object under an id that no other has
pub with_object : (contents : Contents) (entry : DictionaryEntry) → IsRepository contents → (HasId contents.objects entry.id → ⊥) → HasEntryTexts entry
    → IsRepository (record contents { objects = contents.objects ++ entry ∷ [] })
with_object contents entry before new texts =
    let others : (k : ℕ) (d : List ℕ) → k < length (ids_of contents.objects) → get_or (ids_of contents.objects) k d ≢ entry.id =
    λ k d lt same. new (subst (Contains (ids_of contents.objects)) same (Contains-get_or (ids_of contents.objects) k d lt)) in
    record {
      distinct = subst (AllPairs (λ one other. one ≢ other)) (sym (map-append _ contents.objects (entry ∷ [])))
          (all_pairs_push (λ one other. one ≢ other) (ids_of contents.objects) entry.id before.distinct others);
      object_texts = All-push HasEntryTexts contents.objects entry before.object_texts texts;
      message_texts = before.message_texts;
    }

-- a message
pub with_message : (contents : Contents) (message : MessageDef) → IsRepository contents → HasMessageTexts message
    → IsRepository (record contents { messages = contents.messages ++ message ∷ [] })
with_message contents message before texts = record {
  distinct = before.distinct;
  object_texts = before.object_texts;
  message_texts = All-push HasMessageTexts contents.messages message before.message_texts texts;
}

-- a message that was pushed, or was not for want of memory
pub pushed : {E : Type 0} (contents : Contents) (new : List MessageDef) (message : MessageDef) (result : Result (Unit {0}) E)
    → OnOk result (new ≡ contents.messages ++ message ∷ []) → OnErr result (new ≡ contents.messages) → IsRepository contents → HasMessageTexts message
    → IsRepository (record contents { messages = new })
pushed contents new message (Ok _) ok err before texts =
    subst (λ ms. IsRepository (record contents { messages = ms })) (sym ok) (with_message contents message before texts)
pushed contents new message (Err _) ok err before texts = subst (λ ms. IsRepository (record contents { messages = ms })) (sym err) before

-- an id names one object: two places would hold one id
pub one_object : NamesOneObject
one_object contents one other whole has_one has_other same =
    elim (cases_lt has_one.0 has_other.0) [
      | inl before ↦ absurd (whole.distinct has_one.0 has_other.0 one.id before (in_ids has_other.0 has_other.1)
          (id_at has_one.0 one has_one.1 has_one.2 ∙ same ∙ sym (id_at has_other.0 other has_other.1 has_other.2) ∙ at_default has_other.0 has_other.1 other.id one.id))
      | inr not_before ↦
          elim (cases_lt has_other.0 has_one.0) [
            | inl after ↦ absurd (whole.distinct has_other.0 has_one.0 other.id after (in_ids has_one.0 has_one.1)
                (id_at has_other.0 other has_other.1 has_other.2 ∙ sym same ∙ sym (id_at has_one.0 one has_one.1 has_one.2) ∙ at_default has_one.0 has_one.1 one.id other.id))
            | inr not_after ↦
                let place : has_one.0 ≡ has_other.0 = omega arith in
                sym has_one.2 ∙ get_or_default contents.objects has_one.0 one other has_one.1 ∙ ap (λ k. get_or contents.objects k other) place ∙ has_other.2
          ]
    ]
  where
    in_ids : (k : ℕ) → k < length contents.objects → k < length (ids_of contents.objects)
    in_ids k lt = subst (λ n. k < n) (sym (length-map contents.objects (λ (e : DictionaryEntry). e.id))) lt

    id_at : (k : ℕ) (entry : DictionaryEntry) → k < length contents.objects → get_or contents.objects k entry ≡ entry → get_or (ids_of contents.objects) k entry.id ≡ entry.id
    id_at k entry lt is = get_or-map (λ (e : DictionaryEntry). e.id) contents.objects k entry entry.id lt ∙ ap (λ (e : DictionaryEntry). e.id) is

    at_default : (k : ℕ) → k < length contents.objects → (d e : List ℕ) → get_or (ids_of contents.objects) k d ≡ get_or (ids_of contents.objects) k e
    at_default k lt d e = get_or_default (ids_of contents.objects) k d e (in_ids k lt)
