-- A tag is taken: what is read grows by it.
use Rattle.std.proofs.Common.{◌≡◌, false, true≢false, List, [], ◌∷◌, ◌++◌, Option, Some, None, refl, sym, ap, ◌∙◌, subst, append-nil}
use Rattle.std.specs.Prelude.{Result, Ok, Err, OnOk, IfErr}
use Rattle.lexical_core.specs.Tree.{Entry as Attribute}
use Rattle.repo_objects.specs.declared.objects.ObjectKind.{ObjectKind}
use Rattle.repo_objects.specs.declared.objects.ElementDef.{ElementDef}
use Rattle.repo_objects.specs.declared.objects.CodeDef.{CodeDef}
use Rattle.repo_objects.specs.declared.objects.MessageDef.{MessageDef}
use Rattle.repo_objects.specs.Repository.{DictionaryEntry, Contents}
use Rattle.repo_loader.specs.declared.loading.OpenEntry.{OpenEntry}
use Rattle.repo_loader.specs.declared.loading.OpenMessage.{OpenMessage}
use Rattle.repo_loader.specs.declared.loading.Loading.{Loading}
use Rattle.repo_loader.specs.declared.part.Part.{Part}
use Rattle.repo_loader.specs.declared.part.Part.TheVariants.{Element, Alternative, Code, Block, Identifier, OtherRoot, Message, Entry as EntryPart}
use Rattle.repo_loader.specs.declared.stop.Stop.{Stop}
use Rattle.repo_loader.specs.declared.stop.Stop.TheVariants.{Rule, Memory}
use Rattle.repo_loader.specs.Selected.{FileTag}
use Rattle.repo_loader.specs.inner.Stops.{IsSoundTag, IsLeastTagRule, TellsStop, TellsNumbers}
use Rattle.repo_loader.specs.File.{is_entry, is_message, element, code, message_identifier}
use Rattle.repo_loader.specs.inner.LoadingSteps.{AreTexts, IsNew, CanClose, CanCloseMessage, HasMessages, HasTags, TakesOther, grown_if, with_element, with_code, entry_after, message_after, OpensEntry}
use Rattle.repo_loader.proofs.EntryRules.{sound_other, least_other}
use Rattle.repo_loader.proofs.EntryTexts.{element_texts, code_texts}
use Rattle.repo_loader.proofs.TagTexts.{identifier_text, element_new, code_new, block_closes, identifier_closes}
use Rattle.repo_loader.proofs.LoadingLemmas.{with_given, with_tag, other_tag, entry_tag}
use Rattle.repo_loader.proofs.MessageSteps.{other_message, grown_plain, grown_block, grown_identifier}

abbrev pub tag_of : Part → List Attribute → FileTag
tag_of part as' = record { part = part; attributes = as' }

-- ---- what is open

nothing : (o : Option OpenEntry) → o ≡ with_given [] [] o
nothing None = refl
nothing (Some o) = λ i. Some (record { id = o.id; object = record o.object { elements = sym (append-nil o.object.elements) i; codes = sym (append-nil o.object.codes) i } })

one_element : (e : ElementDef) (o : Option OpenEntry) → with_element e o ≡ with_given (e ∷ []) [] o
one_element e None = refl
one_element e (Some o) = λ i. Some (record { id = o.id; object = record o.object { elements = o.object.elements ++ e ∷ []; codes = sym (append-nil o.object.codes) i } })

one_code : (c : CodeDef) (o : Option OpenEntry) → with_code c o ≡ with_given [] (c ∷ []) o
one_code c None = refl
one_code c (Some o) = λ i. Some (record { id = o.id; object = record o.object { elements = sym (append-nil o.object.elements) i; codes = o.object.codes ++ c ∷ [] } })

entry_tagged : (part : Part) (as' : List Attribute) (o : Option OpenEntry) → entry_after part as' o ≡ with_tag (tag_of part as') o
entry_tagged Element as' o = one_element (element 0 as') o
entry_tagged Alternative as' o = one_element (element 1 as') o
entry_tagged Code as' o = one_code (code as') o
entry_tagged _ as' o = nothing o

message_tagged : (part : Part) (as' : List Attribute) (o : Option OpenMessage) (closed : List MessageDef) (tags : List FileTag) → HasMessages o closed tags
    → message_after part as' o ≡ grown_if (tag_of part as') o
message_tagged Block as' o closed tags h = sym (grown_block closed tags (tag_of Block as') o (element 0 as') h refl refl)
message_tagged Identifier as' o closed tags h = sym (grown_identifier closed tags (tag_of Identifier as') o (message_identifier as') refl refl)
message_tagged part as' o closed tags h = sym (grown_plain closed tags (tag_of part as') o h refl refl)

-- ---- it can be closed

entry_fit : (part : Part) (as' : List Attribute) (o : List DictionaryEntry × Option OpenEntry) (h : AreTexts as') → IsNew o.0 o.1 → IsNew o.0 (entry_after part as' o.1)
entry_fit Element as' o h new = element_new o.0 o.1 (element 0 as') (element_texts as' h 0) new
entry_fit Alternative as' o h new = element_new o.0 o.1 (element 1 as') (element_texts as' h 1) new
entry_fit Code as' o h new = code_new o.0 o.1 (code as') (code_texts as' h) new
entry_fit _ as' o h new = new

message_fit : (part : Part) (as' : List Attribute) (o : Option OpenMessage) (h : AreTexts as') → CanCloseMessage o → CanCloseMessage (message_after part as' o)
message_fit Block as' o h can = block_closes o (element 0 as') (element_texts as' h 0) can
message_fit Identifier as' o h can = identifier_closes o (message_identifier as') (identifier_text as' h) can
message_fit _ as' o h can = can

module _ (old new : Loading) (part : Part) (as' : List Attribute) where
  pub other_closes : AreTexts as' → CanClose old → TakesOther old new part as' → CanClose new
  other_closes texts can h =
      subst (λ os. IsNew os new.entry) (sym (ap (λ (r : Contents). r.objects) h.repository))
      (subst (IsNew old.repository.objects) (sym h.entry) (entry_fit part as' (old.repository.objects, old.entry) texts can))

  pub other_closes_message : AreTexts as' → CanCloseMessage old.message → TakesOther old new part as' → CanCloseMessage new.message
  other_closes_message texts can h = subst CanCloseMessage (sym h.message) (message_fit part as' old.message texts can)

  pub other_tags : (tags : List FileTag) → is_entry part ≡ false → is_message part ≡ false → HasTags old tags → TakesOther old new part as' → HasTags new (tags ++ tag_of part as' ∷ [])
  other_tags tags entry message has h = record {
    objects = other_tag old new tags (tag_of part as') entry has.objects (ap (λ (r : Contents). r.objects) h.repository) (h.entry ∙ entry_tagged part as' old.entry);
    messages =
        subst (λ o. HasMessages o new.repository.messages (tags ++ tag_of part as' ∷ [])) (sym (h.message ∙ message_tagged part as' old.message old.repository.messages tags has.messages))
        (subst (λ ms. HasMessages (grown_if (tag_of part as') old.message) ms (tags ++ tag_of part as' ∷ [])) (sym (ap (λ (r : Contents). r.messages) h.repository))
        (other_message old.message old.repository.messages tags (tag_of part as') message has.messages));
  }

pub tells_numbers : (tags : List FileTag) (part : Part) (as' : List Attribute) (stop : Stop) → is_entry part ≡ false → (part ≡ OtherRoot → ⊥) → TellsNumbers part as' stop → TellsStop tags (tag_of part as') stop
tells_numbers tags part as' (Rule n) entry root (e, h) = subst (IsLeastTagRule tags (tag_of part as')) (sym e) (least_other tags (tag_of part as') entry root h)
tells_numbers tags part as' Memory entry root h = tt

-- ---- the arms

pub no_entry_part : (part : Part) → ((kind : ObjectKind) → part ≡ EntryPart kind → ⊥) → is_entry part ≡ false
no_entry_part (EntryPart kind) none = absurd (none kind refl)
no_entry_part _ none = refl

pub no_message_part : (part : Part) → (part ≡ Message → ⊥) → is_message part ≡ false
no_message_part Message none = absurd (none refl)
no_message_part _ none = refl

pub entry_taken : {A E : Type 0} (r : Result A E) (old new : Loading) (tags : List FileTag) (kind : ObjectKind) (as' : List Attribute) → HasTags old tags
    → OnOk r (OpensEntry old new kind as' × IsSoundTag tags (tag_of (EntryPart kind) as')) → OnOk r (new.repository.messages ≡ old.repository.messages) → OnOk r (new.message ≡ old.message)
    → OnOk r (HasTags new (tags ++ tag_of (EntryPart kind) as' ∷ []) × IsSoundTag tags (tag_of (EntryPart kind) as'))
entry_taken (Err e) old new tags kind as' has h messages message = tt
entry_taken (Ok x) old new tags kind as' has h messages message = (
  record {
    objects = entry_tag old new tags (tag_of (EntryPart kind) as') h.0.holds refl has.objects h.0.closed h.0.opened h.0.same;
    messages =
        subst (λ o. HasMessages o new.repository.messages (tags ++ tag_of (EntryPart kind) as' ∷ [])) (grown_plain old.repository.messages tags (tag_of (EntryPart kind) as') old.message has.messages refl refl ∙ sym message)
        (subst (λ ms. HasMessages (grown_if (tag_of (EntryPart kind) as') old.message) ms (tags ++ tag_of (EntryPart kind) as' ∷ [])) (sym messages) (other_message old.message old.repository.messages tags (tag_of (EntryPart kind) as') refl has.messages));
  },
  h.1,
)

pub message_taken : (old new : Loading) (tags : List FileTag) (as' : List Attribute) → HasTags old tags → HasMessages new.message new.repository.messages (tags ++ tag_of Message as' ∷ [])
    → new.repository.objects ≡ old.repository.objects → new.entry ≡ old.entry → HasTags new (tags ++ tag_of Message as' ∷ []) × IsSoundTag tags (tag_of Message as')
message_taken old new tags as' has messages objects entry = (
  record {
    objects = other_tag old new tags (tag_of Message as') refl has.objects objects (entry ∙ nothing old.entry);
    messages = messages;
  },
  sound_other tags (tag_of Message as') refl (λ e. true≢false (ap is_message e)) tt,
)

pub if_err : {A E : Type 0} {P Q : E → Type 0} (r : Result A E) → ((e : E) → P e → Q e) → IfErr r P → IfErr r Q
if_err (Ok x) f p = tt
if_err (Err e) f p = f e p
