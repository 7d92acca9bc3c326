-- What a repository says of messages grows with each element that is read.
use Rattle.std.proofs.Common.{◌≡◌, ℕ, Bool, true, false, true≢false, ◌||◌, List, [], ◌∷◌, ◌++◌, Option, Some, None, if◌then◌else◌, refl, sym, ap, ◌∙◌, append-nil, append_assoc}
use Rattle.lexical_core.proofs.Tests.{or_false, or_true}
use Rattle.repo_objects.specs.declared.objects.MessageDef.{MessageDef}
use Rattle.repo_objects.specs.declared.objects.ElementDef.{ElementDef}
use Rattle.repo_loader.specs.declared.loading.OpenMessage.{OpenMessage}
use Rattle.repo_loader.specs.Selected.{FileTag}
use Rattle.repo_loader.specs.inner.FileSteps.{has_stop}
use Rattle.repo_loader.specs.File.{is_message, is_message_tag, own_blocks, own_identifiers, behind, first_or_empty, message, messages}
use Rattle.repo_loader.specs.inner.LoadingSteps.{is_some_list, HasMessages, grown_if, open_messages, with_block, with_identifier}
use Rattle.repo_loader.proofs.Steps.{behind_open}
use Rattle.repo_loader.proofs.Messages.{no_messages, messages_split, message_with}

stop_snoc : (stops : FileTag → Bool) (ts : List FileTag) (t : FileTag) → has_stop stops ts ≡ false → stops t ≡ false → has_stop stops (ts ++ t ∷ []) ≡ false
stop_snoc stops [] t h k = ap (λ (b : Bool). if b then true else false) k
stop_snoc stops (u ∷ us) t h k = by (stops u) h (λ n. stop_snoc stops us t n k)
  where
    by : (b : Bool) → (if b then true else has_stop stops us) ≡ false → (has_stop stops us ≡ false → has_stop stops (us ++ t ∷ []) ≡ false) → (if b then true else has_stop stops (us ++ t ∷ [])) ≡ false
    by true h later = absurd (true≢false h)
    by false h later = later h

some_append : {A : Type 0} (xs ys : List A) → is_some_list (xs ++ ys) ≡ (is_some_list xs || is_some_list ys)
some_append [] ys = refl
some_append (x ∷ xs) ys = refl

first_append : (xs ys : List (List ℕ)) → first_or_empty (xs ++ ys) ≡ (if is_some_list xs then first_or_empty xs else first_or_empty ys)
first_append [] ys = refl
first_append (x ∷ xs) ys = refl

-- a tag that is no message's
pub other_message : (o : Option OpenMessage) (closed : List MessageDef) (tags : List FileTag) (t : FileTag) → is_message t.part ≡ false → HasMessages o closed tags
    → HasMessages (grown_if t o) closed (tags ++ t ∷ [])
other_message None closed tags t other (none, stop) = (none, stop_snoc is_message_tag tags t stop other)
other_message (Some o) closed tags t other h =
    let bs = behind is_message_tag own_blocks h.after in
    let ids = behind is_message_tag own_identifiers h.after in
    let ids_more : behind is_message_tag own_identifiers (h.after ++ t ∷ []) ≡ ids ++ own_identifiers t = behind_open is_message_tag own_identifiers h.after t h.last other in
    let bs_more : behind is_message_tag own_blocks (h.after ++ t ∷ []) ≡ bs ++ own_blocks t = behind_open is_message_tag own_blocks h.after t h.last other in
    record {
      before = h.before;
      tag = h.tag;
      after = h.after ++ t ∷ [];
      tags_are = ap (λ l. l ++ t ∷ []) h.tags_are ∙ append_assoc h.before (h.tag ∷ h.after) (t ∷ []);
      is = h.is;
      last = stop_snoc is_message_tag h.after t h.last other;
      closed_are = h.closed_are;
      message_is =
          (λ i. record (h.message_is i) { blocks = (h.message_is i).blocks ++ own_blocks t; id = if h.identified i then (h.message_is i).id else first_or_empty (own_identifiers t) })
          ∙ sym (λ i. record (message_with h.tag (bs_more i) (ids_more i)) { id = (ap first_or_empty ids_more ∙ first_append ids (own_identifiers t)) i });
      identified = ap (λ b. b || is_some_list (own_identifiers t)) h.identified ∙ sym (ap is_some_list ids_more ∙ some_append ids (own_identifiers t));
    }

-- a message's tag
pub message_tag : (o : Option OpenMessage) (closed now : List MessageDef) (tags : List FileTag) (t : FileTag) (new : OpenMessage) → is_message t.part ≡ true → HasMessages o closed tags
    → now ≡ messages tags → new ≡ record { message = message t.attributes []; identified = false } → HasMessages (Some new) now (tags ++ t ∷ [])
message_tag o closed now tags t new is h now_is new_is = record {
  before = tags;
  tag = t;
  after = [];
  tags_are = refl;
  is = is;
  last = refl;
  closed_are = sym now_is;
  message_is = ap (λ (x : OpenMessage). x.message) new_is;
  identified = ap (λ (x : OpenMessage). x.identified) new_is;
}

pub all_messages : (o : Option OpenMessage) (closed : List MessageDef) (tags : List FileTag) → HasMessages o closed tags → messages tags ≡ closed ++ open_messages o
all_messages None closed tags (none, stop) = no_messages tags stop ∙ sym none ∙ sym (append-nil closed)
all_messages (Some o) closed tags h = ap messages h.tags_are ∙ messages_split h.before h.tag h.after h.is h.last ∙ (λ i. h.closed_are i ++ sym h.message_is i ∷ [])

-- no identifier, no id
no_id : (o : OpenMessage) (closed : List MessageDef) (tags : List FileTag) → HasMessages (Some o) closed tags → o.identified ≡ false → o.message.id ≡ []
no_id o closed tags h none = ap (λ (m : MessageDef). m.id) h.message_is ∙ by (behind is_message_tag own_identifiers h.after) (sym h.identified ∙ none)
  where
    by : (ids : List (List ℕ)) → is_some_list ids ≡ false → first_or_empty ids ≡ []
    by [] k = refl
    by (id ∷ ids) k = absurd (true≢false k)

kept_id : (b : Bool) (id : List ℕ) → (b ≡ false → id ≡ []) → (if b then id else []) ≡ id
kept_id true id h = refl
kept_id false id h = sym (h refl)

module _ (closed : List MessageDef) (tags : List FileTag) (t : FileTag) where
  -- what neither is a block nor an identifier changes nothing
  pub grown_plain : (o : Option OpenMessage) → HasMessages o closed tags → own_blocks t ≡ [] → own_identifiers t ≡ [] → grown_if t o ≡ o
  grown_plain None h bs ids = refl
  grown_plain (Some o) h bs ids = λ i. Some (record {
    message = record o.message { blocks = (ap (λ l. o.message.blocks ++ l) bs ∙ append-nil o.message.blocks) i; id = (ap (λ l. if o.identified then o.message.id else first_or_empty l) ids ∙ kept_id o.identified o.message.id (no_id o closed tags h)) i };
    identified = (ap (λ l. o.identified || is_some_list l) ids ∙ or_false o.identified) i;
  })

  pub grown_block : (o : Option OpenMessage) (e : ElementDef) → HasMessages o closed tags → own_blocks t ≡ e ∷ [] → own_identifiers t ≡ [] → grown_if t o ≡ with_block e o
  grown_block None e h bs ids = refl
  grown_block (Some o) e h bs ids = λ i. Some (record {
    message = record o.message { blocks = o.message.blocks ++ bs i; id = (ap (λ l. if o.identified then o.message.id else first_or_empty l) ids ∙ kept_id o.identified o.message.id (no_id o closed tags h)) i };
    identified = (ap (λ l. o.identified || is_some_list l) ids ∙ or_false o.identified) i;
  })

  pub grown_identifier : (o : Option OpenMessage) (id : List ℕ) → own_blocks t ≡ [] → own_identifiers t ≡ id ∷ [] → grown_if t o ≡ with_identifier id o
  grown_identifier None id bs ids = refl
  grown_identifier (Some o) id bs ids = λ i. Some (record {
    message = record o.message { blocks = (ap (λ l. o.message.blocks ++ l) bs ∙ append-nil o.message.blocks) i; id = if o.identified then o.message.id else first_or_empty (ids i) };
    identified = (ap (λ l. o.identified || is_some_list l) ids ∙ or_true o.identified) i;
  })
