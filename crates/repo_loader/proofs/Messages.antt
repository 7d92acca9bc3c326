-- What a repository says of messages, by the last message's tag.
use Rattle.std.proofs.Common.{◌≡◌, ℕ, Bool, true, false, true≢false, List, [], ◌∷◌, ◌++◌, if◌then◌else◌, refl, ap, ◌∙◌}
use Rattle.repo_objects.specs.declared.objects.ElementDef.{ElementDef}
use Rattle.repo_objects.specs.declared.objects.MessageDef.{MessageDef}
use Rattle.repo_loader.specs.Selected.{FileTag}
use Rattle.repo_loader.specs.File.{is_message, is_message_tag, own_blocks, own_identifiers, behind, first_or_empty, message, messages}
use Rattle.repo_loader.specs.inner.FileSteps.{has_stop}

module _ {A : Type 0} (stops : FileTag → Bool) (own : FileTag → List A) where
  same_more : (b : Bool) (u : FileTag) (xs ys : List A) → xs ≡ ys → (if b then [] else own u ++ xs) ≡ (if b then [] else own u ++ ys)
  same_more true u xs ys h = refl
  same_more false u xs ys h = ap (λ l. own u ++ l) h

  -- what stands behind a tag that stops adds nothing
  pub behind_front : (ts : List FileTag) (m : FileTag) (us : List FileTag) → stops m ≡ true → behind stops own (ts ++ m ∷ us) ≡ behind stops own ts
  behind_front [] m us h = ap (λ (b : Bool). if b then [] else own m ++ behind stops own us) h
  behind_front (t ∷ ts) m us h = same_more (stops t) t (behind stops own (ts ++ m ∷ us)) (behind stops own ts) (behind_front ts m us h)

pub no_messages : (ts : List FileTag) → has_stop is_message_tag ts ≡ false → messages ts ≡ []
no_messages [] h = refl
no_messages (t ∷ ts) h = by (is_message t.part) h (no_messages ts)
  where
    by : (b : Bool) → (if b then true else has_stop is_message_tag ts) ≡ false → (has_stop is_message_tag ts ≡ false → messages ts ≡ [])
        → (if b then message t.attributes ts ∷ messages ts else messages ts) ≡ []
    by true k later = absurd (true≢false k)
    by false k later = later k

-- a message with these building blocks and identifiers
abbrev pub message_with : FileTag → List ElementDef → List (List ℕ) → MessageDef
message_with t bs ids = record (message t.attributes []) { id = first_or_empty ids; blocks = bs }

-- the messages up to the last, and the last with what stands behind its tag
pub messages_split : (before : List FileTag) (m : FileTag) (after : List FileTag) → is_message m.part ≡ true → has_stop is_message_tag after ≡ false
    → messages (before ++ m ∷ after) ≡ messages before ++ message m.attributes after ∷ []
messages_split [] m after h k =
    ap (λ (b : Bool). if b then message m.attributes after ∷ messages after else messages after) h ∙ ap (λ l. message m.attributes after ∷ l) (no_messages after k)
messages_split (t ∷ before) m after h k =
    by (is_message t.part) (messages_split before m after h k)
    (λ i. message_with t (behind_front is_message_tag own_blocks before m after h i) (behind_front is_message_tag own_identifiers before m after h i))
  where
    by : (b : Bool) → messages (before ++ m ∷ after) ≡ messages before ++ message m.attributes after ∷ []
        → message t.attributes (before ++ m ∷ after) ≡ message t.attributes before
        → (if b then message t.attributes (before ++ m ∷ after) ∷ messages (before ++ m ∷ after) else messages (before ++ m ∷ after))
        ≡ (if b then message t.attributes before ∷ messages before else messages before) ++ message m.attributes after ∷ []
    by true later same = λ i. same i ∷ later i
    by false later same = later
