-- The list of messages, and the words that ask for a command.
use Rattle.std.proofs.Common.{◌≡◌, ℕ, zero, suc, Bool, true, false, IsTrue, List, [], ◌∷◌, length, get_or, Some, refl, ap}
use Rattle.std.specs.Prelude.{slice_get, String}
use Rattle.std.specs.Global.{Global}
use Rattle.repo_objects.specs.declared.objects.MessageDef.{MessageDef}
use Rattle.repo_objects.specs.MessageId.{is_message_id, IsMessageId}
use Rattle.repo_engine.specs.Texts.{message_line}
use Rattle.repo_engine.specs.Command.{list, message, drill, IsUnlisted, texts}

by_test : (b : Bool) → (IsTrue b → ⊥) → b ≡ false
by_test true h = absurd (h refl)
by_test false h = refl

-- a message whose identifier has not the form of one has no line
pub not_listed : (d : MessageDef) → (IsMessageId d.id → ⊥) → message_line d ≡ []
not_listed d h = rw (by_test (is_message_id d.id) h) refl

-- an item that is there, by its place
pub here : {A : Type 0} (xs : List A) (i : ℕ) (x : A) → Some x ≡ slice_get xs i → x ≡ get_or xs i x
here [] i x e = absurd (cc)
here (y ∷ ys) zero x e = cc
here (y ∷ ys) (suc i) x e = here ys i x e

-- as many texts as words
pub texts_length : (ws : List (String Global)) → length (texts ws) ≡ length ws
texts_length [] = refl
texts_length (w ∷ ws) = ap suc (texts_length ws)

-- a command has three words or four
pub unlisted_by_length : (ws : List (List ℕ)) → (length ws ≡ 3 → ⊥) → (length ws ≡ 4 → ⊥) → IsUnlisted ws
unlisted_by_length ws three four (list codes_word) form = three (ap length form.1)
unlisted_by_length ws three four (message verb codes_word id) form = four (ap length form.1)
unlisted_by_length ws three four (drill number size) (one, other, is, x, y, z) = three (ap length is)
