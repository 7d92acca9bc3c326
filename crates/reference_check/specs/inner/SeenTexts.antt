-- The texts of the first codes of a set, as they are kept to find one twice.
use Rattle.std.specs.Prelude.{◌≡◌, ◌↔◌, ℕ, ◌<◌, Bool, List, Option, Some, None, IsTrue, slice_get}
use Rattle.std.specs.Borrow.{Bor}
use Rattle.std.specs.HashSet.{HashSet, contains_by}
use Rattle.std.specs.Str.{bytes_eq}
use Rattle.repo_objects.specs.declared.objects.CodeDef.{CodeDef}

-- the text is kept
abbrev pub is_seen : {S : Type 0} → HashSet (Bor (List ℕ)) S → List ℕ → Bool
is_seen seen text = contains_by (λ k. bytes_eq text k.now) seen

-- each of the first n codes has a text of its own, and those are kept
pub record SeenTexts (text : CodeDef → Option (List ℕ)) (cs : List CodeDef) (n : ℕ) (seen : List ℕ → Bool) : Type 0 where
  pub texted : (i : ℕ) (a : CodeDef) → i < n → slice_get cs i ≡ Some a → text a ≡ None → ⊥
  pub apart : (i j : ℕ) (a b : CodeDef) (t : List ℕ) → i < j → j < n → slice_get cs i ≡ Some a → slice_get cs j ≡ Some b → text a ≡ Some t → text b ≡ Some t → ⊥
  pub kept : (t : List ℕ) → IsTrue (seen t) ↔ ((i : ℕ) × (a : CodeDef) × (i < n) × (slice_get cs i ≡ Some a) × (text a ≡ Some t))
