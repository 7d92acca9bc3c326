-- Lists of bytes and characters.
use Rattle.std.proofs.Common.{◌≡◌, ℕ, List, [], ◌∷◌, ◌++◌, refl, sym, ap, ◌∙◌, append_assoc}
use Rattle.std.specs.List.{flat_map}

pub flat_map-append : {A : Type 0} (f : A → List ℕ) (a b : List A) → flat_map f (a ++ b) ≡ flat_map f a ++ flat_map f b
flat_map-append f [] b = refl
flat_map-append f (x ∷ a) b = ap (λ (l : List ℕ). f x ++ l) (flat_map-append f a b) ∙ sym (append_assoc (f x) (flat_map f a) (flat_map f b))
