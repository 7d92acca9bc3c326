-- The first element that breaks a rule is one, and stays the first where more elements come.
use Rattle.std.proofs.Common.{◌≡◌, ℕ, ◌≤◌, List, [], ◌∷◌, ◌++◌, sym, ap, ◌∙◌, subst, append_assoc, append-nil, arith}
use Rattle.repo_loader.specs.Selected.{FileTag, PlacedTag}
use Rattle.repo_loader.specs.FileFaults.{BreaksTagRule, AreSoundTags, tags_of, IsFirstBroken}

-- an element that breaks a rule behind these, and the least rule
abbrev IsBroken : List FileTag → PlacedTag → ℕ → Type 0
IsBroken acc t rule = BreaksTagRule acc t.tag rule × ((other : ℕ) → BreaksTagRule acc t.tag other → rule ≤ other)

same_head : (t u : PlacedTag) (ts us : List PlacedTag) → t ∷ ts ≡ u ∷ us → t ≡ u
same_head t u ts us e = cc

same_tail : (t u : PlacedTag) (ts us : List PlacedTag) → t ∷ ts ≡ u ∷ us → ts ≡ us
same_tail t u ts us e = cc

moved : (acc : List FileTag) (t : PlacedTag) (b : List PlacedTag) → acc ++ tags_of (t ∷ b) ≡ (acc ++ t.tag ∷ []) ++ tags_of b
moved acc t b = sym (append_assoc acc (t.tag ∷ []) (tags_of b))

one_from : (acc : List FileTag) (b c : List PlacedTag) (t u : PlacedTag) (xs ys : List PlacedTag) (r s : ℕ) → b ++ t ∷ xs ≡ c ++ u ∷ ys → AreSoundTags acc b → AreSoundTags acc c
    → IsBroken (acc ++ tags_of b) t r → IsBroken (acc ++ tags_of c) u s → (r ≡ s) × (t ≡ u)
one_from acc [] [] t u xs ys r s e bs cs h k =
    let same = same_head t u xs ys e in
    let h' : IsBroken (acc ++ []) u r = subst (λ (v : PlacedTag). IsBroken (acc ++ []) v r) same h in
    let one = h'.1 s k.0 in
    let other = k.1 r h'.0 in
    (omega (arith, one, other), same)
one_from acc [] (v ∷ c) t u xs ys r s e bs cs h k =
    let same = same_head t v xs (c ++ u ∷ ys) e in
    absurd (cs.0 r (subst (λ (w : PlacedTag). BreaksTagRule acc w.tag r) same (subst (λ a. BreaksTagRule a t.tag r) (append-nil acc) h.0)))
one_from acc (v ∷ b) [] t u xs ys r s e bs cs h k =
    let same = same_head v u (b ++ t ∷ xs) ys e in
    absurd (bs.0 s (subst (λ (w : PlacedTag). BreaksTagRule acc w.tag s) (sym same) (subst (λ a. BreaksTagRule a u.tag s) (append-nil acc) k.0)))
one_from acc (v ∷ b) (w ∷ c) t u xs ys r s e bs cs h k =
    let same = same_head v w (b ++ t ∷ xs) (c ++ u ∷ ys) e in
    one_from (acc ++ v.tag ∷ []) b c t u xs ys r s (same_tail v w (b ++ t ∷ xs) (c ++ u ∷ ys) e) bs.1
    (subst (λ (x : PlacedTag). AreSoundTags (acc ++ x.tag ∷ []) c) (sym same) cs.1)
    (subst (λ a. IsBroken a t r) (moved acc v b) h)
    (subst (λ (x : PlacedTag). IsBroken ((acc ++ x.tag ∷ []) ++ tags_of c) u s) (sym same) (subst (λ a. IsBroken a u s) (moved acc w c) k))

-- one rule and one place
pub one_first : (tags : List PlacedTag) (r s p q : ℕ) → IsFirstBroken tags r p → IsFirstBroken tags s q → (r ≡ s) × (p ≡ q)
one_first tags r s p q h k =
    let one = one_from [] h.before k.before h.tag k.tag h.after k.after r s (sym h.split ∙ k.split) h.sound k.sound (h.broken, h.least) (k.broken, k.least) in
    (one.0, h.place_is ∙ ap (λ (t : PlacedTag). t.place) one.1 ∙ sym k.place_is)

-- more elements behind change nothing
pub first_of_more : (tags more : List PlacedTag) (r p : ℕ) → IsFirstBroken tags r p → IsFirstBroken (tags ++ more) r p
first_of_more tags more r p h = record {
  before = h.before;
  tag = h.tag;
  after = h.after ++ more;
  split = ap (λ l. l ++ more) h.split ∙ append_assoc h.before (h.tag ∷ h.after) more;
  sound = h.sound;
  broken = h.broken;
  least = h.least;
  place_is = h.place_is;
}

-- what breaks no rule has no first that does
pub sound_has_none : (acc : List FileTag) (b : List PlacedTag) (t : PlacedTag) (xs : List PlacedTag) (r : ℕ) → AreSoundTags acc (b ++ t ∷ xs) → BreaksTagRule (acc ++ tags_of b) t.tag r → ⊥
sound_has_none acc [] t xs r s h = s.0 r (subst (λ a. BreaksTagRule a t.tag r) (append-nil acc) h)
sound_has_none acc (v ∷ b) t xs r s h = sound_has_none (acc ++ v.tag ∷ []) b t xs r s.1 (subst (λ a. BreaksTagRule a t.tag r) (moved acc v b) h)
