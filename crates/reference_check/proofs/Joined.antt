-- Tests of two lists, of which either says that something is in one of them.
use Rattle.std.proofs.Common.{◌≡◌, ℕ, zero, suc, arith, ◌<◌, Bool, true, false, ◌||◌, List, [], ◌∷◌, ◌++◌, map, refl, ap, ◌∙◌, subst, sym, inl, inr, Contains}
use Rattle.std.specs.Prelude.{IsTrue, ◌↔◌}
use Rattle.std.proofs.lemmas.List.{length-map, get_or-map}
use Rattle.std.proofs.lemmas.List.Elements.{Contains-append_left, Contains-append_right, Contains-append_cases}
use Rattle.lexical_core.proofs.Tests.{either}
use Rattle.repo_objects.specs.declared.objects.ElementDef.{ElementDef}
use Rattle.repo_objects.specs.Repository.{Contents}
use Rattle.reference_check.specs.Names.{is_profile_name}
use Rattle.reference_check.specs.Rules.{HasBadName}
use Rattle.reference_check.specs.inner.Subjects.{NamesNoEntry}

pub by_first : (a b : Bool) → IsTrue a → IsTrue (a || b)
by_first true b t = refl
by_first false b t = cc

pub by_second : (a b : Bool) → IsTrue b → IsTrue (a || b)
by_second true b t = refl
by_second false b t = t

pub names_none-append : (R : Contents) (xs ys : List (List ℕ)) (a b : Bool) → (IsTrue a ↔ NamesNoEntry R xs) → (IsTrue b ↔ NamesNoEntry R ys)
    → IsTrue (a || b) ↔ NamesNoEntry R (xs ++ ys)
names_none-append R xs ys a b first second = (forward, backward)
  where
    forward : IsTrue (a || b) → NamesNoEntry R (xs ++ ys)
    forward t = elim (either a b t) [
      | inl s ↦ (let h : NamesNoEntry R xs = first.0 s in (h.0, Contains-append_left xs ys h.0 h.1, h.2))
      | inr s ↦ (let h : NamesNoEntry R ys = second.0 s in (h.0, Contains-append_right xs ys h.0 h.1, h.2))
    ]

    backward : NamesNoEntry R (xs ++ ys) → IsTrue (a || b)
    backward (id, has, none) = elim (Contains-append_cases xs ys id has) [
      | inl h ↦ by_first a b (first.1 (id, h, none))
      | inr h ↦ by_second a b (second.1 (id, h, none))
    ]

-- a list of tags has what an element's tag is
pub tag_contained : (es : List ElementDef) (e : ElementDef) → Contains es e → Contains (map (λ (x : ElementDef). x.tag) es) e.tag
tag_contained es e (k, l, at) =
    (k, subst (λ n. k < n) (sym (length-map es (λ (x : ElementDef). x.tag))) l, get_or-map (λ (x : ElementDef). x.tag) es k e e.tag l ∙ ap (λ (x : ElementDef). x.tag) at)

pub contained_tag : (es : List ElementDef) (tag : List ℕ) → Contains (map (λ (x : ElementDef). x.tag) es) tag → (e : ElementDef) × Contains es e × (e.tag ≡ tag)
contained_tag [] tag (k, l, at) = absurd (omega (arith, l))
contained_tag (x ∷ es) tag (zero, l, at) = (x, (0, omega arith, refl), at)
contained_tag (x ∷ es) tag (suc k, l, at) = later (contained_tag es tag (k, omega arith, at))
  where
    later : (e : ElementDef) × Contains es e × (e.tag ≡ tag) → (e : ElementDef) × Contains (x ∷ es) e × (e.tag ≡ tag)
    later (e, has, same) = (e, Contains-append_right (x ∷ []) es e has, same)

pub bad_name-append : (names : List (List ℕ)) (es : List ElementDef) (a b : Bool) → (IsTrue a ↔ HasBadName names)
    → (IsTrue b ↔ ((e : ElementDef) × Contains es e × (is_profile_name e.tag ≡ false)))
    → IsTrue (a || b) ↔ HasBadName (names ++ map (λ (x : ElementDef). x.tag) es)
bad_name-append names es a b first second = (forward, backward)
  where
    tags : List (List ℕ)
    tags = map (λ (x : ElementDef). x.tag) es

    forward : IsTrue (a || b) → HasBadName (names ++ map (λ (x : ElementDef). x.tag) es)
    forward t = elim (either a b t) [
      | inl s ↦ (let h : HasBadName names = first.0 s in (h.0, Contains-append_left names _ h.0 h.1, h.2))
      | inr s ↦ (let h : (e : ElementDef) × Contains es e × (is_profile_name e.tag ≡ false) = second.0 s in (h.0.tag, Contains-append_right names _ h.0.tag (tag_contained es h.0 h.1), h.2))
    ]

    of_tag : (name : List ℕ) → is_profile_name name ≡ false → (e : ElementDef) × Contains es e × (e.tag ≡ name) → IsTrue b
    of_tag name bad (e, has, same) = second.1 (e, has, ap is_profile_name same ∙ bad)

    backward : HasBadName (names ++ map (λ (x : ElementDef). x.tag) es) → IsTrue (a || b)
    backward (name, has, bad) = elim (Contains-append_cases names _ name has) [
      | inl h ↦ by_first a b (first.1 (name, h, bad))
      | inr h ↦ by_second a b (of_tag name bad (contained_tag es name h))
    ]
