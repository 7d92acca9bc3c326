-- A whole start tag by its declarations and its attributes.
use Rattle.std.proofs.Common.{◌≡◌, ℕ, Bool, true, false, List, [], ◌∷◌, ◌||◌, ◌&&◌, Option, Some, None, refl, sym, ap, ◌∙◌}
use Rattle.std.specs.Bool.{if◌then◌else◌}
use Rattle.std.specs.Option.{is_none}
use Rattle.std.specs.List.{list_any, list_all}
use Rattle.lexical_core.proofs.Tests.{or_false}
use Rattle.markup.specs.declared.tag.Spelled.{Spelled}
use Rattle.markup.specs.declared.tag.Given.{Given}
use Rattle.markup.specs.declared.tag.Opening.{Opening}
use Rattle.markup.specs.Events.{declared_prefix, attribute_name, entries}
use Rattle.markup.specs.Faults.{same_declared, clash, has_clash, is_bad_declaration, is_bad_attribute}
use Rattle.markup.specs.inner.TagParts.{declares_none, plain_attributes, declares_twice, declares_badly, is_unbound}
use Rattle.markup.proofs.TagPartLemmas.{or_assoc, or_swap, any_false}

abbrev Prefix : Type 0
Prefix = Option (List ℕ)

any_same : {X : Type 0} (f g : X → Bool) → ((x : X) → f x ≡ g x) → (xs : List X) → list_any f xs ≡ list_any g xs
any_same f g same [] = refl
any_same f g same (x ∷ xs) = ap (λ b. b || list_any f xs) (same x) ∙ ap (λ b. g x || b) (any_same f g same xs)

pub all_plain : (given : List Given) → list_all declares_none (plain_attributes given) ≡ true
all_plain [] = refl
all_plain (a ∷ more) = case (declares_none a) refl (all_plain more)
  where
    case : (b : Bool) → declares_none a ≡ b → list_all declares_none (plain_attributes more) ≡ true → list_all declares_none (plain_attributes (a ∷ more)) ≡ true
    case true e so = simp (e, e) so
    case false e so = simp e so

pub whole_entries : (tags : List Opening) (given : List Given) → entries tags given ≡ entries tags (plain_attributes given)
whole_entries tags [] = refl
whole_entries tags (a ∷ more) = case (declares_none a) refl (whole_entries tags more)
  where
    case : (b : Bool) → declares_none a ≡ b → entries tags more ≡ entries tags (plain_attributes more) → entries tags (a ∷ more) ≡ entries tags (plain_attributes (a ∷ more))
    case true e so = simp (e, e, so)
    case false e so = simp (e, so)

-- ---- clashes

-- a declaration clashes with a declaration alone
declaration_clash : (tags : List Opening) (x : Spelled) (p : List ℕ) → declared_prefix x ≡ Some p → (y : Given) → clash tags x y.name ≡ same_declared (declared_prefix x) (declared_prefix y.name)
declaration_clash tags x p e y = simp e (or_false (same_declared (Some p) (declared_prefix y.name)))

-- an attribute clashes with an attribute alone
attribute_clash : (tags : List Opening) (x : Spelled) → declared_prefix x ≡ None → (given : List Given) → list_any (λ b. clash tags x b.name) given ≡ list_any (λ b. clash tags x b.name) (plain_attributes given)
attribute_clash tags x none [] = refl
attribute_clash tags x none (b ∷ more) = case (declared_prefix b.name) refl (attribute_clash tags x none more)
  where
    case : (d : Prefix) → declared_prefix b.name ≡ d → list_any (λ b. clash tags x b.name) more ≡ list_any (λ b. clash tags x b.name) (plain_attributes more) → list_any (λ b. clash tags x b.name) (b ∷ more) ≡ list_any (λ b. clash tags x b.name) (plain_attributes (b ∷ more))
    case None e so = simp (e, so)
    case (Some p) e so = simp (e, none, so)

pub whole_clash : (tags : List Opening) (given : List Given) → has_clash tags given ≡ (declares_twice given || has_clash tags (plain_attributes given))
whole_clash tags [] = refl
whole_clash tags (a ∷ more) = case (declared_prefix a.name) refl (whole_clash tags more)
  where
    case : (d : Prefix) → declared_prefix a.name ≡ d → has_clash tags more ≡ (declares_twice more || has_clash tags (plain_attributes more)) → has_clash tags (a ∷ more) ≡ (declares_twice (a ∷ more) || has_clash tags (plain_attributes (a ∷ more)))
    case None e so =
        let among : Bool = list_any (λ b. clash tags a.name b.name) (plain_attributes more) in
        let again : Bool = list_any (λ b. same_declared (declared_prefix a.name) (declared_prefix b.name)) more in
        let rest : Bool = has_clash tags (plain_attributes more) in
        let kept : has_clash tags (plain_attributes (a ∷ more)) ≡ (among || rest) = ap (λ d. has_clash tags (if is_none d then a ∷ plain_attributes more else plain_attributes more)) e in
        let alone : again ≡ false = ap (λ d. list_any (λ b. same_declared d (declared_prefix b.name)) more) e ∙ any_false more in
        ap (λ b. list_any (λ b. clash tags a.name b.name) more || b) so ∙ ap (λ b. b || (declares_twice more || rest)) (attribute_clash tags a.name e more)
        ∙ or_swap among (declares_twice more) rest ∙ sym (ap (λ b. (b || declares_twice more) || (among || rest)) alone) ∙ ap (λ b. (again || declares_twice more) || b) (sym kept)
    case (Some p) e so =
        let again : Bool = list_any (λ b. same_declared (declared_prefix a.name) (declared_prefix b.name)) more in
        let rest : Bool = has_clash tags (plain_attributes more) in
        let left : has_clash tags (plain_attributes (a ∷ more)) ≡ rest = ap (λ d. has_clash tags (if is_none d then a ∷ plain_attributes more else plain_attributes more)) e in
        ap (λ b. b || has_clash tags more) (any_same (λ b. clash tags a.name b.name) (λ b. same_declared (declared_prefix a.name) (declared_prefix b.name)) (declaration_clash tags a.name p e) more)
        ∙ ap (λ b. again || b) so ∙ sym (or_assoc again (declares_twice more) rest) ∙ ap (λ b. (again || declares_twice more) || b) (sym left)

-- ---- what may not be

pub whole_bad : (tags : List Opening) (given : List Given) → list_any (is_bad_attribute tags) given ≡ (list_any declares_badly given || list_any (is_unbound tags) (plain_attributes given))
whole_bad tags [] = refl
whole_bad tags (a ∷ more) = case (declared_prefix a.name) refl (whole_bad tags more)
  where
    case : (d : Prefix) → declared_prefix a.name ≡ d → list_any (is_bad_attribute tags) more ≡ (list_any declares_badly more || list_any (is_unbound tags) (plain_attributes more)) → list_any (is_bad_attribute tags) (a ∷ more) ≡ (list_any declares_badly (a ∷ more) || list_any (is_unbound tags) (plain_attributes (a ∷ more)))
    case None e so =
        let unbound : Bool = is_unbound tags a in
        let rest : Bool = list_any (is_unbound tags) (plain_attributes more) in
        let kept : list_any (is_unbound tags) (plain_attributes (a ∷ more)) ≡ (unbound || rest) = ap (λ d. list_any (is_unbound tags) (if is_none d then a ∷ plain_attributes more else plain_attributes more)) e in
        let fine : declares_badly a ≡ false = ap (λ d. is_bad_declaration d a.value) e in
        let bad : is_bad_attribute tags a ≡ unbound = ap (λ d. is_bad_declaration d a.value || (is_none d && is_none (attribute_name tags a.name))) e in
        ap (λ b. b || list_any (is_bad_attribute tags) more) bad ∙ ap (λ b. unbound || b) so
        ∙ or_swap unbound (list_any declares_badly more) rest ∙ sym (ap (λ b. (b || list_any declares_badly more) || (unbound || rest)) fine) ∙ ap (λ b. (declares_badly a || list_any declares_badly more) || b) (sym kept)
    case (Some p) e so =
        let rest : Bool = list_any (is_unbound tags) (plain_attributes more) in
        let left : list_any (is_unbound tags) (plain_attributes (a ∷ more)) ≡ rest = ap (λ d. list_any (is_unbound tags) (if is_none d then a ∷ plain_attributes more else plain_attributes more)) e in
        let bad : is_bad_attribute tags a ≡ declares_badly a = ap (λ d. declares_badly a || (is_none d && is_none (attribute_name tags a.name))) e ∙ or_false (declares_badly a) in
        ap (λ b. b || list_any (is_bad_attribute tags) more) bad ∙ ap (λ b. declares_badly a || b) so
        ∙ sym (or_assoc (declares_badly a) (list_any declares_badly more) rest) ∙ ap (λ b. (declares_badly a || list_any declares_badly more) || b) (sym left)
