-- What a prefix stands for, by all declarations of the open tags in one list.
use Rattle.std.proofs.Common.{◌≡◌, ℕ, Bool, true, false, List, [], ◌∷◌, ◌++◌, ◌==◌, length, Option, Some, None, refl, sym, ap, ◌∙◌, arith}
use Rattle.std.specs.Option.{option_or}
use Rattle.std.specs.Str.{bytes_eq}
use Rattle.std.proofs.lemmas.Bool.Decides.{nat_tests}
use Rattle.markup.specs.declared.tag.Given.{Given}
use Rattle.markup.specs.declared.tag.Opening.{Opening}
use Rattle.markup.specs.Events.{declared_prefix, same_prefix, bound_by, namespace_of}
use Rattle.markup.specs.Scopes.{declarations, all_declarations}

pub empty_is : (xs : List ℕ) → (length xs == 0) ≡ bytes_eq xs []
empty_is [] = refl
empty_is (x ∷ xs) = grind (arith, nat_tests)

-- ---- one list of declarations

or_assoc : {A : Type 0} (x y z : Option A) → option_or (option_or x y) z ≡ option_or x (option_or y z)
or_assoc None y z = refl
or_assoc (Some x) y z = refl

-- what is no declaration binds nothing
bound_by_declarations : (given : List Given) (prefix : List ℕ) → bound_by (declarations given) prefix ≡ bound_by given prefix
bound_by_declarations [] prefix = refl
bound_by_declarations (a ∷ more) prefix = case (declared_prefix a.name) refl (bound_by_declarations more prefix)
  where
    case : (d : Option (List ℕ)) → declared_prefix a.name ≡ d → bound_by (declarations more) prefix ≡ bound_by more prefix → bound_by (declarations (a ∷ more)) prefix ≡ bound_by (a ∷ more) prefix
    case None e so = simp e so
    case (Some p) e so = simp (e, so)

pub bound_by-append : (xs ys : List Given) (prefix : List ℕ) → bound_by (xs ++ ys) prefix ≡ option_or (bound_by xs prefix) (bound_by ys prefix)
bound_by-append [] ys prefix = refl
bound_by-append (a ∷ xs) ys prefix = case (same_prefix (declared_prefix a.name) prefix) refl (bound_by-append xs ys prefix)
  where
    case : (b : Bool) → same_prefix (declared_prefix a.name) prefix ≡ b → bound_by (xs ++ ys) prefix ≡ option_or (bound_by xs prefix) (bound_by ys prefix) → bound_by (a ∷ xs ++ ys) prefix ≡ option_or (bound_by (a ∷ xs) prefix) (bound_by ys prefix)
    case true e so = simp e refl
    case false e so = simp e so

-- the namespace of a prefix by all declarations of the open tags
pub namespace_is : (tags : List Opening) (prefix : List ℕ) → namespace_of tags prefix ≡ option_or (bound_by (all_declarations tags) prefix) (namespace_of [] prefix)
namespace_is [] prefix = refl
namespace_is (t ∷ tags) prefix =
    ap (λ o. option_or (bound_by t.given prefix) o) (namespace_is tags prefix)
    ∙ sym (or_assoc (bound_by t.given prefix) (bound_by (all_declarations tags) prefix) (namespace_of [] prefix))
    ∙ ap (λ o. option_or (option_or o (bound_by (all_declarations tags) prefix)) (namespace_of [] prefix)) (sym (bound_by_declarations t.given prefix))
    ∙ ap (λ o. option_or o (namespace_of [] prefix)) (sym (bound_by-append (declarations t.given) (all_declarations tags) prefix))
