-- The parts of a start tag, one attribute after another from its end, and the whole tag by its parts.
use Rattle.std.proofs.Common.{◌≡◌, ℕ, Bool, true, false, List, [], ◌∷◌, ◌++◌, ◌||◌, Option, Some, None, refl, sym, ap, subst, ◌∙◌}
use Rattle.std.specs.List.{list_any}
use Rattle.markup.specs.declared.tag.Given.{Given}
use Rattle.markup.specs.declared.attributes.Declared.{Declared}
use Rattle.markup.specs.declared.bindings.Bindings.{Bindings}
use Rattle.markup.specs.Events.{declared_prefix}
use Rattle.markup.specs.inner.Bindings.{Binds, declares}
use Rattle.markup.specs.Scopes.{declarations}
use Rattle.markup.specs.inner.TagParts.{declares_twice, AreDeclared}

-- ---- tests

pub or_comm : (a b : Bool) → (a || b) ≡ (b || a)
or_comm true true = refl
or_comm true false = refl
or_comm false true = refl
or_comm false false = refl

pub or_assoc : (a b c : Bool) → ((a || b) || c) ≡ (a || (b || c))
or_assoc true b c = refl
or_assoc false b c = refl

pub or_swap : (a b c : Bool) → (a || (b || c)) ≡ (b || (a || c))
or_swap a b c = sym (or_assoc a b c) ∙ ap (λ x. x || c) (or_comm a b) ∙ or_assoc b a c

pub any_false : {X : Type 0} (xs : List X) → list_any (λ (x : X). false) xs ≡ false
any_false [] = refl
any_false (x ∷ xs) = any_false xs

-- ---- a prefix that is declared

any_declared : (given : List Given) (prefix : List ℕ) → list_any (declares prefix) (declarations given) ≡ list_any (declares prefix) given
any_declared [] prefix = refl
any_declared (a ∷ more) prefix = case (declared_prefix a.name) refl (any_declared more prefix)
  where
    case : (d : Option (List ℕ)) → declared_prefix a.name ≡ d → list_any (declares prefix) (declarations more) ≡ list_any (declares prefix) more → list_any (declares prefix) (declarations (a ∷ more)) ≡ list_any (declares prefix) (a ∷ more)
    case None e so = simp e so
    case (Some p) e so = simp (e, so)

-- ---- one more attribute before the others

-- it is open behind those that were before
pub declared_first : (before : List Given) (first : Given) (given : List Given) (prefix : List ℕ) (old : Declared) (kept more : Bindings) (count : ℕ) (again bad : Bool)
    → declared_prefix first.name ≡ Some prefix → Binds more (first ∷ (declarations given ++ before)) → again ≡ list_any (declares prefix) (declarations given)
    → AreDeclared before given old kept → AreDeclared before (first ∷ given) (record { count = count; has_clash = old.has_clash || again; is_bad = bad }) more
declared_first before first given prefix old kept more count again bad of_prefix is_more is_again was =
    let own : first ∷ declarations given ≡ declarations (first ∷ given) = simp of_prefix in
    record {
      kept_are = subst (λ ds. Binds more (ds ++ before)) own is_more;
      clash = or_comm old.has_clash again ∙ ap (λ b. b || old.has_clash) (is_again ∙ any_declared given prefix) ∙ ap (λ b. list_any (declares prefix) given || b) was.clash ∙ simp of_prefix;
    }

pub declared_plain : (before : List Given) (first : Given) (given : List Given) (old : Declared) (kept : Bindings) → declared_prefix first.name ≡ None
    → AreDeclared before given old kept → AreDeclared before (first ∷ given) old kept
declared_plain before first given old kept none was =
    let own : declarations given ≡ declarations (first ∷ given) = simp none in
    record {
      kept_are = subst (λ ds. Binds kept (ds ++ before)) own was.kept_are;
      clash = was.clash ∙ ap (λ b. b || declares_twice given) (sym (any_false given)) ∙ simp none;
    }
