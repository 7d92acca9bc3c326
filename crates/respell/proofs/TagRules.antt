-- A start tag of a fragment breaks no rule.
use Rattle.std.proofs.Common.{◌≡◌, ℕ, ◌+◌, ◌<◌, ◌≤◌, inl, inr, Bool, false, ◌||◌, List, [], ◌∷◌, ◌++◌, map, Option, Some, None, refl, sym, ap, ◌∙◌, arith, if◌then◌else◌}
use Rattle.std.specs.List.{list_any, AllByRecursion}
use Rattle.std.specs.Str.{bytes_eq}
use Rattle.std.specs.declared.cmp.Ordering.TheVariants.{Less}
use Rattle.std.proofs.lemmas.Bool.{cases_Bool, true≢false}
use Rattle.lexical_core.specs.Tree.{Expanded, Entry}
use Rattle.lexical_core.specs.Names.{name_cmp, xmlns, xmlns_namespace}
use Rattle.lexical_core.specs.Characters.{IsXmlText}
use Rattle.lexical_core.proofs.EqualBytes.{bytes_equal, other_bytes}
use Rattle.markup.specs.declared.tag.Spelled.{Spelled}
use Rattle.markup.specs.declared.tag.Given.{Given}
use Rattle.markup.specs.declared.tag.Opening.{Opening}
use Rattle.markup.specs.Events.{declared_prefix, attribute_name}
use Rattle.markup.specs.Faults.{clash, has_clash, is_bad_attribute, start_rule}
use Rattle.fragments.specs.Plain.{IsPlainName, IsPlainEntry, ArePlainEntries}
use Rattle.fragments.specs.Fragment.{is_xml, is_default, default_declaration, needs_none, before_others, namespaces_of, prefix_of, numbered_declarations, attribute_written, tag_contents}
use Rattle.respell.proofs.Attributes.{given_as}
use Rattle.respell.proofs.Prefixes.{other_prefix}
use Rattle.respell.proofs.Resolving.{no_declaration}
use Rattle.respell.proofs.TagNames.{opening_of, Knows, element_is, attribute_is, IsOneOf}
use Rattle.respell.proofs.TagEntries.{less_other, given_three}

-- what the namespaces are that attributes need declared
pub record IsDeclarable (n : List ℕ) : Type 0 where
  pub needed : needs_none n ≡ false
  pub reserved : bytes_eq n xmlns_namespace ≡ false
  pub text : IsXmlText n

needed_parts : (n : List ℕ) → needs_none n ≡ false → (bytes_eq n [] ≡ false) × (is_xml n ≡ false)
needed_parts n h = elim (cases_Bool (bytes_eq n [])) as (λ _. (bytes_eq n [] ≡ false) × (is_xml n ≡ false)) [
  | inl t ↦ absurd (true≢false (sym (rw t refl) ∙ h))
  | inr f ↦ elim (cases_Bool (is_xml n)) as (λ _. (bytes_eq n [] ≡ false) × (is_xml n ≡ false)) [ inl t ↦ absurd (true≢false (sym (rw (f, t) refl) ∙ h)) | inr g ↦ (f, g) ]
]

declarable_before : (n : List ℕ) (nss : List (List ℕ)) → IsDeclarable n → AllByRecursion IsDeclarable nss → AllByRecursion IsDeclarable (before_others n nss)
declarable_before n [] d h = (d, tt)
declarable_before n (x ∷ nss) d h = elim (cases_Bool (bytes_eq n x)) as (λ _. AllByRecursion IsDeclarable (before_others n (x ∷ nss))) [
  | inl t ↦ rw t h
  | inr f ↦ rw f (d, h)
]

pub declarable : (es : List Entry) → AllByRecursion IsPlainEntry es → AllByRecursion IsDeclarable (namespaces_of es)
declarable [] h = tt
declarable (e ∷ es) h = elim (cases_Bool (needs_none e.name.namespace)) as (λ _. AllByRecursion IsDeclarable (namespaces_of (e ∷ es))) [
  | inl t ↦ rw t (declarable es h.1)
  | inr f ↦ rw f (declarable_before e.name.namespace (namespaces_of es) (record { needed = f; reserved = other_bytes _ _ h.0.name.no_declaration; text = h.0.name.namespace }) (declarable es h.1))
]

-- no declaration clashes with an attribute
any_declared : (tags : List Opening) (x : Spelled) (p : List ℕ) (nss : List (List ℕ)) (es : List Entry) → declared_prefix x ≡ Some p → AllByRecursion IsPlainEntry es
    → list_any (λ (b : Given). clash tags x b.name) (map given_as (map (attribute_written nss) es)) ≡ false
any_declared tags x p nss [] d h = refl
any_declared tags x p nss (e ∷ es) d h = rw (d, no_declaration nss e h.0) (any_declared tags x p nss es d h.1)

any_append : (f : Given → Bool) (a b : List Given) → list_any f a ≡ false → list_any f b ≡ false → list_any f (a ++ b) ≡ false
any_append f [] b h g = g
any_append f (x ∷ a) b h g = elim (cases_Bool (f x)) as (λ _. list_any f ((x ∷ a) ++ b) ≡ false) [
  | inl t ↦ absurd (true≢false (sym (rw t refl) ∙ h))
  | inr k ↦ rw k (any_append f a b (sym (rw k refl) ∙ h) g)
]

-- nor with one of another prefix
any_prefix : (tags : List Opening) (x : Spelled) (p : List ℕ) (k : ℕ) (nss : List (List ℕ)) → declared_prefix x ≡ Some p → ((j : ℕ) → k ≤ j → bytes_eq (prefix_of j) p ≡ false)
    → list_any (λ (b : Given). clash tags x b.name) (map given_as (numbered_declarations k nss)) ≡ false
any_prefix tags x p k [] d h = refl
any_prefix tags x p k (n ∷ nss) d h = rw (d, h k (omega arith)) (any_prefix tags x p (k + 1) nss d (λ j le. h j (omega (arith, le))))

-- nor an attribute with another
any_attribute : (tags : List Opening) (nss : List (List ℕ)) (e : Entry) (es : List Entry) → IsPlainEntry e → AllByRecursion IsPlainEntry es → AllByRecursion (λ f. name_cmp e.name f.name ≡ Less) es
    → attribute_name tags (given_as (attribute_written nss e)).name ≡ Some e.name → ((f : Entry) → IsOneOf f es → attribute_name tags (given_as (attribute_written nss f)).name ≡ Some f.name)
    → list_any (λ (b : Given). clash tags (given_as (attribute_written nss e)).name b.name) (map given_as (map (attribute_written nss) es)) ≡ false
any_attribute tags nss e [] p q o a b = refl
any_attribute tags nss e (f ∷ es) p q o a b =
    rw (no_declaration nss e p, no_declaration nss f q.0, a, b f (inl refl), less_other e.name f.name o.0) (any_attribute tags nss e es p q.1 o.1 a (λ g one. b g (inr one)))

clash_attributes : (tags : List Opening) (nss : List (List ℕ)) (es : List Entry) → ArePlainEntries es → ((f : Entry) → IsOneOf f es → attribute_name tags (given_as (attribute_written nss f)).name ≡ Some f.name)
    → has_clash tags (map given_as (map (attribute_written nss) es)) ≡ false
clash_attributes tags nss [] p b = refl
clash_attributes tags nss (e ∷ es) p b =
    rw (any_attribute tags nss e es p.0.0 p.0.1 p.1.0 (b e (inl refl)) (λ f one. b f (inr one))) (clash_attributes tags nss es (p.0.1, p.1.1) (λ f one. b f (inr one)))

clash_declared : (tags : List Opening) (k : ℕ) (nss all : List (List ℕ)) (es : List Entry) → AllByRecursion IsPlainEntry es → has_clash tags (map given_as (map (attribute_written all) es)) ≡ false
    → has_clash tags (map given_as (numbered_declarations k nss) ++ map given_as (map (attribute_written all) es)) ≡ false
clash_declared tags k [] all es p h = h
clash_declared tags k (n ∷ nss) all es p h =
    let x : Spelled = record { prefix = xmlns; local = prefix_of k } in
    let any : list_any (λ (b : Given). clash tags x b.name) (map given_as (numbered_declarations (k + 1) nss) ++ map given_as (map (attribute_written all) es)) ≡ false =
    any_append _ (map given_as (numbered_declarations (k + 1) nss)) _ (any_prefix tags x (prefix_of k) (k + 1) nss refl (λ j le. other_prefix_up k j (omega (arith, le)))) (any_declared tags x (prefix_of k) all es refl p) in
    rw any (clash_declared tags (k + 1) nss all es p h)
  where
    other_prefix_up : (k j : ℕ) → k < j → bytes_eq (prefix_of j) (prefix_of k) ≡ false
    other_prefix_up k j lt = other_bytes (prefix_of j) (prefix_of k) (λ e. absurd (true≢false (sym (bytes_equal _ _ (sym e)) ∙ other_prefix k j lt)))

clash_default : (tags : List Opening) (default : Option (List ℕ)) (name : Expanded) (nss all : List (List ℕ)) (es : List Entry) → AllByRecursion IsPlainEntry es
    → has_clash tags (map given_as (numbered_declarations 1 nss) ++ map given_as (map (attribute_written all) es)) ≡ false
    → has_clash tags (map given_as (default_declaration default name) ++ (map given_as (numbered_declarations 1 nss) ++ map given_as (map (attribute_written all) es))) ≡ false
clash_default tags default name nss all es p h = elim (cases_Bool (is_xml name.namespace || is_default default name.namespace)) as (λ _. has_clash tags (map given_as (default_declaration default name) ++ (map given_as (numbered_declarations 1 nss) ++ map given_as (map (attribute_written all) es))) ≡ false) [
  | inl t ↦ rw t h
  | inr f ↦ (let x : Spelled = record { prefix = []; local = xmlns } in
      let any : list_any (λ (b : Given). clash tags x b.name) (map given_as (numbered_declarations 1 nss) ++ map given_as (map (attribute_written all) es)) ≡ false =
      any_append _ (map given_as (numbered_declarations 1 nss)) _ (any_prefix tags x [] 1 nss refl (λ j le. refl)) (any_declared tags x [] all es refl p) in
      rw (f, any) h)
]

pub clash_none : (default : Option (List ℕ)) (name : Expanded) (attributes : List Entry) (tags : List Opening) → ArePlainEntries attributes → Knows tags default
    → has_clash (opening_of default name attributes ∷ tags) (map given_as (tag_contents default name attributes)) ≡ false
clash_none default name attributes tags p k =
    let op = opening_of default name attributes in let nss = namespaces_of attributes in
    ap (has_clash (op ∷ tags)) (given_three default name attributes) ∙ clash_default (op ∷ tags) default name nss nss attributes p.0 (
    clash_declared (op ∷ tags) 1 nss nss attributes p.0 (clash_attributes (op ∷ tags) nss attributes p (λ e one. attribute_is default name attributes tags e p.0 k one)))

-- no declaration is one that may not be
bad_attributes : (tags : List Opening) (nss : List (List ℕ)) (es : List Entry) → AllByRecursion IsPlainEntry es → ((f : Entry) → IsOneOf f es → attribute_name tags (given_as (attribute_written nss f)).name ≡ Some f.name)
    → list_any (is_bad_attribute tags) (map given_as (map (attribute_written nss) es)) ≡ false
bad_attributes tags nss [] p b = refl
bad_attributes tags nss (e ∷ es) p b = rw (no_declaration nss e p.0, b e (inl refl)) (bad_attributes tags nss es p.1 (λ f one. b f (inr one)))

bad_declared : (tags : List Opening) (k : ℕ) (nss : List (List ℕ)) → AllByRecursion IsDeclarable nss → list_any (is_bad_attribute tags) (map given_as (numbered_declarations k nss)) ≡ false
bad_declared tags k [] h = refl
bad_declared tags k (n ∷ nss) h = (let parts = needed_parts n h.0.needed in rw (parts.0, parts.1, h.0.reserved) (bad_declared tags (k + 1) nss h.1))

bad_default : (tags : List Opening) (default : Option (List ℕ)) (name : Expanded) → IsPlainName name → list_any (is_bad_attribute tags) (map given_as (default_declaration default name)) ≡ false
bad_default tags default name p = elim (cases_Bool (is_xml name.namespace)) as (λ _. list_any (is_bad_attribute tags) (map given_as (default_declaration default name)) ≡ false) [
  | inl x ↦ rw x refl
  | inr x ↦ rw x (elim (cases_Bool (is_default default name.namespace)) as (λ _. list_any (is_bad_attribute tags) (map given_as (if false || is_default default name.namespace then [] else record { name = record { prefix = []; local = xmlns }; value = name.namespace } ∷ [])) ≡ false) [
    | inl d ↦ rw d refl
    | inr d ↦ rw (d, x, other_bytes name.namespace xmlns_namespace p.no_declaration) refl
  ])
]

pub bad_none : (default : Option (List ℕ)) (name : Expanded) (attributes : List Entry) (tags : List Opening) → IsPlainName name → ArePlainEntries attributes → Knows tags default
    → list_any (is_bad_attribute (opening_of default name attributes ∷ tags)) (map given_as (tag_contents default name attributes)) ≡ false
bad_none default name attributes tags n p k =
    let op = opening_of default name attributes in let nss = namespaces_of attributes in
    ap (list_any (is_bad_attribute (op ∷ tags))) (given_three default name attributes) ∙ any_append _ (map given_as (default_declaration default name)) _ (bad_default (op ∷ tags) default name n)
    (any_append _ (map given_as (numbered_declarations 1 nss)) _ (bad_declared (op ∷ tags) 1 nss (declarable attributes p.0)) (bad_attributes (op ∷ tags) nss attributes p.0 (λ e one. attribute_is default name attributes tags e p.0 k one)))

-- the start tag keeps all rules where the root is not closed
pub start_clean : (default : Option (List ℕ)) (name : Expanded) (attributes : List Entry) (tags : List Opening) → IsPlainName name → ArePlainEntries attributes → Knows tags default
    → start_rule false tags (opening_of default name attributes) ≡ None
start_clean default name attributes tags n p k =
    rw (clash_none default name attributes tags p k, element_is default name attributes tags p.0 k, bad_none default name attributes tags n p k) refl
