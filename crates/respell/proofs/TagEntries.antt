-- The attributes of a start tag of a fragment, as the reader tells them, and the rules that the tag keeps.
use Rattle.std.proofs.Common.{◌≡◌, ℕ, ◌+◌, inl, inr, false, ◌||◌, List, [], ◌∷◌, ◌++◌, map, Option, Some, refl, sym, ap, ap₂, subst, ◌∙◌, arith}
use Rattle.std.specs.List.{AllByRecursion}
use Rattle.std.specs.Str.{bytes_eq}
use Rattle.std.specs.declared.cmp.Ordering.{Ordering}
use Rattle.std.specs.declared.cmp.Ordering.TheVariants.{Less}
use Rattle.std.proofs.lemmas.Bool.{cases_Bool}
use Rattle.std.proofs.lemmas.Bool.Decides.{nat_tests}
use Rattle.std.specs.Ordering.{nat_cmp}
use Rattle.std.specs.Cmp.Lexicographic.{slice_cmp}
use Rattle.std.specs.declared.cmp.Ordering.TheVariants.{Equal, Greater}
use Rattle.std.proofs.lemmas.List.{map-append}
use Rattle.lexical_core.specs.Tree.{Expanded, Entry}
use Rattle.lexical_core.specs.Names.{name_cmp}
use Rattle.lexical_core.proofs.EqualBytes.{equal_bytes}
use Rattle.markup.specs.declared.tag.Given.{Given}
use Rattle.markup.specs.declared.tag.Opening.{Opening}
use Rattle.markup.specs.Events.{attribute_name, entries, put}
use Rattle.markup.specs.Faults.{same_expanded}
use Rattle.fragments.specs.Plain.{ArePlainEntries}
use Rattle.fragments.specs.Fragment.{Written, is_xml, is_default, default_declaration, namespaces_of, numbered_declarations, attribute_written, tag_contents}
use Rattle.respell.proofs.Attributes.{given_as}
use Rattle.respell.proofs.Resolving.{no_declaration}
use Rattle.respell.proofs.TagNames.{opening_of, Knows, attribute_is, IsOneOf}

cmp_self : (n : ℕ) → nat_cmp n n ≡ Equal
cmp_self n = grind (arith, nat_tests)

slice_self : (a : List ℕ) → slice_cmp nat_cmp a a ≡ Equal
slice_self [] = refl
slice_self (x ∷ a) = rw (cmp_self x, slice_self a) refl

order_self : (a : Expanded) → name_cmp a a ≡ Equal
order_self a = rw (slice_self a.namespace, slice_self a.local) refl

-- names in order are two
pub less_other : (a b : Expanded) → name_cmp a b ≡ Less → same_expanded (Some a) (Some b) ≡ false
less_other a b h = elim (cases_Bool (bytes_eq a.namespace b.namespace)) as (λ _. same_expanded (Some a) (Some b) ≡ false) [
  | inr f ↦ rw f refl
  | inl t ↦ rw t (elim (cases_Bool (bytes_eq a.local b.local)) [
    | inr f ↦ f
    | inl u ↦ absurd (let same : a ≡ b = ap₂ (λ (x y : List ℕ). record { namespace = x; local = y }) (equal_bytes _ _ t) (equal_bytes _ _ u) in
        let e : name_cmp a b ≡ Equal = subst (λ (c : Expanded). name_cmp a c ≡ Equal) same (order_self a) in
        let z : Less ≡ Equal = sym h ∙ e in cc)
  ])
]

put_first : (e : Entry) (es : List Entry) → AllByRecursion (λ f. name_cmp e.name f.name ≡ Less) es → put e es ≡ e ∷ es
put_first e [] h = refl
put_first e (f ∷ es) h = ap (λ (o : Ordering). elim o as (λ _. List Entry) [ Less ↦ e ∷ f ∷ es | Equal ↦ e ∷ f ∷ es | Greater ↦ f ∷ put e es ]) h.0

-- the attributes are told, and no declaration
entries_default : (tags : List Opening) (default : Option (List ℕ)) (name : Expanded) (more : List Given) → entries tags (map given_as (default_declaration default name) ++ more) ≡ entries tags more
entries_default tags default name more = elim (cases_Bool (is_xml name.namespace || is_default default name.namespace)) as (λ _. entries tags (map given_as (default_declaration default name) ++ more) ≡ entries tags more) [
  | inl h ↦ rw h refl
  | inr h ↦ rw h refl
]

entries_declared : (tags : List Opening) (k : ℕ) (nss : List (List ℕ)) (more : List Given) → entries tags (map given_as (numbered_declarations k nss) ++ more) ≡ entries tags more
entries_declared tags k [] more = refl
entries_declared tags k (n ∷ nss) more = entries_declared tags (k + 1) nss more

entries_attributes : (tags : List Opening) (nss : List (List ℕ)) (es : List Entry) → ArePlainEntries es → ((e : Entry) → IsOneOf e es → attribute_name tags (given_as (attribute_written nss e)).name ≡ Some e.name)
    → entries tags (map given_as (map (attribute_written nss) es)) ≡ es
entries_attributes tags nss [] p h = refl
entries_attributes tags nss (e ∷ es) p h =
    rw (no_declaration nss e p.0.0, h e (inl refl), entries_attributes tags nss es (p.0.1, p.1.1) (λ f one. h f (inr one))) (put_first e es p.1.0)

pub given_three : (default : Option (List ℕ)) (name : Expanded) (attributes : List Entry)
    → map given_as (tag_contents default name attributes) ≡ map given_as (default_declaration default name) ++ (map given_as (numbered_declarations 1 (namespaces_of attributes)) ++ map given_as (map (attribute_written (namespaces_of attributes)) attributes))
given_three default name attributes =
    let nss = namespaces_of attributes in
    let a : List Written = map (attribute_written nss) attributes in
    map-append given_as (default_declaration default name) (numbered_declarations 1 nss ++ a) ∙ ap (λ (l : List Given). map given_as (default_declaration default name) ++ l) (map-append given_as (numbered_declarations 1 nss) a)

pub entries_are : (default : Option (List ℕ)) (name : Expanded) (attributes : List Entry) (tags : List Opening) → ArePlainEntries attributes → Knows tags default
    → entries (opening_of default name attributes ∷ tags) (map given_as (tag_contents default name attributes)) ≡ attributes
entries_are default name attributes tags p k =
    let op = opening_of default name attributes in let nss = namespaces_of attributes in
    ap (entries (op ∷ tags)) (given_three default name attributes) ∙ (entries_default (op ∷ tags) default name _ ∙ (entries_declared (op ∷ tags) 1 nss _
    ∙ entries_attributes (op ∷ tags) nss attributes p (λ e one. attribute_is default name attributes tags e p.0 k one)))
