-- The names and attributes of start tags that break no rule are plain.
use Rattle.std.proofs.Common.{◌≡◌, ◌≢◌, ℕ, inl, inr, Bool, true, false, ◌&&◌, not, List, [], ◌∷◌, map, Option, Some, None, refl, sym, ap, ap₂, subst, ◌∙◌, if◌then◌else◌}
use Rattle.std.specs.Prelude.{codes, is_none}
use Rattle.std.specs.List.{list_any, list_all, AllByRecursion}
use Rattle.std.specs.Option.{option_or}
use Rattle.std.specs.Str.{bytes_eq}
use Rattle.std.specs.declared.cmp.Ordering.{Ordering}
use Rattle.std.specs.declared.cmp.Ordering.TheVariants.{Less, Equal, Greater}
use Rattle.std.proofs.lemmas.Bool.{cases_Bool, true≢false, and_parts, or_parts}
use Rattle.std.proofs.lemmas.Option.{same_Some}
use Rattle.lexical_core.specs.Characters.{IsXmlText}
use Rattle.lexical_core.specs.Tree.{Expanded, Entry}
use Rattle.lexical_core.specs.Names.{name_cmp, xml_namespace, xmlns_namespace, xmlns}
use Rattle.lexical_core.proofs.EqualBytes.{equal_bytes, bytes_equal}
use Rattle.markup.specs.Attribute.{Attribute, is_attribute}
use Rattle.markup.specs.Chars.{is_xml_char}
use Rattle.markup.specs.declared.tag.Spelled.{Spelled}
use Rattle.markup.specs.declared.tag.Given.{Given}
use Rattle.markup.specs.declared.tag.Opening.{Opening}
use Rattle.markup.specs.Events.{given_attribute, declared_prefix, same_prefix, bound_by, namespace_of, expanded_in, element_name, attribute_name, entries, put, put_named}
use Rattle.markup.specs.Faults.{is_bad_declaration, is_bad_attribute}
use Rattle.markup.proofs.AttributeLemmas.{attribute_facts}
use Rattle.markup.proofs.PlainCharacters.{all_chars}
use Rattle.fragments.specs.Plain.{IsPart, IsPlainName, IsPlainEntry}
use Rattle.respell.proofs.PlainParts.{local_is_part, value_is_text}

-- an attribute or a declaration of a tag that breaks no rule
pub record IsSound (g : Given) : Type 0 where
  pub local : IsPart g.name.local
  pub value : IsXmlText g.value
  pub fine : is_bad_declaration (declared_prefix g.name) g.value ≡ false

pub record IsSoundTag (tag : Opening) : Type 0 where
  pub name : IsPart tag.name.local
  pub given : AllByRecursion IsSound tag.given

-- what a prefix may be bound to; the empty one stands for the default
record IsNamespace (prefix n : List ℕ) : Type 0 where
  text : IsXmlText n
  other : n ≢ xmlns_namespace
  some : bytes_eq prefix [] ≡ false → n ≢ []

declared_is : (prefix n : List ℕ) → IsXmlText n → is_bad_declaration (Some prefix) n ≡ false → IsNamespace prefix n
declared_is prefix n t f =
    let last = or_parts _ (not (bytes_eq prefix []) && bytes_eq n []) f in
    let reserved = or_parts _ (bytes_eq n xmlns_namespace) last.0 in record {
      text = t;
      other = λ e. absurd (true≢false (sym (bytes_equal n xmlns_namespace e) ∙ reserved.1));
      some = λ h e. absurd (true≢false (sym (ap₂ (λ (a b : Bool). not a && b) h (bytes_equal n [] e)) ∙ last.1));
    }

bound_is : (gs : List Given) (prefix n : List ℕ) → AllByRecursion IsSound gs → bound_by gs prefix ≡ Some n → IsNamespace prefix n
bound_is [] prefix n h e = absurd cc
bound_is (a ∷ gs) prefix n h e = step (declared_prefix a.name) a.value (bound_by gs prefix) h.0.value h.0.fine (bound_is gs prefix n h.1) e
  where
    step : (d : Option (List ℕ)) (v : List ℕ) (o : Option (List ℕ)) → IsXmlText v → is_bad_declaration d v ≡ false → (o ≡ Some n → IsNamespace prefix n) → (if same_prefix d prefix then Some v else o) ≡ Some n → IsNamespace prefix n
    step None v o t f k e = k e
    step (Some q) v o t f k e = elim (cases_Bool (bytes_eq q prefix)) [
      | inl y ↦ (let same : Some v ≡ Some n = sym (ap (λ (b : Bool). if b then Some v else o) y) ∙ e in
          subst (λ (p : List ℕ). IsNamespace p n) (equal_bytes q prefix y) (subst (λ (m : List ℕ). IsNamespace q m) (same_Some v n same) (declared_is q v t f)))
      | inr z ↦ k (sym (ap (λ (b : Bool). if b then Some v else o) z) ∙ e)
    ]

none_is : (prefix : List ℕ) → bytes_eq prefix [] ≡ true → IsNamespace prefix []
none_is prefix h = record { text = ([], tt, refl); other = λ e. absurd cc; some = λ g e. absurd (true≢false (sym h ∙ g)) }

xml_text : IsXmlText xml_namespace
unfolding is_xml_char lib.Utf8.encode
xml_text = (xml_namespace, all_chars xml_namespace refl, refl)

xml_is : (prefix : List ℕ) → IsNamespace prefix xml_namespace
xml_is prefix = record { text = xml_text; other = λ e. absurd (let h : bytes_eq xml_namespace xmlns_namespace ≡ true = bytes_equal _ _ e in true≢false (sym h)); some = λ h e. absurd cc }

namespace_is : (tags : List Opening) (prefix n : List ℕ) → AllByRecursion IsSoundTag tags → namespace_of tags prefix ≡ Some n → IsNamespace prefix n
namespace_is [] prefix n h e = elim (cases_Bool (bytes_eq prefix [])) [
  | inl y ↦ (let same : Some [] ≡ Some n = sym (ap (λ (b : Bool). if b then Some [] else (if bytes_eq prefix (codes "xml") then Some xml_namespace else None)) y) ∙ e in
      subst (λ (m : List ℕ). IsNamespace prefix m) (same_Some [] n same) (none_is prefix y))
  | inr z ↦ (let rest : (if bytes_eq prefix (codes "xml") then Some xml_namespace else None) ≡ Some n = sym (ap (λ (b : Bool). if b then Some [] else (if bytes_eq prefix (codes "xml") then Some xml_namespace else None)) z) ∙ e in
      step (bytes_eq prefix (codes "xml")) rest)
]
  where
    step : (b : Bool) → (if b then Some xml_namespace else None) ≡ Some n → IsNamespace prefix n
    step true e = subst (λ (m : List ℕ). IsNamespace prefix m) (same_Some xml_namespace n e) (xml_is prefix)
    step false e = absurd cc
namespace_is (tag ∷ tags) prefix n h e = step (bound_by tag.given prefix) (namespace_of tags prefix) (bound_is tag.given prefix n h.0.given) (namespace_is tags prefix n h.1) e
  where
    step : (x o : Option (List ℕ)) → (x ≡ Some n → IsNamespace prefix n) → (o ≡ Some n → IsNamespace prefix n) → option_or x o ≡ Some n → IsNamespace prefix n
    step None o f g e = g e
    step (Some m) o f g e = f e

-- ---- the prefix `xml`

xml_declared : (d : Option (List ℕ)) (v : List ℕ) → is_bad_declaration d v ≡ false → same_prefix d (codes "xml") ≡ true → v ≡ xml_namespace
xml_declared None v f h = absurd cc
xml_declared (Some q) v f h =
    let name : q ≡ codes "xml" = equal_bytes q (codes "xml") h in
    let same : is_bad_declaration (Some (codes "xml")) v ≡ false = ap (λ (p : List ℕ). is_bad_declaration (Some p) v) (sym name) ∙ f in
    let first = or_parts (bytes_eq (codes "xml") xmlns) (not (bytes_eq v xml_namespace)) (or_parts _ (bytes_eq v xmlns_namespace) (or_parts _ (not (bytes_eq (codes "xml") []) && bytes_eq v []) same).0).0 in
    equal_bytes v xml_namespace (turned (bytes_eq v xml_namespace) first.1)
  where
    turned : (b : Bool) → not b ≡ false → b ≡ true
    turned true h = refl
    turned false h = absurd cc

xml_bound : (gs : List Given) → AllByRecursion IsSound gs → (o : Option (List ℕ)) → o ≡ Some xml_namespace → option_or (bound_by gs (codes "xml")) o ≡ Some xml_namespace
xml_bound [] h o e = e
xml_bound (a ∷ gs) h o e = elim (cases_Bool (same_prefix (declared_prefix a.name) (codes "xml"))) [
  | inl t ↦ ap (λ (b : Bool). option_or (if b then Some a.value else bound_by gs (codes "xml")) o) t ∙ ap (λ (l : List ℕ). Some l) (xml_declared (declared_prefix a.name) a.value h.0.fine t)
  | inr f ↦ ap (λ (b : Bool). option_or (if b then Some a.value else bound_by gs (codes "xml")) o) f ∙ xml_bound gs h.1 o e
]

-- it stands for its namespace everywhere
pub xml_everywhere : (tags : List Opening) → AllByRecursion IsSoundTag tags → namespace_of tags (codes "xml") ≡ Some xml_namespace
xml_everywhere [] h = refl
xml_everywhere (tag ∷ tags) h = xml_bound tag.given h.0.given (namespace_of tags (codes "xml")) (xml_everywhere tags h.1)

-- ---- names

-- the name of an element
pub element_is_plain : (tags : List Opening) (s : Spelled) (name : Expanded) → AllByRecursion IsSoundTag tags → IsPart s.local → element_name tags s ≡ Some name → IsPlainName name
element_is_plain tags s name h p e = step (namespace_of tags s.prefix) (λ n is. namespace_is tags s.prefix n h is) e
  where
    step : (o : Option (List ℕ)) → ((n : List ℕ) → o ≡ Some n → IsNamespace s.prefix n) → expanded_in o s.local ≡ Some name → IsPlainName name
    step None k e = absurd cc
    step (Some n) k e = subst IsPlainName (same_Some _ name e) (record { local = p; namespace = (k n refl).text; no_declaration = (k n refl).other })

-- without a prefix it is no declaration of the default
no_default : (s : Spelled) → bytes_eq s.prefix [] ≡ true → declared_prefix s ≡ None → s.local ≢ xmlns
no_default s y none l =
    let some : declared_prefix s ≡ Some [] = ap₂ (λ (p l : List ℕ). declared_prefix (record { prefix = p; local = l })) (equal_bytes s.prefix [] y) l in
    absurd cc

attribute_is_plain : (tags : List Opening) (s : Spelled) (value : List ℕ) (name : Expanded) → AllByRecursion IsSoundTag tags → IsPart s.local → IsXmlText value → declared_prefix s ≡ None → attribute_name tags s ≡ Some name
    → IsPlainEntry (record { name = name; value = value })
attribute_is_plain tags s value name h p v none e = elim (cases_Bool (bytes_eq s.prefix [])) [
  | inl y ↦ (let same : Some (record { namespace = []; local = s.local }) ≡ Some name = sym (ap (λ (b : Bool). expanded_in (if b then Some [] else namespace_of tags s.prefix) s.local) y) ∙ e in
      subst (λ (n : Expanded). IsPlainEntry (record { name = n; value = value })) (same_Some _ name same) (record { name = record { local = p; namespace = ([], tt, refl); no_declaration = λ e. absurd cc }; value = v; no_default = λ _. no_default s y none }))
  | inr z ↦ step (namespace_of tags s.prefix) (λ n is. namespace_is tags s.prefix n h is) z (sym (ap (λ (b : Bool). expanded_in (if b then Some [] else namespace_of tags s.prefix) s.local) z) ∙ e)
]
  where
    step : (o : Option (List ℕ)) → ((n : List ℕ) → o ≡ Some n → IsNamespace s.prefix n) → bytes_eq s.prefix [] ≡ false → expanded_in o s.local ≡ Some name → IsPlainEntry (record { name = name; value = value })
    step None k z e = absurd cc
    step (Some n) k z e = subst (λ (m : Expanded). IsPlainEntry (record { name = m; value = value })) (same_Some _ name e)
        (record { name = record { local = p; namespace = (k n refl).text; no_declaration = (k n refl).other }; value = v; no_default = λ empty. absurd ((k n refl).some z empty) })

all_put : (P : Entry → Type 0) (x : Entry) (ys : List Entry) → P x → AllByRecursion P ys → AllByRecursion P (put x ys)
all_put P x [] here all = (here, tt)
all_put P x (y ∷ ys) here all = case (name_cmp x.name y.name) (all_put P x ys here all.1)
  where
    case : (o : Ordering) → AllByRecursion P (put x ys) → AllByRecursion P (elim o as (λ _. List Entry) [ Less ↦ x ∷ y ∷ ys | Equal ↦ x ∷ y ∷ ys | Greater ↦ y ∷ put x ys ])
    case Less rest = (here, all)
    case Equal rest = (here, all)
    case Greater rest = (all.0, rest)

-- the attributes that are told
pub entries_are_plain : (tags : List Opening) (gs : List Given) → AllByRecursion IsSoundTag tags → AllByRecursion IsSound gs → AllByRecursion IsPlainEntry (entries tags gs)
entries_are_plain tags [] h g = tt
entries_are_plain tags (a ∷ gs) h g = step (declared_prefix a.name) (attribute_name tags a.name) (λ none name is. attribute_is_plain tags a.name a.value name h g.0.local g.0.value none is) (entries_are_plain tags gs h g.1)
  where
    step : (d : Option (List ℕ)) (n : Option Expanded) → (d ≡ None → (name : Expanded) → n ≡ Some name → IsPlainEntry (record { name = name; value = a.value })) → AllByRecursion IsPlainEntry (entries tags gs)
        → AllByRecursion IsPlainEntry (if is_none d then put_named a.value n (entries tags gs) else entries tags gs)
    step (Some p) n k all = all
    step None None k all = all
    step None (Some name) k all = all_put IsPlainEntry (record { name = name; value = a.value }) (entries tags gs) (k refl name refl) all

-- what a tag's attributes say
pub given_are_sound : (tags : List Opening) (attributes : List Attribute) → list_all is_attribute attributes ≡ true → list_any (is_bad_attribute tags) (map given_attribute attributes) ≡ false → AllByRecursion IsSound (map given_attribute attributes)
given_are_sound tags [] h g = tt
given_are_sound tags (a ∷ attributes) h g =
    let first = and_parts (is_attribute a) (list_all is_attribute attributes) h in
    let fine = or_parts (is_bad_attribute tags (given_attribute a)) (list_any (is_bad_attribute tags) (map given_attribute attributes)) g in
    let facts = attribute_facts a first.0 in
    (record { local = local_is_part a.name facts.name; value = value_is_text a.quote a.value facts.value; fine = (or_parts _ _ fine.0).0 }, given_are_sound tags attributes first.1 fine.1)
