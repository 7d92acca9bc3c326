-- The names of a start tag of a fragment, as the reader expands them.
use Rattle.std.proofs.Common.{◌≡◌, ℕ, ◌≤◌, ◌⊎◌, inl, inr, true, false, ◌||◌, List, [], ◌∷◌, ◌++◌, map, Option, Some, None, refl, sym, ap, ap₂, subst, ◌∙◌, if◌then◌else◌}
use Rattle.std.specs.Prelude.{codes}
use Rattle.std.specs.List.{AllByRecursion}
use Rattle.std.specs.Option.{option_or}
use Rattle.std.specs.Str.{bytes_eq}
use Rattle.std.proofs.lemmas.Bool.{cases_Bool, true≢false}
use Rattle.std.proofs.lemmas.Option.{same_Some}
use Rattle.std.proofs.lemmas.List.{map-append}
use Rattle.lexical_core.specs.Tree.{Expanded, Entry}
use Rattle.lexical_core.specs.Names.{xml_namespace, xmlns}
use Rattle.lexical_core.proofs.EqualBytes.{equal_bytes}
use Rattle.markup.specs.declared.tag.Given.{Given}
use Rattle.markup.specs.declared.tag.Opening.{Opening}
use Rattle.markup.specs.Events.{bound_by, namespace_of, element_name, attribute_name, expanded_in}
use Rattle.markup.proofs.Lookups.{bound_by-append}
use Rattle.fragments.specs.Plain.{IsPlainEntry}
use Rattle.fragments.specs.Fragment.{Written, is_xml, element_spelling, is_default, default_within, default_declaration, needs_none, before_others, namespaces_of, prefix_of, numbered_declarations, number_among, attribute_prefix, attribute_written, tag_contents}
use Rattle.respell.proofs.Names.{read_as}
use Rattle.respell.proofs.Attributes.{given_as}
use Rattle.respell.proofs.Resolving.{unbound, bound_none, IsAmong, bound_number}

-- the start tag as it is read
abbrev pub opening_of : Option (List ℕ) → Expanded → List Entry → Opening
opening_of default name attributes = record { name = read_as (element_spelling name); given = map given_as (tag_contents default name attributes); is_empty = false }

-- what the tags round an element bind, where this default namespace stands so far in the fragment; where none does, what the default is outside is not asked
pub record Knows (tags : List Opening) (default : Option (List ℕ)) : Type 0 where
  pub plain : (n : List ℕ) → default ≡ Some n → namespace_of tags [] ≡ Some n
  pub xml : namespace_of tags (codes "xml") ≡ Some xml_namespace

-- no default stands before the first tag
pub knows_none : (tags : List Opening) → namespace_of tags (codes "xml") ≡ Some xml_namespace → Knows tags None
knows_none tags x = record { plain = λ n e. absurd (let h : None ≡ Some n = e in cc); xml = x }

-- the parts of a start tag
pub given_parts : (default : Option (List ℕ)) (name : Expanded) (attributes : List Entry) (p : List ℕ)
    → bound_by (map given_as (tag_contents default name attributes)) p ≡ option_or (bound_by (map given_as (default_declaration default name)) p)
    (option_or (bound_by (map given_as (numbered_declarations 1 (namespaces_of attributes))) p) (bound_by (map given_as (map (attribute_written (namespaces_of attributes)) attributes)) p))
given_parts default name attributes p =
    let nss = namespaces_of attributes in
    let a : List Written = map (attribute_written nss) attributes in
    ap (λ (l : List Given). bound_by l p) (map-append given_as (default_declaration default name) (numbered_declarations 1 nss ++ a) ∙ ap (λ (l : List Given). map given_as (default_declaration default name) ++ l) (map-append given_as (numbered_declarations 1 nss) a))
    ∙ (bound_by-append (map given_as (default_declaration default name)) (map given_as (numbered_declarations 1 nss) ++ map given_as a) p
    ∙ ap (λ (o : Option (List ℕ)). option_or (bound_by (map given_as (default_declaration default name)) p) o) (bound_by-append (map given_as (numbered_declarations 1 nss)) (map given_as a) p))

or_none_right : (o : Option (List ℕ)) → option_or o None ≡ o
or_none_right None = refl
or_none_right (Some x) = refl

-- attributes bind nothing
pub given_binds : (default : Option (List ℕ)) (name : Expanded) (attributes : List Entry) (p : List ℕ) → AllByRecursion IsPlainEntry attributes
    → bound_by (map given_as (tag_contents default name attributes)) p ≡ option_or (bound_by (map given_as (default_declaration default name)) p) (bound_by (map given_as (numbered_declarations 1 (namespaces_of attributes))) p)
given_binds default name attributes p h =
    given_parts default name attributes p ∙ ap (λ (o : Option (List ℕ)). option_or (bound_by (map given_as (default_declaration default name)) p) o)
    (ap (λ (o : Option (List ℕ)). option_or (bound_by (map given_as (numbered_declarations 1 (namespaces_of attributes))) p) o) (unbound (namespaces_of attributes) attributes p h) ∙ or_none_right _)

-- a declaration of the default binds no prefix
default_binds : (default : Option (List ℕ)) (name : Expanded) (c : ℕ) (cs : List ℕ) → bound_by (map given_as (default_declaration default name)) (c ∷ cs) ≡ None
default_binds default name c cs = elim (cases_Bool (is_xml name.namespace || is_default default name.namespace)) as (λ _. bound_by (map given_as (default_declaration default name)) (c ∷ cs) ≡ None) [
  | inl h ↦ rw h refl
  | inr h ↦ rw h refl
]

-- the prefixes of declarations are not empty, and none is `xml`
no_plain : (j : ℕ) → 1 ≤ j → bytes_eq (prefix_of j) [] ≡ false
no_plain j le = refl

no_xml : (j : ℕ) → 1 ≤ j → bytes_eq (prefix_of j) (codes "xml") ≡ false
no_xml j le = refl

pub xml_stays : (default : Option (List ℕ)) (name : Expanded) (attributes : List Entry) (tags : List Opening) → AllByRecursion IsPlainEntry attributes → Knows tags default
    → namespace_of (opening_of default name attributes ∷ tags) (codes "xml") ≡ Some xml_namespace
xml_stays default name attributes tags h k =
    let bound : bound_by (map given_as (tag_contents default name attributes)) (codes "xml") ≡ None =
    given_binds default name attributes (codes "xml") h ∙ ap₂ (λ (x y : Option (List ℕ)). option_or x y) (default_binds default name 120 (109 ∷ 108 ∷ [])) (bound_none 1 (namespaces_of attributes) (codes "xml") no_xml) in
    ap (λ (o : Option (List ℕ)). option_or o (namespace_of tags (codes "xml"))) bound ∙ k.xml

-- the default within an element
pub is_default_some : (default : Option (List ℕ)) (n : List ℕ) → is_default default n ≡ true → default ≡ Some n
is_default_some None n h = absurd (true≢false (sym h))
is_default_some (Some d) n h = ap (λ (l : List ℕ). Some l) (equal_bytes d n h)

plain_bound : (default : Option (List ℕ)) (name : Expanded) (attributes : List Entry) → AllByRecursion IsPlainEntry attributes
    → bound_by (map given_as (tag_contents default name attributes)) [] ≡ bound_by (map given_as (default_declaration default name)) []
plain_bound default name attributes h = given_binds default name attributes [] h ∙ (ap (λ (o : Option (List ℕ)). option_or (bound_by (map given_as (default_declaration default name)) []) o) (bound_none 1 (namespaces_of attributes) [] no_plain) ∙ or_none_right _)

pub plain_within : (default : Option (List ℕ)) (name : Expanded) (attributes : List Entry) (tags : List Opening) → AllByRecursion IsPlainEntry attributes → Knows tags default
    → (n : List ℕ) → default_within default name ≡ Some n → namespace_of (opening_of default name attributes ∷ tags) [] ≡ Some n
plain_within default name attributes tags h k n e =
    ap (λ (o : Option (List ℕ)). option_or o (namespace_of tags [])) (plain_bound default name attributes h) ∙ (elim (cases_Bool (is_xml name.namespace)) as (λ _. option_or (bound_by (map given_as (default_declaration default name)) []) (namespace_of tags []) ≡ Some n) [
      | inl x ↦ (let same : default_within default name ≡ default = rw x refl in rw x (k.plain n (sym same ∙ e)))
      | inr x ↦ (let within : default_within default name ≡ Some name.namespace = rw x refl in
          let same : name.namespace ≡ n = same_Some _ _ (sym within ∙ e) in
          rw x (elim (cases_Bool (is_default default name.namespace)) as (λ _. option_or (bound_by (map given_as (if false || is_default default name.namespace then [] else record { name = record { prefix = []; local = xmlns }; value = name.namespace } ∷ [])) []) (namespace_of tags []) ≡ Some n) [
            | inl d ↦ rw d (k.plain n (is_default_some default name.namespace d ∙ ap (λ (l : List ℕ). Some l) same))
            | inr d ↦ rw d (ap (λ (l : List ℕ). Some l) same)
          ]))
    ])

pub knows_within : (default : Option (List ℕ)) (name : Expanded) (attributes : List Entry) (tags : List Opening) → AllByRecursion IsPlainEntry attributes → Knows tags default
    → Knows (opening_of default name attributes ∷ tags) (default_within default name)
knows_within default name attributes tags h k = record { plain = plain_within default name attributes tags h k; xml = xml_stays default name attributes tags h k }

-- the element's own name
pub element_is : (default : Option (List ℕ)) (name : Expanded) (attributes : List Entry) (tags : List Opening) → AllByRecursion IsPlainEntry attributes → Knows tags default
    → element_name (opening_of default name attributes ∷ tags) (read_as (element_spelling name)) ≡ Some name
element_is default name attributes tags h k = elim (cases_Bool (is_xml name.namespace)) as (λ _. element_name (opening_of default name attributes ∷ tags) (read_as (element_spelling name)) ≡ Some name) [
  | inl x ↦ (let p : (if is_xml name.namespace then codes "xml" else []) ≡ codes "xml" = rw x refl in
      ap (λ (q : List ℕ). element_name (opening_of default name attributes ∷ tags) (record { prefix = q; local = name.local })) p
      ∙ (ap (λ (o : Option (List ℕ)). expanded_in o name.local) (xml_stays default name attributes tags h k) ∙ ap (λ (n : List ℕ). Some (record { namespace = n; local = name.local })) (sym (equal_bytes _ _ x))))
  | inr x ↦ (let p : (if is_xml name.namespace then codes "xml" else []) ≡ [] = rw x refl in
      let d : default_within default name ≡ Some name.namespace = rw x refl in
      ap (λ (q : List ℕ). element_name (opening_of default name attributes ∷ tags) (record { prefix = q; local = name.local })) p
      ∙ ap (λ (o : Option (List ℕ)). expanded_in o name.local) (plain_within default name attributes tags h k name.namespace d))
]

-- the namespaces of the attributes are declared
pub among_before : (n m : List ℕ) (nss : List (List ℕ)) → IsAmong n nss → IsAmong n (before_others m nss)
among_before n m [] h = absurd h
among_before n m (x ∷ nss) h = elim (cases_Bool (bytes_eq m x)) as (λ _. IsAmong n (before_others m (x ∷ nss))) [
  | inl t ↦ rw t h
  | inr f ↦ rw f (inr h)
]

among_first : (n : List ℕ) (nss : List (List ℕ)) → IsAmong n (before_others n nss)
among_first n [] = inl refl
among_first n (x ∷ nss) = elim (cases_Bool (bytes_eq n x)) as (λ _. IsAmong n (before_others n (x ∷ nss))) [
  | inl t ↦ rw t (inl (sym (equal_bytes n x t)))
  | inr f ↦ rw f (inl refl)
]

-- that an entry is among others
abbrev pub IsOneOf : Entry → List Entry → Type 0
IsOneOf e [] = ⊥
IsOneOf e (x ∷ xs) = (x ≡ e) ⊎ IsOneOf e xs

pub among_all : (e : Entry) (es : List Entry) → needs_none e.name.namespace ≡ false → IsOneOf e es → IsAmong e.name.namespace (namespaces_of es)
among_all e [] f h = absurd h
among_all e (x ∷ es) f (inl same) = subst (λ (y : Entry). needs_none y.name.namespace ≡ false → IsAmong y.name.namespace (namespaces_of (x ∷ es))) same (λ g. rw g (among_first x.name.namespace (namespaces_of es))) f
among_all e (x ∷ es) f (inr h) = elim (cases_Bool (needs_none x.name.namespace)) as (λ _. IsAmong e.name.namespace (namespaces_of (x ∷ es))) [
  | inl t ↦ rw t (among_all e es f h)
  | inr g ↦ rw g (among_before e.name.namespace x.name.namespace (namespaces_of es) (among_all e es f h))
]

-- the name of an attribute
pub attribute_is : (default : Option (List ℕ)) (name : Expanded) (attributes : List Entry) (tags : List Opening) (e : Entry) → AllByRecursion IsPlainEntry attributes → Knows tags default → IsOneOf e attributes
    → attribute_name (opening_of default name attributes ∷ tags) (given_as (attribute_written (namespaces_of attributes) e)).name ≡ Some e.name
attribute_is default name attributes tags e h k one =
    let op = opening_of default name attributes in let nss = namespaces_of attributes in
    let named : (q : List ℕ) → attribute_prefix nss e.name.namespace ≡ q → attribute_name (op ∷ tags) (given_as (attribute_written nss e)).name ≡ attribute_name (op ∷ tags) (record { prefix = q; local = e.name.local })
    = λ q p. ap (λ (r : List ℕ). attribute_name (op ∷ tags) (record { prefix = r; local = e.name.local })) p in
    elim (cases_Bool (bytes_eq e.name.namespace [])) as (λ _. attribute_name (op ∷ tags) (given_as (attribute_written nss e)).name ≡ Some e.name) [
      | inl t ↦ named [] (rw t refl) ∙ ap (λ (n : List ℕ). Some (record { namespace = n; local = e.name.local })) (sym (equal_bytes _ _ t))
      | inr f ↦ elim (cases_Bool (is_xml e.name.namespace)) as (λ _. attribute_name (op ∷ tags) (given_as (attribute_written nss e)).name ≡ Some e.name) [
        | inl x ↦ named (codes "xml") (rw (f, x) refl) ∙ (ap (λ (o : Option (List ℕ)). expanded_in o e.name.local) (xml_stays default name attributes tags h k) ∙ ap (λ (n : List ℕ). Some (record { namespace = n; local = e.name.local })) (sym (equal_bytes _ _ x)))
        | inr x ↦ (let q = prefix_of (number_among 1 nss e.name.namespace) in
            let bound : bound_by (map given_as (tag_contents default name attributes)) q ≡ Some e.name.namespace =
            given_binds default name attributes q h ∙ ap₂ (λ (u v : Option (List ℕ)). option_or u v) (default_binds default name 97 _) (bound_number 1 nss e.name.namespace (among_all e attributes (rw (f, x) refl) one)) in
            named q (rw (f, x) refl) ∙ ap (λ (o : Option (List ℕ)). expanded_in (option_or o (namespace_of tags q)) e.name.local) bound)
      ]
    ]
