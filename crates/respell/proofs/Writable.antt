-- What a start tag of a fragment says can be written.
use Rattle.std.proofs.Common.{◌≡◌, ℕ, ◌+◌, ◌≤◌, ◌⊎◌, inl, inr, ◌||◌, List, [], ◌∷◌, ◌++◌, map, Option, refl, arith}
use Rattle.std.specs.Prelude.{codes}
use Rattle.std.specs.List.{AllByRecursion}
use Rattle.std.specs.Str.{bytes_eq}
use Rattle.std.proofs.lemmas.Bool.{cases_Bool}
use Rattle.lexical_core.specs.Tree.{Expanded, Entry}
use Rattle.lexical_core.specs.Names.{xmlns}
use Rattle.fragments.specs.Plain.{IsPart, IsPlainName, IsPlainEntry}
use Rattle.fragments.specs.Fragment.{Written, is_xml, is_default, element_spelling, default_declaration, numbered_declarations, namespaces_of, number_among, attribute_prefix, attribute_written, tag_contents}
use Rattle.respell.proofs.Names.{IsSpelling}
use Rattle.respell.proofs.Attributes.{IsWritten}
use Rattle.respell.proofs.Prefixes.{prefix_part}
use Rattle.respell.proofs.TagRules.{IsDeclarable, declarable}

letter : (c : ℕ) → 97 ≤ c → c ≤ 122 → Rattle.lexical_core.specs.Characters.IsNameStart c
letter c l h = inr (inr (inl (l, h)))

xmlns_part : IsPart xmlns
unfolding lib.Utf8.encode
xmlns_part = record { first = 120; others = codes "mlns"; start = letter 120 (omega arith) (omega arith); more = (inl (letter 109 (omega arith) (omega arith)), (inl (letter 108 (omega arith) (omega arith)), (inl (letter 110 (omega arith) (omega arith)), (inl (letter 115 (omega arith) (omega arith)), tt)))); spelled = refl }

pub xml_part : IsPart (codes "xml")
unfolding lib.Utf8.encode
xml_part = record { first = 120; others = codes "ml"; start = letter 120 (omega arith) (omega arith); more = (inl (letter 109 (omega arith) (omega arith)), (inl (letter 108 (omega arith) (omega arith)), tt)); spelled = refl }

pub element_spells : (name : Expanded) → IsPlainName name → IsSpelling (element_spelling name)
element_spells name p = elim (cases_Bool (is_xml name.namespace)) as (λ _. IsSpelling (element_spelling name)) [
  | inl x ↦ record { prefix = inr (rw x xml_part); local = p.local }
  | inr x ↦ record { prefix = inl (rw x refl); local = p.local }
]

written-append : (a b : List Written) → AllByRecursion IsWritten a → AllByRecursion IsWritten b → AllByRecursion IsWritten (a ++ b)
written-append [] b h g = g
written-append (x ∷ a) b h g = (h.0, written-append a b h.1 g)

default_written : (default : Option (List ℕ)) (name : Expanded) → IsPlainName name → AllByRecursion IsWritten (default_declaration default name)
default_written default name p = elim (cases_Bool (is_xml name.namespace || is_default default name.namespace)) as (λ _. AllByRecursion IsWritten (default_declaration default name)) [
  | inl h ↦ rw h tt
  | inr h ↦ rw h (record { name = record { prefix = inl refl; local = xmlns_part }; value = p.namespace }, tt)
]

declarations_written : (k : ℕ) (nss : List (List ℕ)) → AllByRecursion IsDeclarable nss → AllByRecursion IsWritten (numbered_declarations k nss)
declarations_written k [] h = tt
declarations_written k (n ∷ nss) h = (record { name = record { prefix = inr xmlns_part; local = prefix_part k }; value = h.0.text }, declarations_written (k + 1) nss h.1)

prefix_written : (nss : List (List ℕ)) (n : List ℕ) → (attribute_prefix nss n ≡ []) ⊎ IsPart (attribute_prefix nss n)
prefix_written nss n = elim (cases_Bool (bytes_eq n [])) as (λ _. (attribute_prefix nss n ≡ []) ⊎ IsPart (attribute_prefix nss n)) [
  | inl t ↦ inl (rw t refl)
  | inr f ↦ elim (cases_Bool (is_xml n)) as (λ _. (attribute_prefix nss n ≡ []) ⊎ IsPart (attribute_prefix nss n)) [
    | inl x ↦ inr (rw (f, x) xml_part)
    | inr x ↦ inr (rw (f, x) (prefix_part (number_among 1 nss n)))
  ]
]

attributes_written : (nss : List (List ℕ)) (es : List Entry) → AllByRecursion IsPlainEntry es → AllByRecursion IsWritten (map (attribute_written nss) es)
attributes_written nss [] h = tt
attributes_written nss (e ∷ es) h = (record { name = record { prefix = prefix_written nss e.name.namespace; local = h.0.name.local }; value = h.0.value }, attributes_written nss es h.1)

pub contents_written : (default : Option (List ℕ)) (name : Expanded) (attributes : List Entry) → IsPlainName name → AllByRecursion IsPlainEntry attributes → AllByRecursion IsWritten (tag_contents default name attributes)
contents_written default name attributes p h =
    written-append (default_declaration default name) _ (default_written default name p) (written-append (numbered_declarations 1 (namespaces_of attributes)) _ (declarations_written 1 (namespaces_of attributes) (declarable attributes h)) (attributes_written (namespaces_of attributes) attributes h))
