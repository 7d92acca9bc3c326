-- A tag without attributes, of a name in the default namespace so far.
use Rattle.std.proofs.Common.{◌≡◌, ℕ, Bool, true, false, List, [], ◌∷◌, ◌++◌, reverse, length, drop, refl, sym, ap, ap₂, subst, ◌∙◌, Option, Some, None, append_assoc, if◌then◌else◌}
use Rattle.std.specs.List.{AllByRecursion}
use Rattle.std.proofs.lemmas.Bool.{or_right}
use Rattle.std.proofs.lemmas.List.{reverse-append, reverse-reverse}
use Rattle.lexical_core.specs.Tree.{Expanded, Item, Starts, Char, Ends, Skipped}
use Rattle.lexical_core.proofs.EqualBytes.{bytes_equal}
use Rattle.markup.specs.PlainTags.{innermost_namespace}
use Rattle.fragments.specs.Fragment.{is_xml, is_default, default_within, element_spelling, spelling_text, start_text, end_text}
use Rattle.respell.specs.Respelling.{nearest, defaults_behind}
use Rattle.respell.specs.Kept.{KeepsDefaults, HasDefaults, HasWritten, IsInDefault, opened_by, own_defaults}
use Rattle.respell.specs.declared.respell.Respell.{Respell}
use Rattle.respell.proofs.KeptLemmas.{nearest_last, kept_same, last_text, taken_more, own_end}

-- ---- no default is the namespace of `xml`

abbrev IsNoXml : Option (List ℕ) → Type 0
IsNoXml None = Unit {0}
IsNoXml (Some namespace) = is_xml namespace ≡ false

within_no_xml : (default : Option (List ℕ)) (name : Expanded) → IsNoXml default → IsNoXml (default_within default name)
within_no_xml default name h = by (is_xml name.namespace) refl
  where
    by : (b : Bool) → is_xml name.namespace ≡ b → IsNoXml (if b then default else Some name.namespace)
    by true e = h
    by false e = e

nearest_no_xml : (ds : List (Option (List ℕ))) → AllByRecursion IsNoXml ds → IsNoXml (nearest ds)
nearest_no_xml [] h = tt
nearest_no_xml (d ∷ ds) h = h.0

outer_no_xml : (ds : List (Option (List ℕ))) → AllByRecursion IsNoXml ds → AllByRecursion IsNoXml (drop 1 ds)
outer_no_xml [] h = tt
outer_no_xml (d ∷ ds) h = h.1

behind_no_xml : (ds : List (Option (List ℕ))) (items : List Item) → AllByRecursion IsNoXml ds → AllByRecursion IsNoXml (defaults_behind ds items)
behind_no_xml ds [] h = h
behind_no_xml ds (Starts name attributes ∷ items) h = behind_no_xml (default_within (nearest ds) name ∷ ds) items (within_no_xml (nearest ds) name (nearest_no_xml ds h), h)
behind_no_xml ds (Char c ∷ items) h = behind_no_xml ds items h
behind_no_xml ds (Ends name ∷ items) h = behind_no_xml (drop 1 ds) items (outer_no_xml ds h)
behind_no_xml ds (Skipped ∷ items) h = behind_no_xml ds items h

-- ---- the default so far

nearest_is : (r : Respell) (forgotten : List ℕ) (items : List Item) (namespace : List ℕ) → HasWritten r forgotten items → IsInDefault r namespace → nearest (defaults_behind [] items) ≡ Some namespace
nearest_is r forgotten items namespace h (outer, e) = nearest_last r (defaults_behind [] items) namespace outer e h.defaults_are

no_xml : (r : Respell) (forgotten : List ℕ) (items : List Item) (namespace : List ℕ) → HasWritten r forgotten items → IsInDefault r namespace → is_xml namespace ≡ false
no_xml r forgotten items namespace h k =
    let n : IsNoXml (nearest (defaults_behind [] items)) = nearest_no_xml (defaults_behind [] items) (behind_no_xml [] items tt) in
    subst IsNoXml (nearest_is r forgotten items namespace h k) n

-- ---- what is written

name_text : (n : Expanded) → is_xml n.namespace ≡ false → spelling_text (element_spelling n) ≡ n.local
name_text n h = rw h refl

start_plain : (default : Option (List ℕ)) (n : Expanded) → default ≡ Some n.namespace → is_xml n.namespace ≡ false → start_text default n [] ≡ 60 ∷ (n.local ++ 62 ∷ [])
start_plain default n e h = ap (λ (d : Option (List ℕ)). start_text d n []) e ∙ rw (h, bytes_equal n.namespace n.namespace refl) refl

end_plain : (n : Expanded) → is_xml n.namespace ≡ false → end_text n ≡ 60 ∷ 47 ∷ (n.local ++ 62 ∷ [])
end_plain n h = rw h refl

three : (old t1 t2 t3 a b : List ℕ) → t1 ≡ old ++ a → t2 ≡ t1 ++ b → t3 ≡ t2 ++ 62 ∷ [] → t3 ≡ old ++ (a ++ (b ++ 62 ∷ []))
three old t1 t2 t3 a b e1 e2 e3 =
    e3 ∙ (ap (λ (l : List ℕ). l ++ 62 ∷ []) (e2 ∙ ap (λ (l : List ℕ). l ++ b) e1) ∙ (append_assoc (old ++ a) b (62 ∷ []) ∙ append_assoc old a (b ++ 62 ∷ [])))

default_kept : (declared : List (List ℕ)) (old new : List Bool) (ds : List (Option (List ℕ))) (n : Expanded) → new ≡ old ++ false ∷ [] → nearest ds ≡ Some n.namespace → KeepsDefaults declared (reverse old) ds
    → KeepsDefaults declared (reverse new) (default_within (nearest ds) n ∷ ds)
default_kept declared old new ds n pushed near h = kept_same declared old new ds n pushed (or_right (is_xml n.namespace) (is_default (nearest ds) n.namespace) (ap (λ (d : Option (List ℕ)). is_default d n.namespace) near ∙ bytes_equal n.namespace n.namespace refl)) h

pub plain_start : (r q : Respell) (forgotten : List ℕ) (items : List Item) (n : Expanded) (local t1 t2 : List ℕ) → n.local ≡ local → HasWritten r forgotten items → IsInDefault r n.namespace → t1 ≡ r.text ++ 60 ∷ [] → t2 ≡ t1 ++ local → q.text ≡ t2 ++ 62 ∷ []
    → q.defaults ≡ r.defaults → q.declares.items ≡ r.declares.items ++ false ∷ [] → q.failed ≡ r.failed → q.prefixed ≡ r.prefixed → HasWritten q forgotten (items ++ Starts n [] ∷ [])
plain_start r q forgotten items n local t1 t2 e h k e1 e2 e3 defaults declares failed prefixed =
    let ds : List (Option (List ℕ)) = defaults_behind [] items in
    let near : nearest ds ≡ Some n.namespace = nearest_is r forgotten items n.namespace h k in
    let plain : is_xml n.namespace ≡ false = no_xml r forgotten items n.namespace h k in
    taken_more r q forgotten items (Starts n []) h failed
    (last_text r.text q.text (start_text (nearest ds) n []) (three r.text t1 t2 q.text (60 ∷ []) local e1 e2 e3 ∙ ap (λ (l : List ℕ). r.text ++ 60 ∷ (l ++ 62 ∷ [])) (sym e) ∙ ap (λ (l : List ℕ). r.text ++ l) (sym (start_plain (nearest ds) n near plain))))
    (subst (λ (x : List (List ℕ)). KeepsDefaults (reverse x) (reverse q.declares.items) (default_within (nearest ds) n ∷ ds)) (ap (λ v. v.items) (sym defaults)) (default_kept (reverse r.defaults.items) r.declares.items q.declares.items ds n declares near h.defaults_are))
    (λ none. ap₂ (λ (d : Option (List ℕ)) (l : List (Option (List ℕ))). d ∷ l) (rw plain refl) (h.own_are (sym prefixed ∙ none)))

pub plain_end : (r q : Respell) (forgotten : List ℕ) (items : List Item) (n : Expanded) (local t1 t2 : List ℕ) → n.local ≡ local → HasWritten r forgotten items → IsInDefault r n.namespace → t1 ≡ r.text ++ 60 ∷ 47 ∷ [] → t2 ≡ t1 ++ local → q.text ≡ t2 ++ 62 ∷ []
    → ((ds : List (Option (List ℕ))) → HasDefaults r ds → HasDefaults q (drop 1 ds)) → q.failed ≡ r.failed → q.prefixed ≡ r.prefixed → HasWritten q forgotten (items ++ Ends n ∷ [])
plain_end r q forgotten items n local t1 t2 e h k e1 e2 e3 kept failed prefixed =
    let ds : List (Option (List ℕ)) = defaults_behind [] items in
    let plain : is_xml n.namespace ≡ false = no_xml r forgotten items n.namespace h k in
    taken_more r q forgotten items (Ends n) h failed
    (last_text r.text q.text (end_text n) (three r.text t1 t2 q.text (60 ∷ 47 ∷ []) local e1 e2 e3 ∙ ap (λ (l : List ℕ). r.text ++ 60 ∷ 47 ∷ (l ++ 62 ∷ [])) (sym e) ∙ ap (λ (l : List ℕ). r.text ++ l) (sym (end_plain n plain))))
    (kept ds h.defaults_are) (λ none. own_end ds (opened_by [] items) (h.own_are (sym prefixed ∙ none)))

-- ---- the innermost open element is in the default so far

stands_first : (declared : List (List ℕ)) (flags : List Bool) (ds : List (Option (List ℕ))) (namespace : List ℕ) → nearest ds ≡ Some namespace → KeepsDefaults declared flags ds → (outer : List (List ℕ)) × (declared ≡ namespace ∷ outer)
stands_first declared [] [] namespace near h = absurd cc
stands_first declared [] (d ∷ ds) namespace near h = absurd h
stands_first declared (true ∷ flags) [] namespace near h = absurd h
stands_first declared (false ∷ flags) [] namespace near h = absurd h
stands_first declared (true ∷ flags) (d ∷ ds) namespace near (m, outer, e, is, inner) = (outer, e ∙ ap (λ (l : List ℕ). l ∷ outer) (let q : Some m ≡ Some namespace = sym is ∙ near in cc))
stands_first declared (false ∷ flags) (d ∷ ds) namespace near h = stands_first declared flags ds namespace (sym h.0 ∙ near) h.1

no_declared : (declared : List (List ℕ)) (flags : List Bool) → KeepsDefaults declared flags [] → declared ≡ []
no_declared declared [] h = h
no_declared declared (true ∷ flags) h = absurd h
no_declared declared (false ∷ flags) h = absurd h

pub innermost_default : (r : Respell) (forgotten : List ℕ) (items : List Item) → HasWritten r forgotten items → r.prefixed ≡ false → (length r.defaults.items ≡ 0 → ⊥) → IsInDefault r (innermost_namespace (opened_by [] items))
innermost_default r forgotten items h none some = by (opened_by [] items) (h.own_are none)
  where
    by : (names : List Expanded) → defaults_behind [] items ≡ own_defaults names → IsInDefault r (innermost_namespace names)
    by [] e = absurd (some (ap (λ (l : List (List ℕ)). length l) (sym (reverse-reverse r.defaults.items) ∙ ap reverse (no_declared (reverse r.defaults.items) (reverse r.declares.items) (subst (λ (l : List (Option (List ℕ))). KeepsDefaults (reverse r.defaults.items) (reverse r.declares.items) l) e h.defaults_are)))))
    by (n ∷ names) e =
        let (outer, is) = stands_first (reverse r.defaults.items) (reverse r.declares.items) (defaults_behind [] items) n.namespace (ap nearest e) h.defaults_are in
        (reverse outer, sym (reverse-reverse r.defaults.items) ∙ (ap reverse is ∙ reverse-append (n.namespace ∷ []) outer))
