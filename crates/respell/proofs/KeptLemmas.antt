-- What a respeller keeps, one event after another.
use Rattle.std.proofs.Common.{◌≡◌, ℕ, Bool, true, false, ◌||◌, List, [], ◌∷◌, ◌++◌, reverse, map, drop, length, Option, Some, None, refl, sym, ap, ap₂, subst, ◌∙◌, append_assoc, append-nil, if◌then◌else◌}
use Rattle.std.specs.List.{flat_map}
use Rattle.std.proofs.lemmas.Bool.{true≢false}
use Rattle.std.proofs.lemmas.List.{reverse-append, nil_from_length}
use Rattle.lexical_core.specs.Escapes.{escape_of}
use Rattle.lexical_core.specs.Tree.{Expanded, Entry, Item, Starts, Char, Ends, Skipped}
use Rattle.markup.specs.EventItems.{item_of, entry_of}
use Rattle.markup.specs.PlainTags.{open_after}
use Rattle.markup.specs.declared.event.Attr.{Attr}
use Rattle.markup.specs.declared.event.What.{What}
use Rattle.markup.specs.declared.event.What.TheVariants.{Start, Char as CharTold, End, Skipped as SkippedTold}
use Rattle.fragments.specs.Plain.{AreSortedEntries}
use Rattle.fragments.specs.Fragment.{Written, is_xml, is_default, default_within, default_declaration, numbered_declarations, namespaces_of, attribute_written, tag_contents, written_text, start_text, end_text}
use Rattle.respell.specs.Respelling.{nearest, respelled_text, defaults_behind, HasSortedAttributes}
use Rattle.respell.specs.Kept.{KeepsDefaults, HasDefaults, HasWritten, opened_by, own_defaults}
use Rattle.respell.specs.declared.respell.Respell.{Respell}
use Rattle.respell.proofs.Lists.{flat_map-append}
use Rattle.respell.proofs.TagNames.{is_default_some}
use Rattle.respell.proofs.RespelledTrees.{respelled-append, defaults-append}

-- ---- the innermost default

first_stands : (declared : List (List ℕ)) (n : List ℕ) (outer : List (List ℕ)) (flags : List Bool) (ds : List (Option (List ℕ))) → declared ≡ n ∷ outer → KeepsDefaults declared flags ds → nearest ds ≡ Some n
first_stands declared n outer [] [] e h = absurd cc
first_stands declared n outer [] (d ∷ ds) e h = absurd h
first_stands declared n outer (true ∷ flags) [] e h = absurd h
first_stands declared n outer (false ∷ flags) [] e h = absurd h
first_stands declared n outer (true ∷ flags) (d ∷ ds) e (m, more, f, is, inner) = is ∙ ap (λ (l : List ℕ). Some l) (heads m n more outer (sym f ∙ e))
  where
    heads : (a b : List ℕ) (x y : List (List ℕ)) → a ∷ x ≡ b ∷ y → a ≡ b
    heads a b x y e = cc
first_stands declared n outer (false ∷ flags) (d ∷ ds) e h = h.0 ∙ first_stands declared n outer flags ds e h.1

none_stands : (declared : List (List ℕ)) (flags : List Bool) (ds : List (Option (List ℕ))) → declared ≡ [] → KeepsDefaults declared flags ds → nearest ds ≡ None
none_stands declared [] [] e h = refl
none_stands declared [] (d ∷ ds) e h = absurd h
none_stands declared (true ∷ flags) [] e h = absurd h
none_stands declared (false ∷ flags) [] e h = absurd h
none_stands declared (true ∷ flags) (d ∷ ds) e (m, more, f, is, inner) = absurd cc
none_stands declared (false ∷ flags) (d ∷ ds) e h = h.0 ∙ none_stands declared flags ds e h.1

pub nearest_last : (r : Respell) (ds : List (Option (List ℕ))) (n : List ℕ) (others : List (List ℕ)) → r.defaults.items ≡ others ++ n ∷ [] → HasDefaults r ds → nearest ds ≡ Some n
nearest_last r ds n others e h = first_stands (reverse r.defaults.items) n (reverse others) (reverse r.declares.items) ds (ap (λ (l : List (List ℕ)). reverse l) e ∙ reverse-append others (n ∷ [])) h

pub nearest_none : (r : Respell) (ds : List (Option (List ℕ))) → length r.defaults.items ≡ 0 → HasDefaults r ds → nearest ds ≡ None
nearest_none r ds e h = none_stands (reverse r.defaults.items) (reverse r.declares.items) ds (ap (λ (l : List (List ℕ)). reverse l) (nil_from_length r.defaults.items e)) h

-- ---- one more element

pub same_defaults : (r q : Respell) (ds : List (Option (List ℕ))) → q.defaults ≡ r.defaults → q.declares ≡ r.declares → HasDefaults r ds → HasDefaults q ds
same_defaults r q ds e f h = subst (λ (x : List (List ℕ)). KeepsDefaults (reverse x) (reverse q.declares.items) ds) (ap (λ v. v.items) (sym e)) (subst (λ (x : List Bool). KeepsDefaults (reverse r.defaults.items) (reverse x) ds) (ap (λ v. v.items) (sym f)) h)

default_same : (default : Option (List ℕ)) (name : Expanded) → (is_xml name.namespace || is_default default name.namespace) ≡ true → default_within default name ≡ default
default_same default name h = step (is_xml name.namespace) h
  where
    step : (b : Bool) → (b || is_default default name.namespace) ≡ true → (if b then default else Some name.namespace) ≡ default
    step true e = refl
    step false e = sym (is_default_some default name.namespace e)

-- an element that declares none
pub kept_same : (declared : List (List ℕ)) (old new : List Bool) (ds : List (Option (List ℕ))) (name : Expanded) → new ≡ old ++ false ∷ [] → (is_xml name.namespace || is_default (nearest ds) name.namespace) ≡ true
    → KeepsDefaults declared (reverse old) ds → KeepsDefaults declared (reverse new) (default_within (nearest ds) name ∷ ds)
kept_same declared old new ds name pushed same h =
    let flags : reverse new ≡ false ∷ reverse old = ap (λ (l : List Bool). reverse l) pushed ∙ reverse-append old (false ∷ []) in
    subst (λ (x : List Bool). KeepsDefaults declared x (default_within (nearest ds) name ∷ ds)) (sym flags) (default_same (nearest ds) name same, h)

-- ---- a start tag

pub start_written : (old t1 t2 t3 t4 t5 t6 spelling : List ℕ) (default : Option (List ℕ)) (name : Expanded) (attributes : List Entry)
    → t1 ≡ old ++ 60 ∷ [] → t2 ≡ t1 ++ spelling → t3 ≡ t2 ++ flat_map written_text (default_declaration default name) → t4 ≡ t3 ++ flat_map written_text (numbered_declarations 1 (namespaces_of attributes))
    → t5 ≡ t4 ++ flat_map written_text (map (attribute_written (namespaces_of attributes)) attributes) → t6 ≡ t5 ++ 62 ∷ []
    → t6 ≡ old ++ (60 ∷ (spelling ++ (flat_map written_text (tag_contents default name attributes) ++ 62 ∷ [])))
start_written old t1 t2 t3 t4 t5 t6 spelling default name attributes e1 e2 e3 e4 e5 e6 =
    let d : List Written = default_declaration default name in
    let n : List Written = numbered_declarations 1 (namespaces_of attributes) in
    let a : List Written = map (attribute_written (namespaces_of attributes)) attributes in
    let parts : flat_map written_text (tag_contents default name attributes) ≡ flat_map written_text d ++ (flat_map written_text n ++ flat_map written_text a) =
    flat_map-append written_text d (n ++ a) ∙ ap (λ (l : List ℕ). flat_map written_text d ++ l) (flat_map-append written_text n a) in
    e6 ∙ (ap (λ (l : List ℕ). l ++ 62 ∷ []) (e5 ∙ ap (λ (l : List ℕ). l ++ flat_map written_text a) (e4 ∙ ap (λ (l : List ℕ). l ++ flat_map written_text n) (e3 ∙ ap (λ (l : List ℕ). l ++ flat_map written_text d) (e2 ∙ ap (λ (l : List ℕ). l ++ spelling) e1))))
    ∙ (joined old spelling (flat_map written_text d) (flat_map written_text n) (flat_map written_text a) ∙ ap (λ (l : List ℕ). old ++ (60 ∷ (spelling ++ (l ++ 62 ∷ [])))) (sym parts)))
  where
    joined : (old s d n a : List ℕ) → ((((((old ++ 60 ∷ []) ++ s) ++ d) ++ n) ++ a) ++ 62 ∷ []) ≡ old ++ (60 ∷ (s ++ ((d ++ (n ++ a)) ++ 62 ∷ [])))
    joined old s d n a =
        ap (λ (l : List ℕ). l ++ 62 ∷ []) (append_assoc (((old ++ 60 ∷ []) ++ s) ++ d) n a ∙ append_assoc ((old ++ 60 ∷ []) ++ s) d (n ++ a))
        ∙ (append_assoc ((old ++ 60 ∷ []) ++ s) (d ++ (n ++ a)) (62 ∷ []) ∙ (append_assoc (old ++ 60 ∷ []) s ((d ++ (n ++ a)) ++ 62 ∷ []) ∙ append_assoc old (60 ∷ []) (s ++ ((d ++ (n ++ a)) ++ 62 ∷ []))))

-- ---- the names of open elements

pub opened-append : (names : List Expanded) (a b : List Item) → opened_by names (a ++ b) ≡ opened_by (opened_by names a) b
opened-append names [] b = refl
opened-append names (i ∷ a) b = opened-append (open_after names i) a b

-- the open elements are in the defaults within them, unless one has come that is written with a prefix
abbrev pub OwnBehind : Respell → List Item → List Item → Type 0
OwnBehind q items more = q.prefixed ≡ false → defaults_behind (defaults_behind [] items) more ≡ own_defaults (opened_by (opened_by [] items) more)

own_same : (r q : Respell) (forgotten : List ℕ) (items : List Item) → HasWritten r forgotten items → q.prefixed ≡ r.prefixed → q.prefixed ≡ false → defaults_behind [] items ≡ own_defaults (opened_by [] items)
own_same r q forgotten items h e none = h.own_are (sym e ∙ none)

dropped : (names : List Expanded) → drop 1 (own_defaults names) ≡ own_defaults (drop 1 names)
dropped [] = refl
dropped (n ∷ names) = refl

pub own_end : (ds : List (Option (List ℕ))) (names : List Expanded) → ds ≡ own_defaults names → drop 1 ds ≡ own_defaults (drop 1 names)
own_end ds names e = ap (λ (l : List (Option (List ℕ))). drop 1 l) e ∙ dropped names

own_start : (before after : Bool) (ds : List (Option (List ℕ))) (names : List Expanded) (name : Expanded) → after ≡ (before || is_xml name.namespace) → (before ≡ false → ds ≡ own_defaults names) → after ≡ false
    → default_within (nearest ds) name ∷ ds ≡ own_defaults (name ∷ names)
own_start before after ds names name e own none = by before (is_xml name.namespace) refl (sym e ∙ none) own
  where
    by : (b x : Bool) → is_xml name.namespace ≡ x → (b || x) ≡ false → (b ≡ false → ds ≡ own_defaults names) → default_within (nearest ds) name ∷ ds ≡ own_defaults (name ∷ names)
    by true x is h own = absurd (true≢false h)
    by false true is h own = absurd (true≢false h)
    by false false is h own = ap₂ (λ (d : Option (List ℕ)) (l : List (Option (List ℕ))). d ∷ l) (rw is refl) (own refl)

-- ---- more events

pub taken_all : (r q : Respell) (forgotten : List ℕ) (items more : List Item) → HasWritten r forgotten items → q.failed ≡ r.failed → q.text ≡ r.text ++ respelled_text (defaults_behind [] items) more → HasDefaults q (defaults_behind (defaults_behind [] items) more)
    → OwnBehind q items more → HasWritten q forgotten (items ++ more)
taken_all r q forgotten items more h sound text defaults own = record {
  sound = sound ∙ h.sound;
  text_is = ap (λ (l : List ℕ). forgotten ++ l) text ∙ (sym (append_assoc forgotten r.text (respelled_text (defaults_behind [] items) more)) ∙ (ap (λ (l : List ℕ). l ++ respelled_text (defaults_behind [] items) more) h.text_is ∙ sym (respelled-append [] items more)));
  defaults_are = subst (λ (ds : List (Option (List ℕ))). HasDefaults q ds) (sym (defaults-append [] items more)) defaults;
  own_are = λ none. defaults-append [] items more ∙ (own none ∙ ap own_defaults (sym (opened-append [] items more)));
}

pub taken_more : (r q : Respell) (forgotten : List ℕ) (items : List Item) (i : Item) → HasWritten r forgotten items → q.failed ≡ r.failed → q.text ≡ r.text ++ respelled_text (defaults_behind [] items) (i ∷ []) → HasDefaults q (defaults_behind (defaults_behind [] items) (i ∷ []))
    → OwnBehind q items (i ∷ []) → HasWritten q forgotten (items ++ i ∷ [])
taken_more r q forgotten items i h sound text defaults own = taken_all r q forgotten items (i ∷ []) h sound text defaults own

pub last_text : (old new text : List ℕ) → new ≡ old ++ text → new ≡ old ++ (text ++ [])
last_text old new text e = e ∙ ap (λ (l : List ℕ). old ++ l) (sym (append-nil text))

pub taken_start : (r q : Respell) (forgotten : List ℕ) (items : List Item) (w : What) (ns local n l : List ℕ) (attrs given : List Attr) → HasWritten r forgotten items → HasSortedAttributes (item_of w) → w ≡ Start ns local attrs → n ≡ ns → l ≡ local → given ≡ attrs
    → ((ds : List (Option (List ℕ))) → HasDefaults r ds → AreSortedEntries (map entry_of given) → q.text ≡ r.text ++ start_text (nearest ds) (record { namespace = n; local = l }) (map entry_of given))
    → ((ds : List (Option (List ℕ))) → HasDefaults r ds → HasDefaults q (default_within (nearest ds) (record { namespace = n; local = l }) ∷ ds)) → q.failed ≡ r.failed → q.prefixed ≡ (r.prefixed || is_xml n) → HasWritten q forgotten (items ++ item_of w ∷ [])
taken_start r q forgotten items w ns local n l attrs given h sorted is en el eg text kept failed prefixed =
    let i : Item = Starts (record { namespace = n; local = l }) (map entry_of given) in
    let same : item_of w ≡ i = ap item_of is ∙ named ns n local l attrs given (sym en) (sym el) (sym eg) in
    subst (λ (j : Item). HasWritten q forgotten (items ++ j ∷ [])) (sym same) (taken_more r q forgotten items i h failed
    (last_text r.text q.text (start_text (nearest (defaults_behind [] items)) (record { namespace = n; local = l }) (map entry_of given)) (text (defaults_behind [] items) h.defaults_are (subst HasSortedAttributes same sorted))) (kept (defaults_behind [] items) h.defaults_are)
    (own_start r.prefixed q.prefixed (defaults_behind [] items) (opened_by [] items) (record { namespace = n; local = l }) prefixed h.own_are))
  where
    named : (a b c d : List ℕ) (e f : List Attr) → a ≡ b → c ≡ d → e ≡ f → Starts (record { namespace = a; local = c }) (map entry_of e) ≡ Starts (record { namespace = b; local = d }) (map entry_of f)
    named a b c d e f x y z = ap₂ (λ (n : Expanded) (l : List Attr). Starts n (map entry_of l)) (ap₂ (λ (u v : List ℕ). record { namespace = u; local = v }) x y) z

pub taken_char : (r q : Respell) (forgotten : List ℕ) (items : List Item) (w : What) (c : ℕ) → HasWritten r forgotten items → w ≡ CharTold c → q.text ≡ r.text ++ escape_of false c → q.defaults ≡ r.defaults → q.declares ≡ r.declares → q.failed ≡ r.failed → q.prefixed ≡ r.prefixed → HasWritten q forgotten (items ++ item_of w ∷ [])
taken_char r q forgotten items w c h is text defaults declares failed prefixed =
    subst (λ (v : What). HasWritten q forgotten (items ++ item_of v ∷ [])) (sym is) (taken_more r q forgotten items (Char c) h failed (last_text r.text q.text (escape_of false c) text) (same_defaults r q (defaults_behind [] items) defaults declares h.defaults_are)
    (own_same r q forgotten items h prefixed))

pub taken_end : (r q : Respell) (forgotten : List ℕ) (items : List Item) (w : What) (ns local n l : List ℕ) → HasWritten r forgotten items → w ≡ End ns local → n ≡ ns → l ≡ local → q.text ≡ r.text ++ end_text (record { namespace = n; local = l })
    → ((ds : List (Option (List ℕ))) → HasDefaults r ds → HasDefaults q (drop 1 ds)) → q.failed ≡ r.failed → q.prefixed ≡ r.prefixed → HasWritten q forgotten (items ++ item_of w ∷ [])
taken_end r q forgotten items w ns local n l h is en el text kept failed prefixed =
    let i : Item = Ends (record { namespace = n; local = l }) in
    let same : item_of w ≡ i = ap item_of is ∙ ap₂ (λ (u v : List ℕ). Ends (record { namespace = u; local = v })) (sym en) (sym el) in
    subst (λ (j : Item). HasWritten q forgotten (items ++ j ∷ [])) (sym same) (taken_more r q forgotten items i h failed (last_text r.text q.text (end_text (record { namespace = n; local = l })) text) (kept (defaults_behind [] items) h.defaults_are)
    (λ none. own_end (defaults_behind [] items) (opened_by [] items) (own_same r q forgotten items h prefixed none)))

pub taken_skipped : (r : Respell) (forgotten : List ℕ) (items : List Item) (w : What) → HasWritten r forgotten items → w ≡ SkippedTold → HasWritten r forgotten (items ++ item_of w ∷ [])
taken_skipped r forgotten items w h is = subst (λ (v : What). HasWritten r forgotten (items ++ item_of v ∷ [])) (sym is) (taken_more r r forgotten items Skipped h refl (sym (append-nil r.text)) h.defaults_are h.own_are)
