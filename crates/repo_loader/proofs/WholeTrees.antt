-- The events of whole tokens that break no rule are those of a tree.
use Rattle.std.proofs.Common.{◌≡◌, ℕ, Bool, true, false, true≢false, ◌||◌, List, [], ◌∷◌, ◌++◌, length, map, Option, Some, None, if◌then◌else◌, is_some, refl, sym, ap, ◌∙◌, subst, append_assoc}
use Rattle.std.specs.Prelude.{is_none, drop, ◌==◌, ◌&&◌, reverse}
use Rattle.std.specs.List.{list_any}
use Rattle.std.proofs.lemmas.Bool.{and_parts, or_parts}
use Rattle.lexical_core.specs.Tree.{Expanded, Entry as Attribute, Nodes, Nothing, Element, Text, Tree, TreeIs, Item, Starts, Ends, Char, flat_nodes, tree_items}
use Rattle.lexical_core.proofs.Tests.{suc_never_zero}
use Rattle.markup.specs.declared.tag.Opening.{Opening}
use Rattle.markup.specs.declared.tag.Spelled.{Spelled}
use Rattle.markup.specs.Token.{Token, Mark, Declaration, Comment, Instruction, Opener, Closer, TypeDeclaration, Start, End, Refer, LineEnd, Character, StartTag}
use Rattle.markup.specs.Events.{Placed, events, items_of, open_tags, opening, spelled_name, element_name, entries, start_tag_items, end_tag_items, end_items}
use Rattle.markup.specs.Reference.{referred_character}
use Rattle.markup.specs.Faults.{has_start, is_outside, is_over, start_rule, end_rule, rule_of, IsClean, has_clash, is_bad_attribute}
use Rattle.markup.proofs.OpenTags.{AreExpanded}
use Rattle.markup.proofs.TokensBehind.{items_in, tokens_behind, behind, events_items}

-- one of two facts, by a test
abbrev ByCase : Bool → Type 0 → Type 0 → Type 0
ByCase true A B = A
ByCase false A B = B

-- ---- items

-- the nodes to come in the innermost open element, and in those round it
first : List Nodes → Nodes
first [] = Nothing
first (k ∷ ks) = k

-- the events that close the open elements, with the nodes to come in each
abbrev closing : List Expanded → List Nodes → List Item
closing [] ks = []
closing (n ∷ ns) [] = Ends n ∷ closing ns []
closing (n ∷ ns) (k ∷ ks) = flat_nodes k ++ (Ends n ∷ closing ns ks)

-- the events close the open elements
abbrev Closes : List Expanded → List Item → Type 0
Closes ns items = (ks : List Nodes) × (tree_items (length ns) items ≡ closing ns ks)

closing_first : (n : Expanded) (ns : List Expanded) (ks : List Nodes) → closing (n ∷ ns) ks ≡ flat_nodes (first ks) ++ (Ends n ∷ closing ns (drop 1 ks))
unfolding first
closing_first n ns [] = refl
closing_first n ns (k ∷ ks) = refl

character_closes : (c : ℕ) (ns : List Expanded) (items : List Item) → Closes ns items → Closes ns (Char c ∷ items)
character_closes c [] items (ks, e) = (ks, e)
character_closes c (n ∷ ns) items (ks, e) = (Text c (first ks) ∷ drop 1 ks, ap (λ l. Char c ∷ l) (e ∙ closing_first n ns ks))

end_closes : (n : Expanded) (ns : List Expanded) (items : List Item) → Closes ns items → Closes (n ∷ ns) (Ends n ∷ items)
end_closes n ns items (ks, e) = (Nothing ∷ ks, ap (λ l. Ends n ∷ l) e)

empty_closes : (n : Expanded) (attributes : List Attribute) (m : Expanded) (ms : List Expanded) (items : List Item)
    → Closes (m ∷ ms) items → Closes (m ∷ ms) (Starts n attributes ∷ (Ends n ∷ items))
empty_closes n attributes m ms items (ks, e) =
    (Element n attributes Nothing (first ks) ∷ drop 1 ks, ap (λ l. Starts n attributes ∷ (Ends n ∷ l)) (e ∙ closing_first m ms ks))

start_closes : (n : Expanded) (attributes : List Attribute) (m : Expanded) (ms : List Expanded) (items : List Item)
    → Closes (n ∷ (m ∷ ms)) items → Closes (m ∷ ms) (Starts n attributes ∷ items)
start_closes n attributes m ms items (ks, e) =
    let inner = first ks in
    let outer = first (drop 1 ks) in (
      Element n attributes inner outer ∷ drop 1 (drop 1 ks),
      ap (λ l. Starts n attributes ∷ l)
          (e ∙ closing_first n (m ∷ ms) ks
          ∙ ap (λ l. flat_nodes inner ++ (Ends n ∷ l)) (closing_first m ms (drop 1 ks))
          ∙ sym (append_assoc (flat_nodes inner) (Ends n ∷ flat_nodes outer) (Ends m ∷ closing ms (drop 1 (drop 1 ks))))),
    )

-- ---- tokens

some_is : {A : Type 0} (o : Option A) → is_none o ≡ false → (x : A) × (o ≡ Some x)
some_is None h = absurd (true≢false h)
some_is (Some x) h = (x, refl)

not_none : {A : Type 0} (x : A) → ◌≡◌ {A = Option A} (Some x) None → ⊥
not_none x h = true≢false (ap is_some h)

rules_none : {A : Type 0} (a b c : Bool) (x y z : A) → (if a then Some x else (if b then Some y else (if c then Some z else None))) ≡ None → (b ≡ false) × (c ≡ false)
rules_none true b c x y z h = absurd (not_none x h)
rules_none false true c x y z h = absurd (not_none y h)
rules_none false false true x y z h = absurd (not_none z h)
rules_none false false false x y z h = (refl, refl)

-- a start tag that breaks no rule has an expanded name, and does not stand behind the root
start_clean : (over : Bool) (tags : List Opening) (tag : Opening) → start_rule over tags tag ≡ None → ((n : Expanded) × (element_name (tag ∷ tags) tag.name ≡ Some n)) × (over ≡ false)
start_clean over tags tag h =
    let r = rules_none (has_clash (tag ∷ tags) tag.given) (is_none (element_name (tag ∷ tags) tag.name) || list_any (is_bad_attribute (tag ∷ tags)) tag.given) over _ _ _ h in
    (some_is (element_name (tag ∷ tags) tag.name) (or_parts (is_none (element_name (tag ∷ tags) tag.name)) (list_any (is_bad_attribute (tag ∷ tags)) tag.given) r.0).0, r.1)

-- what is said of the tags behind a start tag, of an empty element or not
behind_start : (b : Bool) (tags : List Opening) (tag : Opening) (n : Expanded) (ns : List Expanded) (items : List Item)
    → element_name (tag ∷ tags) tag.name ≡ Some n → AreExpanded tags ns
    → ((ms : List Expanded) → AreExpanded (if b then tags else tag ∷ tags) ms → Closes ms items)
    → ByCase b (Closes ns items) (Closes (n ∷ ns) items)
behind_start true tags tag n ns items e named later = later ns named
behind_start false tags tag n ns items e named later = later (n ∷ ns) (e, named)

started_closes : (b : Bool) (n : Expanded) (attributes : List Attribute) (m : Expanded) (ms : List Expanded) (items : List Item)
    → ByCase b (Closes (m ∷ ms) items) (Closes (n ∷ (m ∷ ms)) items) → Closes (m ∷ ms) (start_tag_items (Some n) attributes b ++ items)
started_closes true n attributes m ms items h = empty_closes n attributes m ms items h
started_closes false n attributes m ms items h = start_closes n attributes m ms items h

-- where no tag is open behind a start, the root is closed
outside_over : (before : List Token) → has_start before ≡ true → AreExpanded (open_tags before) [] → is_over before ≡ true
outside_over before s named = by (open_tags before) refl named
  where
    by : (tags : List Opening) → open_tags before ≡ tags → AreExpanded tags [] → is_over before ≡ true
    by [] e h = rw (s, e) refl
    by (t ∷ tags) e h = absurd h

start_token : (before : List Token) (tag : StartTag) (ns : List Expanded) (items : List Item) → has_start before ≡ true → AreExpanded (open_tags before) ns
    → rule_of before (Start tag) ≡ None → ((ms : List Expanded) → AreExpanded (open_tags (Start tag ∷ before)) ms → Closes ms items)
    → Closes ns (items_of before (Start tag) ++ items)
start_token before tag [] items s named rule later =
    absurd (true≢false (sym (outside_over before s named) ∙ (start_clean (is_over before) (open_tags before) (opening tag) rule).1))
start_token before tag (m ∷ ms) items s named rule later =
    let r = (start_clean (is_over before) (open_tags before) (opening tag) rule).0 in
    let attributes = entries (opening tag ∷ open_tags before) (opening tag).given in
    subst (λ o. Closes (m ∷ ms) (start_tag_items o attributes tag.is_empty ++ items)) (sym r.1)
    (started_closes tag.is_empty r.0 attributes m ms items (behind_start tag.is_empty (open_tags before) (opening tag) r.0 (m ∷ ms) items r.1 named later))

end_token : (tags : List Opening) (name : Spelled) (ns : List Expanded) (items : List Item) → AreExpanded tags ns → end_rule tags name ≡ None
    → ((ms : List Expanded) → AreExpanded (drop 1 tags) ms → Closes ms items) → Closes ns (end_items tags ++ items)
end_token [] name ns items named rule later = absurd (not_none _ rule)
end_token (tag ∷ tags) name [] items named rule later = absurd named
end_token (tag ∷ tags) name (n ∷ ns) items (e, named) rule later =
    subst (λ o. Closes (n ∷ ns) (end_tag_items o ++ items)) (sym e) (end_closes n ns items (later ns named))

none_open : (before : List Token) (ns : List Expanded) → AreExpanded (open_tags before) ns → is_over before ≡ true → Closes ns []
none_open before ns named over = by (open_tags before) ns refl named
  where
    by : (tags : List Opening) (ns : List Expanded) → open_tags before ≡ tags → AreExpanded tags ns → Closes ns []
    by [] [] e h = ([], refl)
    by [] (n ∷ ns) e h = absurd h
    by (t ∷ tags) [] e h = absurd h
    by (t ∷ tags) (n ∷ ns) e h = absurd (suc_never_zero (length tags) (ap (λ ts. length ts == 0) (sym e) ∙ (and_parts (has_start before) (is_outside before) over).1))

-- behind the root's start tag, tokens that break no rule close what is open
tokens_close : (before ts : List Token) (ns : List Expanded) → has_start before ≡ true → AreExpanded (open_tags before) ns → IsClean before ts → is_over (tokens_behind before ts) ≡ true
    → Closes ns (items_in before ts)
tokens_close before [] ns s named c over = none_open before ns named over
tokens_close before (Mark ∷ ts) ns s named c over = tokens_close (Mark ∷ before) ts ns s named c.1 over
tokens_close before (Declaration fields gap ∷ ts) ns s named c over = tokens_close (Declaration fields gap ∷ before) ts ns s named c.1 over
tokens_close before (Comment text ∷ ts) ns s named c over = tokens_close (Comment text ∷ before) ts ns s named c.1 over
tokens_close before (Instruction target text ∷ ts) ns s named c over = tokens_close (Instruction target text ∷ before) ts ns s named c.1 over
tokens_close before (Opener ∷ ts) ns s named c over = tokens_close (Opener ∷ before) ts ns s named c.1 over
tokens_close before (Closer ∷ ts) ns s named c over = tokens_close (Closer ∷ before) ts ns s named c.1 over
tokens_close before (TypeDeclaration ∷ ts) ns s named c over = absurd (not_none _ c.0)
tokens_close before (Start tag ∷ ts) ns s named c over =
    start_token before tag ns (items_in (Start tag ∷ before) ts) s named c.0 (λ ms h. tokens_close (Start tag ∷ before) ts ms refl h c.1 over)
tokens_close before (End name gap ∷ ts) ns s named c over =
    end_token (open_tags before) (spelled_name name) ns (items_in (End name gap ∷ before) ts) named c.0 (λ ms h. tokens_close (End name gap ∷ before) ts ms s h c.1 over)
tokens_close before (Refer reference ∷ ts) ns s named c over = character_closes (referred_character reference) ns (items_in (Refer reference ∷ before) ts) (tokens_close (Refer reference ∷ before) ts ns s named c.1 over)
tokens_close before (LineEnd line ∷ ts) ns s named c over = character_closes 10 ns (items_in (LineEnd line ∷ before) ts) (tokens_close (LineEnd line ∷ before) ts ns s named c.1 over)
tokens_close before (Character char ∷ ts) ns s named c over = character_closes char ns (items_in (Character char ∷ before) ts) (tokens_close (Character char ∷ before) ts ns s named c.1 over)

-- ---- the root

abbrev IsTree : List Item → Type 0
IsTree items = (t : Tree) × TreeIs items t

root_tree : (b : Bool) (n : Expanded) (attributes : List Attribute) (items : List Item) → ByCase b (Closes [] items) (Closes (n ∷ []) items)
    → IsTree (start_tag_items (Some n) attributes b ++ items)
root_tree true n attributes items (ks, e) =
    (record { name = n; attributes = attributes; children = Nothing }, ap (λ l. Starts n attributes ∷ (Ends n ∷ l)) e)
root_tree false n attributes items (ks, e) =
    (record { name = n; attributes = attributes; children = first ks }, ap (λ l. Starts n attributes ∷ l) (e ∙ closing_first n [] ks))

root_token : (before : List Token) (tag : StartTag) (items : List Item) → open_tags before ≡ [] → rule_of before (Start tag) ≡ None
    → ((ms : List Expanded) → AreExpanded (open_tags (Start tag ∷ before)) ms → Closes ms items) → IsTree (items_of before (Start tag) ++ items)
root_token before tag items o rule later =
    let r = (start_clean (is_over before) (open_tags before) (opening tag) rule).0 in
    let attributes = entries (opening tag ∷ open_tags before) (opening tag).given in
    subst (λ q. IsTree (start_tag_items q attributes tag.is_empty ++ items)) (sym r.1)
    (root_tree tag.is_empty r.0 attributes items
    (behind_start tag.is_empty (open_tags before) (opening tag) r.0 [] items r.1 (subst (λ tags. AreExpanded tags []) (sym o) tt) later))

before_root : (before ts : List Token) → has_start before ≡ false → open_tags before ≡ [] → IsClean before ts → is_over (tokens_behind before ts) ≡ true → IsTree (items_in before ts)
before_root before [] s o c over = absurd (true≢false (sym over ∙ ap (λ b. b && is_outside before) s))
before_root before (Mark ∷ ts) s o c over = before_root (Mark ∷ before) ts s o c.1 over
before_root before (Declaration fields gap ∷ ts) s o c over = before_root (Declaration fields gap ∷ before) ts s o c.1 over
before_root before (Comment text ∷ ts) s o c over = before_root (Comment text ∷ before) ts s o c.1 over
before_root before (Instruction target text ∷ ts) s o c over = before_root (Instruction target text ∷ before) ts s o c.1 over
before_root before (Opener ∷ ts) s o c over = before_root (Opener ∷ before) ts s o c.1 over
before_root before (Closer ∷ ts) s o c over = before_root (Closer ∷ before) ts s o c.1 over
before_root before (TypeDeclaration ∷ ts) s o c over = absurd (not_none _ c.0)
before_root before (Start tag ∷ ts) s o c over =
    root_token before tag (items_in (Start tag ∷ before) ts) o c.0 (λ ms h. tokens_close (Start tag ∷ before) ts ms refl h c.1 over)
before_root before (End name gap ∷ ts) s o c over = absurd (not_none _ (subst (λ tags. end_rule tags (spelled_name name) ≡ None) o c.0))
before_root before (Refer reference ∷ ts) s o c over = before_root (Refer reference ∷ before) ts s o c.1 over
before_root before (LineEnd line ∷ ts) s o c over = before_root (LineEnd line ∷ before) ts s o c.1 over
before_root before (Character char ∷ ts) s o c over = before_root (Character char ∷ before) ts s o c.1 over

-- ---- with places

items_are : (place : ℕ) (items : List Item) → map (λ (e : Placed). e.item) (map (λ (i : Item). record { place = place; item = i }) items) ≡ items
items_are place [] = refl
items_are place (i ∷ items) = ap (λ l. i ∷ l) (items_are place items)

-- whole tokens that break no rule are a tree
pub whole_tree : (tokens : List Token) → IsClean [] tokens → is_over (reverse tokens) ≡ true → (tree : Tree) × TreeIs (map (λ (e : Placed). e.item) (events [] 0 tokens)) tree
whole_tree tokens c over =
    subst IsTree (sym (events_items [] 0 tokens)) (before_root [] tokens refl refl c (subst (λ ts. is_over ts ≡ true) (behind tokens) over))
