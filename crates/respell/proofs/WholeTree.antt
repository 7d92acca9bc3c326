-- The events of a whole input are those of one tree.
use Rattle.std.proofs.Common.{◌≡◌, ℕ, suc, Bool, true, false, List, [], ◌∷◌, ◌++◌, Option, Some, None, refl, sym, ap, ◌∙◌, length, reverse, cond, append_assoc, subst}
use Rattle.std.specs.Prelude.{if◌then◌else◌, ◌&&◌, ◌||◌, ◌==◌, is_none, drop}
use Rattle.std.specs.List.{list_any}
use Rattle.std.proofs.lemmas.Bool.{and_parts}
use Rattle.lexical_core.specs.declared.rule.Rule.{Rule}
use Rattle.lexical_core.specs.declared.rule.Rule.TheVariants.{DuplicateAttribute, BadPrefix, AfterRoot}
use Rattle.lexical_core.specs.Tree.{Expanded, Entry, Nodes, Element, Text, Tree, TreeIs, Item, Starts, Char, Ends, Skipped, tree_items, flat, flat_nodes}
use Rattle.lexical_core.specs.Tree as tree
use Rattle.lexical_core.proofs.Tests.{suc_never_zero}
use Rattle.markup.specs.declared.tag.Opening.{Opening}
use Rattle.markup.specs.declared.tag.Spelled.{Spelled}
use Rattle.markup.specs.Token.{Token, Mark, Declaration, Comment, Instruction, Opener, Closer, TypeDeclaration, Start, End, Refer, LineEnd, Character}
use Rattle.markup.specs.Events.{spelled_name, open_tags, opening, element_name, items_of, end_items, entries}
use Rattle.markup.specs.Faults.{has_clash, is_bad_attribute, has_start, is_outside, is_over, end_rule, IsClean}
use Rattle.markup.proofs.TokensBehind.{items_in, tokens_behind}

-- The events close these open elements, the innermost first, and one root in all; begun: a root has begun.
abbrev pub Closes : Bool → List Expanded → List Item → Type 0
Closes begun [] [] = begun ≡ true
Closes begun (n ∷ ns) [] = ⊥
Closes begun [] (Starts n a ∷ items) = (begun ≡ false) × Closes true (n ∷ []) items
Closes begun (m ∷ ns) (Starts n a ∷ items) = Closes true (n ∷ m ∷ ns) items
Closes begun [] (Ends n ∷ items) = ⊥
Closes begun (m ∷ ns) (Ends n ∷ items) = (n ≡ m) × Closes begun ns items
Closes begun ns (Char c ∷ items) = Closes begun ns items
Closes begun ns (Skipped ∷ items) = Closes begun ns items

-- the events behind which these elements are open are their contents and ends
abbrev pub Contents : List Expanded → List Item → Type 0
Contents [] items = items ≡ []
Contents (n ∷ ns) items = (nodes : Nodes) × (rest : List Item) × (items ≡ flat_nodes nodes ++ Ends n ∷ rest) × Contents ns rest

abbrev pub Rest : Bool → List Expanded → List Item → Type 0
Rest false [] items = (t : Tree) × (items ≡ flat t)
Rest begun ns items = Contents ns items

pub element_more : (n m : Expanded) (a : List Entry) (items : List Item) (ns : List Expanded) → Contents (n ∷ m ∷ ns) items → Contents (m ∷ ns) (Starts n a ∷ items)
element_more n m a items ns (inner, rest, e, (more, behind, e', c)) =
    (Element n a inner more, behind, ap (λ x. Starts n a ∷ x) (e ∙ (ap (λ x. flat_nodes inner ++ Ends n ∷ x) e' ∙ sym (append_assoc (flat_nodes inner) (Ends n ∷ flat_nodes more) (Ends m ∷ behind)))), c)

pub char_more : (c : ℕ) (n : Expanded) (ns : List Expanded) (items : List Item) → Contents (n ∷ ns) items → Contents (n ∷ ns) (Char c ∷ items)
char_more c n ns items (nodes, rest, e, r) = (Text c nodes, rest, ap (λ x. Char c ∷ x) e, r)

pub root_of : (n : Expanded) (a : List Entry) (items : List Item) → Contents (n ∷ []) items → (t : Tree) × (Starts n a ∷ items ≡ flat t)
root_of n a items (inner, rest, e, none) =
    (record { name = n; attributes = a; children = inner }, ap (λ x. Starts n a ∷ x) (e ∙ ap (λ x. flat_nodes inner ++ Ends n ∷ x) none))

pub rest_true : (ns : List Expanded) (items : List Item) → Rest true ns items → Contents ns items
rest_true [] items h = h
rest_true (n ∷ ns) items h = h

-- a root has begun where an element is open
abbrev pub Begun : Bool → List Expanded → Type 0
Begun begun [] = Unit {0}
Begun begun (n ∷ ns) = begun ≡ true

pub parse : (begun : Bool) (ns : List Expanded) (items : List Item) → Begun begun ns → Closes begun ns items → Rest begun ns (tree_items (length ns) items)
parse true [] [] b h = refl
parse false [] [] b h = absurd cc
parse begun (n ∷ ns) [] b h = absurd h
parse true [] (Starts n a ∷ items) b h = (let e : ◌≡◌ {A = Bool} true false = h.0 in absurd cc)
parse false [] (Starts n a ∷ items) b h = root_of n a (tree_items 1 items) (parse true (n ∷ []) items refl h.1)
parse true (m ∷ ns) (Starts n a ∷ items) b h = element_more n m a (tree_items (suc (suc (length ns))) items) ns (parse true (n ∷ m ∷ ns) items refl h)
parse false (m ∷ ns) (Starts n a ∷ items) b h = absurd cc
parse begun [] (Ends n ∷ items) b h = absurd h
parse true (m ∷ ns) (Ends n ∷ items) b h =
    (tree.Nothing, tree_items (length ns) items, ap (λ x. Ends x ∷ tree_items (length ns) items) h.0, rest_true ns (tree_items (length ns) items) (parse true ns items (begun_all ns) h.1))
  where
    begun_all : (ns : List Expanded) → Begun true ns
    begun_all [] = tt
    begun_all (n ∷ ns) = refl
parse false (m ∷ ns) (Ends n ∷ items) b h = absurd cc
parse true [] (Char c ∷ items) b h = parse true [] items b h
parse false [] (Char c ∷ items) b h = parse false [] items b h
parse true (n ∷ ns) (Char c ∷ items) b h = char_more c n ns (tree_items (suc (length ns)) items) (parse true (n ∷ ns) items b h)
parse false (n ∷ ns) (Char c ∷ items) b h = absurd cc
parse true ns (Skipped ∷ items) b h = parse true ns items b h
parse false ns (Skipped ∷ items) b h = parse false ns items b h

-- the expanded names of open tags
abbrev pub AreNames : List Opening → List Expanded → Type 0
AreNames [] [] = Unit {0}
AreNames (t ∷ tags) (n ∷ ns) = (element_name (t ∷ tags) t.name ≡ Some n) × AreNames tags ns
AreNames _ _ = ⊥

pub none_is : (o : Option Expanded) → is_none o ≡ false → (n : Expanded) × (o ≡ Some n)
none_is None e = absurd cc
none_is (Some n) e = (n, refl)

-- a start tag that breaks no rule has an expanded name, and the root is not over
pub start_parts : (over : Bool) (a b c : Bool) (x y z : Rule) → cond a (Some x) (cond (b || c) (Some y) (cond over (Some z) None)) ≡ None → (b ≡ false) × (over ≡ false)
start_parts over true b c x y z e = absurd cc
start_parts over false true c x y z e = absurd cc
start_parts over false false true x y z e = absurd cc
start_parts true false false false x y z e = absurd cc
start_parts false false false false x y z e = (refl, refl)

-- a start tag, and items that close what it leaves open
pub start_closes : (begun empty : Bool) (name : Expanded) (es : List Entry) (ns : List Expanded) (items : List Item) → (ns ≡ [] → begun ≡ false)
    → Closes true (if empty then ns else name ∷ ns) items → Closes begun ns ((Starts name es ∷ (if empty then Ends name ∷ [] else [])) ++ items)
start_closes begun true name es [] items out h = (out refl, (refl, h))
start_closes begun false name es [] items out h = (out refl, h)
start_closes begun true name es (m ∷ ns) items out h = (refl, h)
start_closes begun false name es (m ∷ ns) items out h = h

pub names_if : (empty : Bool) (tags : List Opening) (t : Opening) (ns : List Expanded) (n : Expanded) → AreNames tags ns → element_name (t ∷ tags) t.name ≡ Some n → AreNames (if empty then tags else t ∷ tags) (if empty then ns else n ∷ ns)
names_if true tags t ns n h e = h
names_if false tags t ns n h e = (e, h)

pub first_false : (a b : Bool) → (a && b) ≡ false → b ≡ true → a ≡ false
first_false true true e h = absurd cc
first_false true false e h = absurd cc
first_false false b e h = refl

no_names : (tags : List Opening) (ns : List Expanded) → AreNames tags ns → (length tags == 0) ≡ true → ns ≡ []
no_names [] [] h e = refl
no_names [] (n ∷ ns) h e = absurd h
no_names (t ∷ tags) ns h e = absurd (suc_never_zero (length tags) e)

pub no_tags : (tags : List Opening) → AreNames tags [] → (length tags == 0) ≡ true
no_tags [] h = refl
no_tags (t ∷ tags) h = absurd h

ended_closes : (begun : Bool) (tags : List Opening) (n : Spelled) (ns : List Expanded) (items : List Item) → end_rule tags n ≡ None → AreNames tags ns
    → ((ms : List Expanded) → AreNames (drop 1 tags) ms → Closes begun ms items) → Closes begun ns (end_items tags ++ items)
ended_closes begun [] n ns items e h later = absurd cc
ended_closes begun (t ∷ tags) n [] items e h later = absurd h
ended_closes begun (t ∷ tags) n (m ∷ ns) items e (named, h) later = rw named (refl, later ns h)

-- the tokens of a whole input close what is open
tokens_close : (before ts : List Token) (ns : List Expanded) → IsClean before ts → AreNames (open_tags before) ns → is_over (tokens_behind before ts) ≡ true → Closes (has_start before) ns (items_in before ts)
tokens_close before [] ns clean names over =
    let parts : (has_start before ≡ true) × (is_outside before ≡ true) = and_parts _ _ over in
    rw (no_names (open_tags before) ns names parts.1) parts.0
tokens_close before (Start tag ∷ ts) ns clean names over = go (λ ms h. tokens_close (Start tag ∷ before) ts ms clean.1 h over) (none_is (element_name (opening tag ∷ open_tags before) (opening tag).name) both.0)
  where
    both : (is_none (element_name (opening tag ∷ open_tags before) (opening tag).name) ≡ false) × (is_over before ≡ false)
    both = start_parts (is_over before) (has_clash (opening tag ∷ open_tags before) (opening tag).given) (is_none (element_name (opening tag ∷ open_tags before) (opening tag).name)) (list_any (is_bad_attribute (opening tag ∷ open_tags before)) (opening tag).given) DuplicateAttribute BadPrefix AfterRoot clean.0

    outside : ns ≡ [] → has_start before ≡ false
    outside e = first_false (has_start before) (is_outside before) both.1 (no_tags (open_tags before) (subst (λ (x : List Expanded). AreNames (open_tags before) x) e names))

    go : ((ms : List Expanded) → AreNames (open_tags (Start tag ∷ before)) ms → Closes true ms (items_in (Start tag ∷ before) ts)) → ((n : Expanded) × (element_name (opening tag ∷ open_tags before) (opening tag).name ≡ Some n))
        → Closes (has_start before) ns (items_of before (Start tag) ++ items_in (Start tag ∷ before) ts)
    go later (n, e) = rw e (start_closes (has_start before) tag.is_empty n (entries (opening tag ∷ open_tags before) (opening tag).given) ns (items_in (Start tag ∷ before) ts) outside
        (later (if tag.is_empty then ns else n ∷ ns) (names_if tag.is_empty (open_tags before) (opening tag) ns n names e)))
tokens_close before (End name gap ∷ ts) ns clean names over =
    ended_closes (has_start before) (open_tags before) (spelled_name name) ns (items_in (End name gap ∷ before) ts) clean.0 names (λ ms h. tokens_close (End name gap ∷ before) ts ms clean.1 h over)
tokens_close before (Mark ∷ ts) ns clean names over = tokens_close (Mark ∷ before) ts ns clean.1 names over
tokens_close before (Declaration fields gap ∷ ts) ns clean names over = tokens_close (Declaration fields gap ∷ before) ts ns clean.1 names over
tokens_close before (Comment text ∷ ts) ns clean names over = tokens_close (Comment text ∷ before) ts ns clean.1 names over
tokens_close before (Instruction target text ∷ ts) ns clean names over = tokens_close (Instruction target text ∷ before) ts ns clean.1 names over
tokens_close before (Opener ∷ ts) ns clean names over = tokens_close (Opener ∷ before) ts ns clean.1 names over
tokens_close before (Closer ∷ ts) ns clean names over = tokens_close (Closer ∷ before) ts ns clean.1 names over
tokens_close before (TypeDeclaration ∷ ts) ns clean names over = tokens_close (TypeDeclaration ∷ before) ts ns clean.1 names over
tokens_close before (Refer reference ∷ ts) ns clean names over = tokens_close (Refer reference ∷ before) ts ns clean.1 names over
tokens_close before (LineEnd line ∷ ts) ns clean names over = tokens_close (LineEnd line ∷ before) ts ns clean.1 names over
tokens_close before (Character c ∷ ts) ns clean names over = tokens_close (Character c ∷ before) ts ns clean.1 names over

-- the events of a whole input are those of a tree
pub whole_tree : (ts : List Token) → IsClean [] ts → is_over (reverse ts) ≡ true → (t : Tree) × TreeIs (items_in [] ts) t
whole_tree ts clean over = parse false [] (items_in [] ts) tt (tokens_close [] ts [] clean tt over)
