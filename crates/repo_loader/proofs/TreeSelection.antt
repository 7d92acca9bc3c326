-- What is read by the events of a tree is what is read of the tree.
use Rattle.std.proofs.Common.{◌≡◌, ℕ, zero, suc, pred, List, [], ◌∷◌, ◌++◌, map, refl, sym, ap, ◌∙◌, append_assoc, append-nil}
use Rattle.std.proofs.lemmas.List.{map-append}
use Rattle.lexical_core.specs.Tree.{Nodes, Nothing, Element, Text, Tree, Item, Starts, Ends, Char, Skipped, flat, flat_nodes, tree_items}
use Rattle.markup.specs.Events.{Placed}
use Rattle.repo_loader.specs.declared.part.Part.{Part}
use Rattle.repo_loader.specs.declared.part.Part.TheVariants.{File}
use Rattle.repo_loader.specs.Selected.{FileTag, PlacedTag, part_in, tag_if, tags_in, tree_tags, innermost, item_tags, parts_open_behind, item_list_tags, placed_tags, event_tags}
use Rattle.repo_loader.specs.FileFaults.{tags_of}
use Rattle.repo_loader.specs.Laws.{SelectsTheTree}

-- the events of nodes, inside these open elements, read what the nodes give, and leave the same elements open
nodes_read : (part : Part) (parts : List Part) (nodes : Nodes) (rest : List Item)
    → item_list_tags (part ∷ parts) (flat_nodes nodes ++ rest) ≡ tags_in part nodes ++ item_list_tags (part ∷ parts) rest
nodes_read part parts Nothing rest = refl
nodes_read part parts (Text char more) rest = nodes_read part parts more rest
nodes_read part parts (Element n attributes children more) rest =
    let inner = part_in part n attributes in
    let here = tag_if inner attributes in
    ap (λ l. here ++ l)
    (ap (item_list_tags (inner ∷ (part ∷ parts))) (append_assoc (flat_nodes children) (Ends n ∷ flat_nodes more) rest)
    ∙ nodes_read inner (part ∷ parts) children (Ends n ∷ (flat_nodes more ++ rest))
    ∙ ap (λ l. tags_in inner children ++ l) (nodes_read part parts more rest)
    ∙ sym (append_assoc (tags_in inner children) (tags_in part more) (item_list_tags (part ∷ parts) rest)))
    ∙ sym (append_assoc here (tags_in inner children ++ tags_in part more) (item_list_tags (part ∷ parts) rest))

-- those of a whole tree
tree_read : (tree : Tree) → item_list_tags [] (flat tree) ≡ tree_tags tree
tree_read tree =
    let inner = part_in File tree.name tree.attributes in
    ap (λ l. tag_if inner tree.attributes ++ l)
    (nodes_read inner [] tree.children (Ends tree.name ∷ []) ∙ append-nil (tags_in inner tree.children))

-- the number of open elements
abbrev open_count : List Part → ℕ
open_count [] = 0
open_count (part ∷ parts) = suc (open_count parts)

-- events that say nothing of the tree read nothing
counted_read : (parts : List Part) (n : ℕ) (items : List Item) → open_count parts ≡ n → item_list_tags parts (tree_items n items) ≡ item_list_tags parts items
counted_read parts n [] e = refl
counted_read parts n (Starts name attributes ∷ items) e =
    ap (λ l. item_tags (innermost parts) (Starts name attributes) ++ l) (counted_read (part_in (innermost parts) name attributes ∷ parts) (suc n) items (ap suc e))
counted_read [] n (Ends name ∷ items) e = counted_read [] (pred n) items (ap pred e)
counted_read (part ∷ parts) n (Ends name ∷ items) e = counted_read parts (pred n) items (ap pred e)
counted_read parts zero (Char c ∷ items) e = counted_read parts zero items e
counted_read parts (suc n) (Char c ∷ items) e = counted_read parts (suc n) items e
counted_read parts n (Skipped ∷ items) e = counted_read parts n items e

-- places aside, these are the elements
tags_placed : (place : ℕ) (tags : List FileTag) → tags_of (placed_tags place tags) ≡ tags
tags_placed place [] = refl
tags_placed place (tag ∷ tags) = ap (λ l. tag ∷ l) (tags_placed place tags)

-- places aside, events read what their items read
items_read : (parts : List Part) (es : List Placed) → tags_of (event_tags parts es) ≡ item_list_tags parts (map (λ (e : Placed). e.item) es)
items_read parts [] = refl
items_read parts (e ∷ es) =
    let here = item_tags (innermost parts) e.item in
    let later = event_tags (parts_open_behind parts e.item) es in
    map-append (λ (t : PlacedTag). t.tag) (placed_tags e.place here) later
    ∙ ap (λ l. l ++ tags_of later) (tags_placed e.place here)
    ∙ ap (λ l. here ++ l) (items_read (parts_open_behind parts e.item) es)

-- what is read by the events of a tree is what is read of the tree
pub selects_the_tree : SelectsTheTree
selects_the_tree es tree h =
    let items = map (λ (e : Placed). e.item) es in
    items_read [] es ∙ sym (counted_read [] 0 items refl) ∙ ap (item_list_tags []) h ∙ tree_read tree
