-- The events of a tree, written again, are its fragment.
use Rattle.std.proofs.Common.{◌≡◌, ℕ, List, [], ◌∷◌, ◌++◌, refl, sym, ap, ◌∙◌, Option, append_assoc, append-nil, drop}
use Rattle.lexical_core.specs.Escapes.{escape_of}
use Rattle.lexical_core.specs.Tree.{Item, Starts, Char, Ends, Skipped, Nodes, Nothing, Element, Text, Tree, flat_nodes, flat}
use Rattle.fragments.specs.Fragment.{default_within, start_text, end_text, nodes_text, fragment}
use Rattle.respell.specs.Respelling.{nearest, respelled_text, defaults_behind, told_of, AreOf}

pub respelled_nodes : (ds : List (Option (List ℕ))) (ns : Nodes) (more : List Item) → respelled_text ds (flat_nodes ns ++ more) ≡ nodes_text (nearest ds) ns ++ respelled_text ds more
respelled_nodes ds Nothing more = refl
respelled_nodes ds (Text c rest) more = ap (λ (l : List ℕ). escape_of Rattle.std.proofs.Common.false c ++ l) (respelled_nodes ds rest more) ∙ sym (append_assoc (escape_of Rattle.std.proofs.Common.false c) (nodes_text (nearest ds) rest) (respelled_text ds more))
respelled_nodes ds (Element name attributes children rest) more =
    let d = default_within (nearest ds) name in
    let s = start_text (nearest ds) name attributes in let e = end_text name in
    let inner = nodes_text d children in let outer = nodes_text (nearest ds) rest in
    ap (λ (l : List ℕ). s ++ l) (
    ap (respelled_text (d ∷ ds)) (append_assoc (flat_nodes children) (Ends name ∷ flat_nodes rest) more)
    ∙ (respelled_nodes (d ∷ ds) children (Ends name ∷ flat_nodes rest ++ more)
    ∙ ap (λ (l : List ℕ). inner ++ (e ++ l)) (respelled_nodes ds rest more)))
    ∙ (ap (λ (l : List ℕ). s ++ (inner ++ l)) (sym (append_assoc e outer (respelled_text ds more)))
    ∙ (ap (λ (l : List ℕ). s ++ l) (sym (append_assoc inner (e ++ outer) (respelled_text ds more))) ∙ sym (append_assoc s (inner ++ (e ++ outer)) (respelled_text ds more))))

pub respelled_tree : (t : Tree) → respelled_text [] (flat t) ≡ fragment t
respelled_tree t = ap (respelled_text []) (sym (append-nil (flat t))) ∙ (respelled_nodes [] (Element t.name t.attributes t.children Nothing) [] ∙ append-nil (fragment t))

-- what is skipped is not written
pub respelled_told : (ds : List (Option (List ℕ))) (items : List Item) → respelled_text ds items ≡ respelled_text ds (told_of items)
respelled_told ds [] = refl
respelled_told ds (Skipped ∷ items) = respelled_told ds items
respelled_told ds (Starts n a ∷ items) = ap (λ (l : List ℕ). start_text (nearest ds) n a ++ l) (respelled_told (default_within (nearest ds) n ∷ ds) items)
respelled_told ds (Char c ∷ items) = ap (λ (l : List ℕ). escape_of Rattle.std.proofs.Common.false c ++ l) (respelled_told ds items)
respelled_told ds (Ends n ∷ items) = ap (λ (l : List ℕ). end_text n ++ l) (respelled_told (drop 1 ds) items)

-- the text of all events of a tree
pub whole_text : (items : List Item) (t : Tree) → AreOf items t → respelled_text [] items ≡ fragment t
whole_text items t h = respelled_told [] items ∙ (ap (respelled_text []) h ∙ respelled_tree t)

-- one more event
pub respelled-append : (ds : List (Option (List ℕ))) (a b : List Item) → respelled_text ds (a ++ b) ≡ respelled_text ds a ++ respelled_text (defaults_behind ds a) b
respelled-append ds [] b = refl
respelled-append ds (Skipped ∷ a) b = respelled-append ds a b
respelled-append ds (Starts n x ∷ a) b = ap (λ (l : List ℕ). start_text (nearest ds) n x ++ l) (respelled-append (default_within (nearest ds) n ∷ ds) a b) ∙ sym (append_assoc (start_text (nearest ds) n x) _ _)
respelled-append ds (Char c ∷ a) b = ap (λ (l : List ℕ). escape_of Rattle.std.proofs.Common.false c ++ l) (respelled-append ds a b) ∙ sym (append_assoc (escape_of Rattle.std.proofs.Common.false c) _ _)
respelled-append ds (Ends n ∷ a) b = ap (λ (l : List ℕ). end_text n ++ l) (respelled-append (drop 1 ds) a b) ∙ sym (append_assoc (end_text n) _ _)

pub defaults-append : (ds : List (Option (List ℕ))) (a b : List Item) → defaults_behind ds (a ++ b) ≡ defaults_behind (defaults_behind ds a) b
defaults-append ds [] b = refl
defaults-append ds (Skipped ∷ a) b = defaults-append ds a b
defaults-append ds (Starts n x ∷ a) b = defaults-append (default_within (nearest ds) n ∷ ds) a b
defaults-append ds (Char c ∷ a) b = defaults-append ds a b
defaults-append ds (Ends n ∷ a) b = defaults-append (drop 1 ds) a b
