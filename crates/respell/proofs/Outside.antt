-- Events that no fragment has: characters outside the root, and what is skipped.
use Rattle.std.proofs.Common.{◌≡◌, ℕ, zero, suc, ◌<◌, Bool, true, false, List, [], ◌∷◌, ◌++◌, length, reverse, map, Option, refl, sym, ap, subst, ◌∙◌, append_assoc, arith}
use Rattle.std.specs.Prelude.{◌==◌, IsTrue, IsFalse}
use Rattle.std.proofs.lemmas.Bool.Decides.{nat_tests}
use Rattle.std.proofs.lemmas.List.{length-reverse}
use Rattle.lexical_core.specs.Tree.{Item, Starts, Char, Ends, Skipped, Nodes, Nothing, Element, Text, Tree, flat_nodes, flat, tree_items}
use Rattle.markup.specs.EventItems.{item_of}
use Rattle.markup.specs.declared.event.What.{What}
use Rattle.markup.specs.declared.event.What.TheVariants.{Start as StartTold, Char as CharTold, End as EndTold, Skipped as SkippedTold}
use Rattle.fragments.specs.Fragment.{default_within}
use Rattle.respell.specs.Respelling.{nearest, defaults_behind, told_of}
use Rattle.respell.specs.Kept.{KeepsDefaults, HasWritten}
use Rattle.respell.specs.inner.FragmentReading.{NoneForeign}
use Rattle.respell.specs.declared.respell.Respell.{Respell}

-- how many elements are open behind the events
abbrev pub depth : ℕ → List Item → ℕ
depth n [] = n
depth n (Starts name attributes ∷ items) = depth (suc n) items
depth n (Ends name ∷ items) = depth (Prim.Native.Nat.pred n) items
depth n (Char c ∷ items) = depth n items
depth n (Skipped ∷ items) = depth n items

pub outside-append : (n : ℕ) (a b : List Item) → NoneForeign n a → NoneForeign (depth n a) b → NoneForeign n (a ++ b)
outside-append n [] b h g = g
outside-append n (Starts m e ∷ a) b h g = outside-append (suc n) a b h g
outside-append n (Ends m ∷ a) b h g = outside-append (Prim.Native.Nat.pred n) a b h g
outside-append n (Char c ∷ a) b h g = (h.0, outside-append n a b h.1 g)
outside-append n (Skipped ∷ a) b h g = absurd h

pub outside_parts : (n : ℕ) (a b : List Item) → NoneForeign n (a ++ b) → NoneForeign n a × NoneForeign (depth n a) b
outside_parts n [] b h = (tt, h)
outside_parts n (Starts m e ∷ a) b h = outside_parts (suc n) a b h
outside_parts n (Ends m ∷ a) b h = outside_parts (Prim.Native.Nat.pred n) a b h
outside_parts n (Char c ∷ a) b h = let r = outside_parts n a b h.1 in ((h.0, r.0), r.1)
outside_parts n (Skipped ∷ a) b h = absurd h

-- ---- the events of a tree

nodes_inside : (n : ℕ) (ns : Nodes) (more : List Item) → NoneForeign (suc n) more → NoneForeign (suc n) (flat_nodes ns ++ more)
nodes_inside n Nothing more h = h
nodes_inside n (Text c rest) more h = (omega arith, nodes_inside n rest more h)
nodes_inside n (Element name es children rest) more h =
    subst (λ (l : List Item). NoneForeign (suc (suc n)) l) (sym (append_assoc (flat_nodes children) (Ends name ∷ flat_nodes rest) more))
    (nodes_inside (suc n) children (Ends name ∷ (flat_nodes rest ++ more)) (nodes_inside n rest more h))

pub tree_inside : (t : Tree) → NoneForeign 0 (flat t)
tree_inside t = nodes_inside 0 t.children (Ends t.name ∷ []) tt

-- where none is outside, all are counted
pub told_counted : (n : ℕ) (items : List Item) → NoneForeign n items → told_of items ≡ tree_items n items
told_counted n [] h = refl
told_counted n (Starts m e ∷ items) h = ap (λ (l : List Item). Starts m e ∷ l) (told_counted (suc n) items h)
told_counted n (Ends m ∷ items) h = ap (λ (l : List Item). Ends m ∷ l) (told_counted (Prim.Native.Nat.pred n) items h)
told_counted zero (Char c ∷ items) h = absurd (let l : 0 < 0 = h.0 in omega (arith, l))
told_counted (suc n) (Char c ∷ items) h = ap (λ (l : List Item). Char c ∷ l) (told_counted (suc n) items h.1)
told_counted n (Skipped ∷ items) h = absurd h

told_nodes : (ns : Nodes) (more : List Item) → told_of (flat_nodes ns ++ more) ≡ flat_nodes ns ++ told_of more
told_nodes Nothing more = refl
told_nodes (Text c rest) more = ap (λ (l : List Item). Char c ∷ l) (told_nodes rest more)
told_nodes (Element name es children rest) more =
    ap (λ (l : List Item). Starts name es ∷ l) (ap told_of (append_assoc (flat_nodes children) (Ends name ∷ flat_nodes rest) more)
    ∙ (told_nodes children (Ends name ∷ (flat_nodes rest ++ more)) ∙ (ap (λ (l : List Item). flat_nodes children ++ Ends name ∷ l) (told_nodes rest more) ∙ sym (append_assoc (flat_nodes children) (Ends name ∷ flat_nodes rest) (told_of more)))))

-- a tree's events are all told
pub told_tree : (t : Tree) → told_of (flat t) ≡ flat t
told_tree t = ap (λ (l : List Item). Starts t.name t.attributes ∷ l) (told_nodes t.children (Ends t.name ∷ []))

-- ---- what a respeller knows of it

pub depth_defaults : (ds : List (Option (List ℕ))) (items : List Item) → depth (length ds) items ≡ length (defaults_behind ds items)
depth_defaults ds [] = refl
depth_defaults ds (Starts m e ∷ items) = depth_defaults (default_within (nearest ds) m ∷ ds) items
depth_defaults [] (Ends m ∷ items) = depth_defaults [] items
depth_defaults (d ∷ ds) (Ends m ∷ items) = depth_defaults ds items
depth_defaults ds (Char c ∷ items) = depth_defaults ds items
depth_defaults ds (Skipped ∷ items) = depth_defaults ds items

stands_length : (declared : List (List ℕ)) (flags : List Bool) (ds : List (Option (List ℕ))) → KeepsDefaults declared flags ds → length flags ≡ length ds
stands_length declared [] [] h = refl
stands_length declared [] (d ∷ ds) h = absurd h
stands_length declared (true ∷ flags) [] h = absurd h
stands_length declared (false ∷ flags) [] h = absurd h
stands_length declared (true ∷ flags) (d ∷ ds) (n, outer, e, is, inner) = ap suc (stands_length outer flags ds inner)
stands_length declared (false ∷ flags) (d ∷ ds) h = ap suc (stands_length declared flags ds h.1)

taken_depth : (r : Respell) (forgotten : List ℕ) (items : List Item) → HasWritten r forgotten items → depth 0 items ≡ length r.declares.items
taken_depth r forgotten items h = depth_defaults [] items ∙ (sym (stands_length (reverse r.defaults.items) (reverse r.declares.items) (defaults_behind [] items) h.defaults_are) ∙ length-reverse r.declares.items)

none_test : (n : ℕ) (b : Bool) → b ≡ (n == 0) → b ≡ false → 0 < n
none_test n b e f = (let g : (n == 0) ≡ false = sym e ∙ f in grind (arith, nat_tests, g))

no_test : (n : ℕ) (b : Bool) → b ≡ (n == 0) → b ≡ true → n ≡ 0
no_test n b e f = (let g : (n == 0) ≡ true = sym e ∙ f in grind (arith, nat_tests, g))

pub char_outside : (r : Respell) (forgotten : List ℕ) (items : List Item) (w : What) (c : ℕ) (b : Bool) → w ≡ CharTold c → b ≡ (length r.declares.items == 0) → HasWritten r forgotten items → IsTrue b → NoneForeign 0 (items ++ item_of w ∷ []) → ⊥
char_outside r forgotten items w c b is test h met none =
    let parts = outside_parts 0 items (Char c ∷ []) (subst (λ (v : What). NoneForeign 0 (items ++ item_of v ∷ [])) is none) in
    let at : 0 < depth 0 items = parts.1.0 in
    let z : length r.declares.items ≡ 0 = no_test (length r.declares.items) b test met in
    let d = taken_depth r forgotten items h in omega (arith, at, z, d)

pub char_inside : (r : Respell) (forgotten : List ℕ) (items : List Item) (w : What) (c : ℕ) (b : Bool) → w ≡ CharTold c → b ≡ (length r.declares.items == 0) → HasWritten r forgotten items → NoneForeign 0 items → IsFalse b → NoneForeign 0 (items ++ item_of w ∷ [])
char_inside r forgotten items w c b is test h inside unmet =
    let some : 0 < length r.declares.items = none_test (length r.declares.items) b test unmet in
    let d = taken_depth r forgotten items h in
    subst (λ (v : What). NoneForeign 0 (items ++ item_of v ∷ [])) (sym is) (outside-append 0 items (Char c ∷ []) inside (subst (λ (n : ℕ). 0 < n) (sym d) some, tt))

-- characters of an open element
chars_within : (n : ℕ) (cs : List ℕ) → 0 < n → NoneForeign n (map (λ c. Char c) cs)
chars_within n [] h = tt
chars_within n (c ∷ cs) h = (h, chars_within n cs h)

pub chars_inside : (r : Respell) (forgotten : List ℕ) (items : List Item) (characters : List ℕ) (b : Bool) → b ≡ (length r.declares.items == 0) → HasWritten r forgotten items → NoneForeign 0 items → IsFalse b → NoneForeign 0 (items ++ map (λ c. Char c) characters)
chars_inside r forgotten items characters b test h inside unmet =
    let some : 0 < length r.declares.items = none_test (length r.declares.items) b test unmet in
    let d = taken_depth r forgotten items h in
    outside-append 0 items (map (λ c. Char c) characters) inside (chars_within (depth 0 items) characters (subst (λ (n : ℕ). 0 < n) (sym d) some))

-- what is skipped
pub skipped_foreign : (items : List Item) (w : What) → w ≡ SkippedTold → NoneForeign 0 (items ++ item_of w ∷ []) → ⊥
skipped_foreign items w is none = (outside_parts 0 items (Skipped ∷ []) (subst (λ (v : What). NoneForeign 0 (items ++ item_of v ∷ [])) is none)).1

-- any other event
pub what_inside : (items : List Item) (w : What) → ((c : ℕ) → w ≡ CharTold c → ⊥) → (w ≡ SkippedTold → ⊥) → NoneForeign 0 items → NoneForeign 0 (items ++ item_of w ∷ [])
what_inside items (StartTold ns local attrs) k s h = outside-append 0 items (item_of (StartTold ns local attrs) ∷ []) h tt
what_inside items (EndTold ns local) k s h = outside-append 0 items (item_of (EndTold ns local) ∷ []) h tt
what_inside items (CharTold c) k s h = absurd (k c refl)
what_inside items SkippedTold k s h = absurd (s refl)
