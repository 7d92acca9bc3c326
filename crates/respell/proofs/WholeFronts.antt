-- Where a front of a tree's events is all of them.
use Rattle.std.proofs.Common.{◌≡◌, ℕ, ◌≤◌, ◌⊎◌, inl, inr, Bool, true, false, List, [], ◌∷◌, ◌++◌, length, reverse, drop, Option, None, refl, sym, ap, ap₂, subst, ◌∙◌, append_assoc, arith}
use Rattle.std.specs.Prelude.{◌↔◌, ◌==◌, not, IsTrue}
use Rattle.std.proofs.lemmas.Bool.{true≢false}
use Rattle.std.proofs.lemmas.List.{reverse-append, nil_from_length}
use Rattle.lexical_core.specs.Tree.{Item, Starts, Char, Ends, Skipped, Nodes, Nothing, Element, Text, Tree, flat_nodes, flat}
use Rattle.lexical_core.proofs.Tests.{zero_told}
use Rattle.fragments.specs.Fragment.{default_within, fragment}
use Rattle.respell.specs.Respelling.{nearest, respelled_text, defaults_behind, told_of, AreFront, AreOf}
use Rattle.respell.specs.Kept.{KeepsDefaults, HasTakenItems}
use Rattle.respell.specs.declared.respell.Respell.{Respell}
use Rattle.respell.proofs.RespelledTrees.{respelled_told, whole_text}

-- what is skipped opens and ends nothing
defaults_told : (ds : List (Option (List ℕ))) (items : List Item) → defaults_behind ds items ≡ defaults_behind ds (told_of items)
defaults_told ds [] = refl
defaults_told ds (Skipped ∷ items) = defaults_told ds items
defaults_told ds (Starts n a ∷ items) = defaults_told (default_within (nearest ds) n ∷ ds) items
defaults_told ds (Char c ∷ items) = defaults_told ds items
defaults_told ds (Ends n ∷ items) = defaults_told (drop 1 ds) items

-- children leave open what was
defaults_nodes : (ds : List (Option (List ℕ))) (ns : Nodes) (more : List Item) → defaults_behind ds (flat_nodes ns ++ more) ≡ defaults_behind ds more
defaults_nodes ds Nothing more = refl
defaults_nodes ds (Text c rest) more = defaults_nodes ds rest more
defaults_nodes ds (Element name es children rest) more =
    let d : Option (List ℕ) = default_within (nearest ds) name in
    ap (defaults_behind (d ∷ ds)) (append_assoc (flat_nodes children) (Ends name ∷ flat_nodes rest) more)
    ∙ (defaults_nodes (d ∷ ds) children (Ends name ∷ (flat_nodes rest ++ more)) ∙ defaults_nodes ds rest more)

defaults_tree : (t : Tree) → defaults_behind [] (flat t) ≡ []
defaults_tree t = defaults_nodes (default_within None t.name ∷ []) t.children (Ends t.name ∷ [])

-- a front of children leaves open what was, and more, or reaches behind them
abbrev Reaches : List (Option (List ℕ)) → Nodes → List Item → List Item → List Item → Type 0
Reaches ds ns told more tail = (length ds ≤ length (defaults_behind ds told)) ⊎ ((rest : List Item) × (told ≡ flat_nodes ns ++ rest) × (rest ++ more ≡ tail))

heads : (i j : Item) (r s : List Item) → i ∷ r ≡ j ∷ s → (i ≡ j) × (r ≡ s)
heads i j r s e = (cc, cc)

reaches : (ns : Nodes) (ds : List (Option (List ℕ))) (told more tail : List Item) → told ++ more ≡ flat_nodes ns ++ tail → Reaches ds ns told more tail
reaches Nothing ds told more tail e = inr (told, refl, e)
reaches (Text c k) ds [] more tail e = inl (omega arith)
reaches (Element name es children k) ds [] more tail e = inl (omega arith)
reaches (Text c k) ds (i ∷ told) more tail e =
    let h = heads i (Char c) (told ++ more) (flat_nodes k ++ tail) e in
    subst (λ (j : Item). Reaches ds (Text c k) (j ∷ told) more tail) (sym h.0) (step (reaches k ds told more tail h.1))
  where
    step : Reaches ds k told more tail → Reaches ds (Text c k) (Char c ∷ told) more tail
    step (inl within) = inl within
    step (inr (rest, is, same)) = inr (rest, ap (λ (l : List Item). Char c ∷ l) is, same)
reaches (Element name es children k) ds (i ∷ told) more tail e =
    let h = heads i (Starts name es) (told ++ more) ((flat_nodes children ++ Ends name ∷ flat_nodes k) ++ tail) e in
    let inner : told ++ more ≡ flat_nodes children ++ (Ends name ∷ (flat_nodes k ++ tail)) = h.1 ∙ append_assoc (flat_nodes children) (Ends name ∷ flat_nodes k) tail in
    subst (λ (j : Item). Reaches ds (Element name es children k) (j ∷ told) more tail) (sym h.0) (step (reaches children (default_within (nearest ds) name ∷ ds) told more (Ends name ∷ (flat_nodes k ++ tail)) inner) (λ r g. reaches k ds r more tail g))
  where
    d : Option (List ℕ)
    d = default_within (nearest ds) name

    behind : (r : List Item) → told ≡ flat_nodes children ++ Ends name ∷ r → Reaches ds k r more tail → Reaches ds (Element name es children k) (Starts name es ∷ told) more tail
    behind r is (inl within) = inl (subst (λ (l : List (Option (List ℕ))). length ds ≤ length l) (sym (ap (defaults_behind (d ∷ ds)) is ∙ defaults_nodes (d ∷ ds) children (Ends name ∷ r))) within)
    behind r is (inr (rest, also, same)) = inr (rest, ap (λ (l : List Item). Starts name es ∷ l) (is ∙ (ap (λ (l : List Item). flat_nodes children ++ Ends name ∷ l) also ∙ sym (append_assoc (flat_nodes children) (Ends name ∷ flat_nodes k) rest))), same)

    ended : (r : List Item) → told ≡ flat_nodes children ++ r → r ++ more ≡ Ends name ∷ (flat_nodes k ++ tail) → ((s : List Item) → s ++ more ≡ flat_nodes k ++ tail → Reaches ds k s more tail)
        → Reaches ds (Element name es children k) (Starts name es ∷ told) more tail
    ended [] is same later =
        let open_still : defaults_behind (d ∷ ds) told ≡ d ∷ ds = ap (defaults_behind (d ∷ ds)) is ∙ defaults_nodes (d ∷ ds) children [] in
        inl (subst (λ (l : List (Option (List ℕ))). length ds ≤ length l) (sym open_still) (omega arith))
    ended (j ∷ r) is same later =
        let g = heads j (Ends name) (r ++ more) (flat_nodes k ++ tail) same in
        behind r (is ∙ ap (λ (x : Item). flat_nodes children ++ x ∷ r) g.0) (later r g.1)

    step : Reaches (d ∷ ds) children told more (Ends name ∷ (flat_nodes k ++ tail)) → ((r : List Item) → r ++ more ≡ flat_nodes k ++ tail → Reaches ds k r more tail)
        → Reaches ds (Element name es children k) (Starts name es ∷ told) more tail
    step (inl within) later = inl (omega (arith, within))
    step (inr (r, is, same)) later = ended r is same later

-- where a front is not empty and leaves nothing open, it is all
all_told : (t : Tree) (told more : List Item) → told ++ more ≡ flat t → (told ≡ [] → ⊥) → defaults_behind [] told ≡ [] → told ≡ flat t
all_told t [] more e some none = absurd (some refl)
all_told t (i ∷ told) more e some none =
    let h = heads i (Starts t.name t.attributes) (told ++ more) (flat_nodes t.children ++ Ends t.name ∷ []) e in
    let closed : defaults_behind (d ∷ []) told ≡ [] = ap (λ (j : Item). defaults_behind [] (j ∷ told)) (sym h.0) ∙ none in
    ap₂ (λ (j : Item) (l : List Item). j ∷ l) h.0 (step closed (reaches t.children (d ∷ []) told more (Ends t.name ∷ []) h.1))
  where
    d : Option (List ℕ)
    d = default_within None t.name

    ended : (r : List Item) → defaults_behind (d ∷ []) told ≡ [] → told ≡ flat_nodes t.children ++ r → r ++ more ≡ Ends t.name ∷ [] → told ≡ flat_nodes t.children ++ Ends t.name ∷ []
    ended [] closed is same = absurd (let still : defaults_behind (d ∷ []) told ≡ d ∷ [] = ap (defaults_behind (d ∷ [])) is ∙ defaults_nodes (d ∷ []) t.children [] in let e : [] ≡ d ∷ [] = sym closed ∙ still in cc)
    ended (j ∷ []) closed is same = is ∙ ap (λ (l : List Item). flat_nodes t.children ++ l) (ap (λ (x : Item). x ∷ []) (heads j (Ends t.name) more [] same).0)
    ended (j ∷ k ∷ r) closed is same = absurd (let g = heads j (Ends t.name) (k ∷ (r ++ more)) [] same in let e : k ∷ (r ++ more) ≡ [] = g.1 in cc)

    step : defaults_behind (d ∷ []) told ≡ [] → Reaches (d ∷ []) t.children told more (Ends t.name ∷ []) → told ≡ flat_nodes t.children ++ Ends t.name ∷ []
    step closed (inl within) = absurd (let e : length (defaults_behind (d ∷ []) told) ≡ 0 = ap (λ (l : List (Option (List ℕ))). length l) closed in omega (arith, within, e))
    step closed (inr (r, is, same)) = ended r closed is same

-- ---- what a respeller knows of it

no_flags : (declared : List (List ℕ)) (ds : List (Option (List ℕ))) → KeepsDefaults declared [] ds → ds ≡ []
no_flags declared [] h = refl
no_flags declared (d ∷ ds) h = absurd h

no_defaults : (declared : List (List ℕ)) (flags : List Bool) → KeepsDefaults declared flags [] → flags ≡ []
no_defaults declared [] h = refl
no_defaults declared (true ∷ flags) h = absurd h
no_defaults declared (false ∷ flags) h = absurd h

reverse_none : (flags : List Bool) → reverse flags ≡ [] → length flags ≡ 0
reverse_none [] e = refl
reverse_none (b ∷ flags) e = absurd (let h : reverse flags ++ b ∷ [] ≡ [] = sym (reverse-append (b ∷ []) flags) ∙ e in nonempty (reverse flags) b h)
  where
    nonempty : (l : List Bool) (b : Bool) → l ++ b ∷ [] ≡ [] → ⊥
    nonempty [] b e = absurd cc
    nonempty (x ∷ l) b e = absurd cc

pub whole_if : (r : Respell) (items : List Item) → HasTakenItems r items → AreFront items → length r.declares.items ≡ 0 → (r.text ≡ [] → ⊥) → (t : Tree) × AreOf items t
whole_if r items h (t, more, e) closed some =
    let none : defaults_behind [] items ≡ [] = no_flags (reverse r.defaults.items) (defaults_behind [] items) (subst (λ (l : List Bool). KeepsDefaults (reverse r.defaults.items) (reverse l) (defaults_behind [] items)) (nil_from_length r.declares.items closed) h.defaults_are) in
    (t, all_told t (told_of items) more e (λ nothing. some (h.text_is ∙ (respelled_told [] items ∙ ap (respelled_text []) nothing))) (sym (defaults_told [] items) ∙ none))

pub whole_closed : (r : Respell) (items : List Item) (t : Tree) → HasTakenItems r items → AreOf items t → length r.declares.items ≡ 0
whole_closed r items t h are =
    let none : defaults_behind [] items ≡ [] = defaults_told [] items ∙ (ap (defaults_behind []) are ∙ defaults_tree t) in
    reverse_none r.declares.items (no_defaults (reverse r.defaults.items) (reverse r.declares.items) (subst (λ (l : List (Option (List ℕ))). KeepsDefaults (reverse r.defaults.items) (reverse r.declares.items) l) none h.defaults_are))

pub whole_some : (r : Respell) (items : List Item) (t : Tree) → HasTakenItems r items → AreOf items t → r.text ≡ [] → ⊥
whole_some r items t h are empty = absurd (let e : fragment t ≡ [] = sym (whole_text items t are) ∙ (sym h.text_is ∙ empty) in cc)

-- elements are open
pub whole_not : (r : Respell) (items : List Item) (a : Bool) → a ≡ (length r.declares.items == 0) → a ≡ false → HasTakenItems r items → IsTrue a ↔ ((t : Tree) × AreOf items t)
whole_not r items a is unmet h = (
  λ met. absurd (true≢false (sym met ∙ unmet)),
  λ p. absurd (true≢false (sym (is ∙ ap (λ (n : ℕ). n == 0) (whole_closed r items p.0 h p.1)) ∙ unmet)),
)

-- none is
pub whole_test : (r : Respell) (items : List Item) (a b : Bool) → a ≡ (length r.declares.items == 0) → a ≡ true → b ≡ (length r.text == 0) → HasTakenItems r items → AreFront items → IsTrue (not b) ↔ ((t : Tree) × AreOf items t)
whole_test r items a b is met text h f = (
  λ some. whole_if r items h f (zero_told (length r.declares.items) (sym is ∙ met)) (λ empty. true≢false (sym some ∙ ap (λ (x : Bool). not x) (text ∙ ap (λ (l : List ℕ). length l == 0) empty))),
  λ p. step b (λ t. whole_some r items p.0 h p.1 (nil_from_length r.text (zero_told (length r.text) (sym text ∙ t)))),
)
  where
    step : (b : Bool) → (b ≡ true → ⊥) → IsTrue (not b)
    step true k = absurd (k refl)
    step false k = refl
