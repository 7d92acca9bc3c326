-- Events are those of one tree.
use Rattle.std.proofs.Common.{◌≡◌, ℕ, List, [], ◌∷◌, ◌++◌, refl, sym, ap₂, ◌∙◌, append_assoc}
use Rattle.lexical_core.specs.Tree.{Expanded, Entry, Nodes, Nothing, Element, Text, Tree, Item, Starts, Char, Ends, flat, flat_nodes}

-- the events of children, up to an end, say the children
pub record Same (ns ms : Nodes) (x y : Expanded) (r s : List Item) : Type 0 where
  pub nodes : ns ≡ ms
  pub ends : x ≡ y
  pub rest : r ≡ s

not_start : {A : Type 0} (x n : Expanded) (a : List Entry) (r s : List Item) → Ends x ∷ r ≡ Starts n a ∷ s → A
not_start x n a r s e = absurd (let h : Ends x ≡ Starts n a = heads _ _ _ _ e in cc)
  where
    heads : (i j : Item) (r s : List Item) → i ∷ r ≡ j ∷ s → i ≡ j
    heads i j r s e = cc

not_char : {A : Type 0} (x : Expanded) (c : ℕ) (r s : List Item) → Ends x ∷ r ≡ Char c ∷ s → A
not_char x c r s e = absurd (let h : Ends x ≡ Char c = heads _ _ _ _ e in cc)
  where
    heads : (i j : Item) (r s : List Item) → i ∷ r ≡ j ∷ s → i ≡ j
    heads i j r s e = cc

start_char : {A : Type 0} (n : Expanded) (a : List Entry) (c : ℕ) (r s : List Item) → Starts n a ∷ r ≡ Char c ∷ s → A
start_char n a c r s e = absurd (let h : Starts n a ≡ Char c = heads _ _ _ _ e in cc)
  where
    heads : (i j : Item) (r s : List Item) → i ∷ r ≡ j ∷ s → i ≡ j
    heads i j r s e = cc

pub record SameStart (n m : Expanded) (a b : List Entry) (r s : List Item) : Type 0 where
  pub name : n ≡ m
  pub attributes : a ≡ b
  pub rest : r ≡ s

same_start : (n m : Expanded) (a b : List Entry) (r s : List Item) → Starts n a ∷ r ≡ Starts m b ∷ s → SameStart n m a b r s
same_start n m a b r s e = (let h : Starts n a ≡ Starts m b = cc in record { name = cc; attributes = cc; rest = cc })

same_end : (x y : Expanded) (r s : List Item) → Ends x ∷ r ≡ Ends y ∷ s → (x ≡ y) × (r ≡ s)
same_end x y r s e = (let h : Ends x ≡ Ends y = cc in (cc, cc))

same_char : (c d : ℕ) (r s : List Item) → Char c ∷ r ≡ Char d ∷ s → (c ≡ d) × (r ≡ s)
same_char c d r s e = (let h : Char c ≡ Char d = cc in (cc, cc))

same_nodes : (ns ms : Nodes) (x y : Expanded) (r s : List Item) → flat_nodes ns ++ Ends x ∷ r ≡ flat_nodes ms ++ Ends y ∷ s → Same ns ms x y r s
same_nodes Nothing Nothing x y r s e = (let h = same_end x y r s e in record { nodes = refl; ends = h.0; rest = h.1 })
same_nodes Nothing (Element n a c k) x y r s e = not_start x n a _ _ e
same_nodes Nothing (Text c k) x y r s e = not_char x c _ _ e
same_nodes (Element n a c k) Nothing x y r s e = not_start y n a _ _ (sym e)
same_nodes (Text c k) Nothing x y r s e = not_char y c _ _ (sym e)
same_nodes (Element n a c k) (Text d l) x y r s e = start_char n a d _ _ e
same_nodes (Text d l) (Element n a c k) x y r s e = start_char n a d _ _ (sym e)
same_nodes (Text c k) (Text d l) x y r s e =
    let h = same_char c d _ _ e in let more = same_nodes k l x y r s h.1 in
    record { nodes = ap₂ (λ (u : ℕ) (v : Nodes). Text u v) h.0 more.nodes; ends = more.ends; rest = more.rest }
same_nodes (Element n a c k) (Element m b d l) x y r s e =
    let h = same_start n m a b _ _ e in
    let inner = same_nodes c d n m (flat_nodes k ++ Ends x ∷ r) (flat_nodes l ++ Ends y ∷ s)
    (sym (append_assoc (flat_nodes c) (Ends n ∷ flat_nodes k) (Ends x ∷ r)) ∙ (h.rest ∙ append_assoc (flat_nodes d) (Ends m ∷ flat_nodes l) (Ends y ∷ s))) in
    let more = same_nodes k l x y r s inner.rest in record {
      nodes = whole n m a b c d k l h.name h.attributes inner.nodes more.nodes;
      ends = more.ends;
      rest = more.rest;
    }
  where
    whole : (n m : Expanded) (a b : List Entry) (c d k l : Nodes) → n ≡ m → a ≡ b → c ≡ d → k ≡ l → Element n a c k ≡ Element m b d l
    whole n m a b c d k l e f g h = cc

-- events of a tree that begin with those of another
pub same_tree : (t u : Tree) (more : List Item) → flat t ++ more ≡ flat u → t ≡ u
same_tree t u more e =
    let h = same_start t.name u.name t.attributes u.attributes _ _ e in
    let inner = same_nodes t.children u.children t.name u.name more [] (sym (append_assoc (flat_nodes t.children) (Ends t.name ∷ []) more) ∙ h.rest) in
    whole t u h.name h.attributes inner.nodes
  where
    whole : (t u : Tree) → t.name ≡ u.name → t.attributes ≡ u.attributes → t.children ≡ u.children → t ≡ u
    whole t u e f g = ap₂ (λ (x : Expanded × List Entry) (y : Nodes). record { name = x.0; attributes = x.1; children = y }) (ap₂ (λ (x : Expanded) (y : List Entry). (x, y)) e f) g
