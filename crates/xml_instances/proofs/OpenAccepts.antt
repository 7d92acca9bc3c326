-- Events of a tree that may follow one another, of which so many have come, are those of a tree round a shape.
use Rattle.std.proofs.Common.{subst, ◌≡◌, ℕ, ◌+◌, ◌-◌, ◌<◌, Bool, true, false, cond, List, [], ◌∷◌, ◌++◌, Some, None, refl, sym, ap, arith, ◌⊎◌, inl, inr, append_assoc, append-nil, length}
use Rattle.std.specs.Prelude.{codes}
use Rattle.std.specs.Str.{bytes_eq, chars}
use Rattle.std.proofs.lemmas.Slice.Eq.{bytes_eq-Decides}
use Rattle.lexical_core.specs.Tree.{Expanded, Entry, Nodes, Element, Text, Tree, Item, Starts, Ends, flat, flat_nodes}
use Rattle.lexical_core.specs.Tree as tree
use Rattle.lexical_core.specs.Characters.{IsSpace}
use Rattle.lexical_core.specs.Names.{attribute_value}
use Rattle.data_types.specs.Leaf as leaf
use Rattle.facets.specs.declared.simple.Simple.{Simple}
use Rattle.facets.specs.LeafUnder.{GivesLeaf}
use Rattle.markup.specs.Chars.{is_space}
use Rattle.reference_check.specs.Forms.{Form, form_slots}
use Rattle.reference_check.specs.Forms as form
use Rattle.reference_check.specs.Words.{IsWordOf}
use Rattle.reference_check.specs.Steps.{Fine, next, end_after, CameAfter, Came}
use Rattle.reference_check.specs.Shapes.{Shape, Component, OpenLeaf, Shapes, Nothing, Child, HasShape, HaveShapes, numbers_in}
use Rattle.message_model.specs.Writes.{name_in_namespace, currency, SpellsCode, text_nodes, IsBlank, Wraps, MayHold}
use Rattle.message_model.specs.Message.{Message}
use Rattle.xml_instances.specs.Levels.{Level, Parent, Leaf, Envelope, Foreign, begun_level, path_in, form_of_start, round_start}
use Rattle.xml_instances.specs.EventFaults.{Broken, AttributeFault, RequiredFault, next_fault, unknown_fault, is_bare}
use Rattle.xml_instances.specs.OpenInstances.{AreKnown, TextSoFar, LeafSoFar, ContentSoFar, IsSoFar}
use Rattle.xml_instances.proofs.Accepts.{Comes, comes, no_fault, space_of, space_in, bare_in, not_bare, name_in, unless_in, if_in, if_else, hints_of, holds_in, money_in, currency_in}
use Rattle.xml_instances.proofs.Following.{MayFollow}
use Rattle.xml_instances.proofs.OpenRuns.{element_size}

module _ {P : Type 0} (m : Message P)
    (whole : (p : P) (d : List ℕ) → Came (m.forms p) d → end_after (m.forms p) d ≡ Fine → IsWordOf (m.forms p) d) where
  whole_of : (p : P) (f : Form P Simple) (d : List ℕ) → m.forms p ≡ f → Came f d → end_after f d ≡ Fine → IsWordOf f d
  whole_of p f d at = subst (λ (f : Form P Simple). Came f d → end_after f d ≡ Fine → IsWordOf f d) at (whole p d)

  -- the events behind those of an element, of which so many have come
  abbrev pub Behind : ℕ → ℕ → List (Level P) → List Item → Type 0
  Behind come size above rest = (left : ℕ) × (left ≡ come - size) × MayFollow m left above rest

  abbrev pub TextIn : ℕ → Simple → List ℕ → Nodes → List (Level P) → List Item → Type 0
  TextIn come s v nodes above rest = (w : List ℕ) × (nodes ≡ text_nodes w) × (length w < come → (l : leaf.Leaf) × GivesLeaf s (v ++ w) l) × Behind come (length (flat_nodes nodes) + 1) above rest

  text_so : (come : ℕ) (s : Simple) (v : List ℕ) (nodes : Nodes) (n : Expanded) (above : List (Level P)) (rest : List Item) → MayFollow m come (Leaf s v ∷ above) (flat_nodes nodes ++ (Ends n ∷ rest)) → TextIn come s v nodes above rest
  text_so come s v tree.Nothing n above rest h = ([], refl, rw append-nil h.0, (come - 1, refl, h.1))
  text_so come s v (Text c more) n above rest h =
      let r : TextIn (come - 1) s (v ++ c ∷ []) more above rest = text_so (come - 1) s (v ++ c ∷ []) more n above rest h.1 in
      (c ∷ r.0, ap (Text c) r.1, (λ some. rw (append_assoc v (c ∷ []) r.0) at (r.2 (omega arith))), (r.3.0, omega (arith, r.3.1), r.3.2))
  text_so come s v (Element k attributes inner more) n above rest h = no_fault _ h.0.0

  foreign_so : (come : ℕ) (nodes : Nodes) (above : List (Level P)) (rest : List Item) → MayFollow m come (Foreign ∷ above) (flat_nodes nodes ++ rest) → Behind come (length (flat_nodes nodes)) (Foreign ∷ above) rest
  foreign_so come tree.Nothing above rest h = (come, omega arith, h)
  foreign_so come (Text c more) above rest h = (let r : Behind (come - 1) (length (flat_nodes more)) (Foreign ∷ above) rest = foreign_so (come - 1) more above rest h.1 in (r.0, omega (arith, r.1), r.2))
  foreign_so come (Element n attributes inner more) above rest h =
      let i : Behind (come - 1) (length (flat_nodes inner)) (Foreign ∷ Foreign ∷ above) (Ends n ∷ (flat_nodes more ++ rest)) = foreign_so (come - 1) inner (Foreign ∷ above) (Ends n ∷ (flat_nodes more ++ rest)) (rw (append_assoc (flat_nodes inner) (Ends n ∷ flat_nodes more) rest) at h.1) in
      let r : Behind (i.0 - 1) (length (flat_nodes more)) (Foreign ∷ above) rest = foreign_so (i.0 - 1) more above rest i.2.1 in
      (r.0, omega (arith, element_size n attributes inner more, i.1, r.1), r.2)

  blank_so : (come : ℕ) (nodes : Nodes) (n : Expanded) (above : List (Level P)) (rest : List Item) → MayFollow m come (Envelope true ∷ above) (flat_nodes nodes ++ (Ends n ∷ rest)) → IsBlank nodes × Behind come (length (flat_nodes nodes) + 1) above rest
  blank_so come tree.Nothing n above rest h = (tt, (come - 1, refl, h.1))
  blank_so come (Text c more) n above rest h =
      let r : IsBlank more × Behind (come - 1) (length (flat_nodes more) + 1) above rest = blank_so (come - 1) more n above rest h.1 in
      ((space_of c (space_in _ _ h.0), r.0), (r.1.0, omega (arith, r.1.1), r.1.2))
  blank_so come (Element k attributes inner more) n above rest h = no_fault _ h.0.0

  wraps_so : (come : ℕ) (nodes : Nodes) (n : Expanded) (above : List (Level P)) (rest : List Item) → MayFollow m come (Envelope false ∷ above) (flat_nodes nodes ++ (Ends n ∷ rest)) → (t : Tree) × Wraps t nodes × Behind come (length (flat_nodes nodes) + 1) above rest
  wraps_so come tree.Nothing n above rest h = absurd h.0
  wraps_so come (Text c more) n above rest h =
      let r : (t : Tree) × Wraps t more × Behind (come - 1) (length (flat_nodes more) + 1) above rest = wraps_so (come - 1) more n above rest h.1 in
      (r.0, (space_of c (space_in _ _ h.0), r.1), (r.2.0, omega (arith, r.2.1), r.2.2))
  wraps_so come (Element k attributes inner more) n above rest h =
      let i : Behind (come - 1) (length (flat_nodes inner)) (Foreign ∷ Envelope true ∷ above) (Ends k ∷ (flat_nodes more ++ (Ends n ∷ rest))) = foreign_so (come - 1) inner (Envelope true ∷ above) (Ends k ∷ (flat_nodes more ++ (Ends n ∷ rest))) (rw (append_assoc (flat_nodes inner) (Ends k ∷ flat_nodes more) (Ends n ∷ rest)) at h.1) in
      let r : IsBlank more × Behind (i.0 - 1) (length (flat_nodes more) + 1) above rest = blank_so (i.0 - 1) more n above rest i.2.1 in
      (record { name = k; attributes = attributes; children = inner }, (refl, r.0), (r.1.0, omega (arith, element_size k attributes inner more, i.1, r.1.1), r.1.2))

  -- the children that come behind those before, and the end of their element
  abbrev pub ChildrenOf : ℕ → Form P Simple → List ℕ → Nodes → List (Level P) → List Item → Type 0
  ChildrenOf come f before nodes above rest =
      (ks : Shapes) × ContentSoFar m.forms m.namespace come f (Component ks) nodes × HaveShapes m.forms (form_slots f) ks × CameAfter f before (numbers_in ks)
      × (end_after f (before ++ numbers_in ks) ≡ Fine) × ((is_bare f ≡ false) ⊎ (nodes ≡ tree.Nothing)) × Behind come (length (flat_nodes nodes) + 1) above rest

  abbrev pub ChildrenSo : Nodes → Type 0
  ChildrenSo nodes =
      (come : ℕ) (p : P) (f : Form P Simple) (before : List ℕ) (n : Expanded) (above : List (Level P)) (rest : List Item) → m.forms p ≡ f
      → MayFollow m come (Parent f before ∷ above) (flat_nodes nodes ++ (Ends n ∷ rest)) → ChildrenOf come f before nodes above rest

  abbrev pub ElementOf : ℕ → Form P Simple → Nodes → List (Level P) → List Item → Type 0
  ElementOf come f nodes above rest =
      (v : Shape) × HasShape m.forms f v × MayHold f nodes × ContentSoFar m.forms m.namespace come f v nodes × Behind come (length (flat_nodes nodes) + 1) above rest

  known_in : (f : Form P Simple) (attributes : List Entry) (path : List ℕ) → AttributeFault m (Some f) attributes path None → AreKnown m.forms f attributes
  known_in (form.Money c s) attributes path known =
      let r : (unknown_fault (form.Money c s) attributes path ≡ None) × RequiredFault m (form.Money c s) attributes path None = unless_in _ (RequiredFault m (form.Money c s) attributes path) known in
      let q : (w : List ℕ) × (l : leaf.Leaf) × (attribute_value currency attributes ≡ Some w) × SpellsCode (m.forms c) (chars w) l = currency_in (m.forms c) (attribute_value currency attributes) (path ++ codes "/@Ccy") r.1 in
      (q.0, q.1, (q.2, money_in c s attributes (if_in _ _ r.0)), q.3)
  known_in (form.Sequence fs) attributes path h = hints_of m (form.Sequence fs) attributes path refl h
  known_in (form.Choice fs) attributes path h = hints_of m (form.Choice fs) attributes path refl h
  known_in (form.Simple s) attributes path h = hints_of m (form.Simple s) attributes path refl h
  known_in form.Envelope attributes path h = hints_of m form.Envelope attributes path refl h
  known_in form.LeftOut attributes path h = hints_of m form.LeftOut attributes path refl h
  known_in form.Missing attributes path h = hints_of m form.Missing attributes path refl h

  leaf_is : (come : ℕ) (f : Form P Simple) (nodes : Nodes) → LeafSoFar come f nodes → ContentSoFar m.forms m.namespace come f OpenLeaf nodes
  leaf_is come f tree.Nothing h = h
  leaf_is come f (Text c more) h = h
  leaf_is come f (Element n a inner more) h = h

  text_is : (come : ℕ) (s : Simple) (nodes : Nodes) (above : List (Level P)) (rest : List Item) → TextIn come s [] nodes above rest → TextSoFar come s nodes × Behind come (length (flat_nodes nodes) + 1) above rest
  text_is come s nodes above rest (w, e, fits, b) = ((w, e, fits), b)

  element_so : (come : ℕ) (nodes : Nodes) (p : P) (f : Form P Simple) (n : Expanded) (above : List (Level P)) (rest : List Item) → ChildrenSo nodes → m.forms p ≡ f
      → MayFollow m come (begun_level f ∷ above) (flat_nodes nodes ++ (Ends n ∷ rest)) → ElementOf come f nodes above rest
  element_so come nodes p (form.Sequence fs) n above rest children at h = of_children (children come p (form.Sequence fs) [] n above rest at h)
    where
      of_children : ChildrenOf come (form.Sequence fs) [] nodes above rest → ElementOf come (form.Sequence fs) nodes above rest
      of_children (ks, so_far, shapes, came, ends, bare, b) = (Component ks, (whole_of p (form.Sequence fs) (numbers_in ks) at came ends, shapes), holds_in fs nodes bare, so_far, b)
  element_so come nodes p (form.Choice fs) n above rest children at h = of_children (children come p (form.Choice fs) [] n above rest at h)
    where
      of_children : ChildrenOf come (form.Choice fs) [] nodes above rest → ElementOf come (form.Choice fs) nodes above rest
      of_children (ks, so_far, shapes, came, ends, bare, b) = (Component ks, (whole_of p (form.Choice fs) (numbers_in ks) at came ends, shapes), tt, so_far, b)
  element_so come nodes p (form.Simple s) n above rest children at h =
      let r : TextSoFar come s nodes × Behind come (length (flat_nodes nodes) + 1) above rest = text_is come s nodes above rest (text_so come s [] nodes n above rest h) in
      (OpenLeaf, tt, tt, leaf_is come (form.Simple s) nodes r.0, r.1)
  element_so come nodes p (form.Money c s) n above rest children at h =
      let r : TextSoFar come s nodes × Behind come (length (flat_nodes nodes) + 1) above rest = text_is come s nodes above rest (text_so come s [] nodes n above rest h) in
      (OpenLeaf, tt, tt, leaf_is come (form.Money c s) nodes r.0, r.1)
  element_so come nodes p form.Envelope n above rest children at h = of_wraps (wraps_so come nodes n above rest h)
    where
      of_wraps : ((t : Tree) × Wraps t nodes × Behind come (length (flat_nodes nodes) + 1) above rest) → ElementOf come form.Envelope nodes above rest
      of_wraps (t, w, b) = (OpenLeaf, tt, tt, leaf_is come form.Envelope nodes (t, w), b)
  element_so come nodes p form.LeftOut n above rest children at h = none (children come p form.LeftOut [] n above rest at h)
    where
      none : ChildrenOf come form.LeftOut [] nodes above rest → ElementOf come form.LeftOut nodes above rest
      none (ks, so_far, shapes, came, ends, bare, b) = absurd cc
  element_so come nodes p form.Missing n above rest children at h = none (children come p form.Missing [] n above rest at h)
    where
      none : ChildrenOf come form.Missing [] nodes above rest → ElementOf come form.Missing nodes above rest
      none (ks, so_far, shapes, came, ends, bare, b) = absurd cc

  -- an element of a slot begins
  abbrev pub StartedSo : ℕ → (f : Form P Simple) (before : List ℕ) (n : Expanded) (attributes : List Entry) (above : List (Level P)) (items : List Item) → Comes f before n.local → Type 0
  StartedSo come f before n attributes above items c =
      (0 < come → AreKnown m.forms (m.forms c.1.target) attributes) × MayFollow m (come - 1) (begun_level (m.forms c.1.target) ∷ Parent f (before ++ c.0 ∷ []) ∷ above) items

  start_so : (come : ℕ) (f : Form P Simple) (before : List ℕ) (n : Expanded) (attributes : List Entry) (above : List (Level P)) (items : List Item) → MayFollow m come (Parent f before ∷ above) (Starts n attributes ∷ items)
      → (n.namespace ≡ m.namespace) × ((c : Comes f before n.local) × StartedSo come f before n attributes above items c)
  start_so come f before n attributes above items h =
      let place : (bytes_eq n.namespace m.namespace ≡ true) × (next_fault (path_in above) f (next f before n.local) ≡ None) = if_else _ _ _ h.0.0 in
      ((bytes_eq-Decides n.namespace m.namespace).0 place.0, of_comes h.0.1 (comes (path_in above) f before n.local place.1))
    where
      of_comes : (0 < come → AttributeFault m (form_of_start m (Parent f before ∷ above) n) attributes (path_in (round_start (Parent f before ∷ above) n)) None) → Comes f before n.local → (c : Comes f before n.local) × StartedSo come f before n attributes above items c
      of_comes known (k, s, found, tag, fine, slotted) = ((k, s, found, tag, fine, slotted), ((λ some. known_in (m.forms s.target) attributes _ (rw (slotted, found) at (known some))), rw (slotted, found) at h.1))

  named_is : (n : Expanded) (a b : List ℕ) → n.namespace ≡ a → n.local ≡ b → n ≡ name_in_namespace a b
  named_is n a b p q = rw (← p, ← q) refl

  text_so_far : (come : ℕ) (f : Form P Simple) (ks : Shapes) (c : ℕ) (more : Nodes) → IsSpace c → ContentSoFar m.forms m.namespace (come - 1) f (Component ks) more → ContentSoFar m.forms m.namespace come f (Component ks) (Text c more)
  text_so_far come f Nothing c more s h = (s, h)
  text_so_far come f (Child k v ks) c more s h = (s, h)

  children_so : (nodes : Nodes) → ChildrenSo nodes
  children_so tree.Nothing come p f before n above rest at h = (Nothing, tt, tt, tt, rw append-nil h.0, inr refl, (come - 1, refl, h.1))
  children_so (Text c more) come p f before n above rest at h = of_children (children_so more (come - 1) p f before n above rest at h.1)
    where
      here : (is_bare f ≡ false) × (is_space c ≡ true)
      here = bare_in _ _ (space_in _ _ h.0)

      of_children : ChildrenOf (come - 1) f before more above rest → ChildrenOf come f before (Text c more) above rest
      of_children (ks, so_far, shapes, came, ends, bare, (left, count, may)) = (ks, text_so_far come f ks c more (space_of c here.1) so_far, shapes, came, ends, inl here.0, (left, omega (arith, count), may))
  children_so (Element n attributes inner more) come p f before k above rest at h =
      of_start (start_so come f before n attributes above (flat_nodes inner ++ (Ends n ∷ (flat_nodes more ++ (Ends k ∷ rest)))) (rw (append_assoc (flat_nodes inner) (Ends n ∷ flat_nodes more) (Ends k ∷ rest)) at h))
      (children_so inner) (λ left before. children_so more left p f before k above rest at)
    where
      of_start : ((n.namespace ≡ m.namespace) × ((c : Comes f before n.local) × StartedSo come f before n attributes above (flat_nodes inner ++ (Ends n ∷ (flat_nodes more ++ (Ends k ∷ rest)))) c))
          → ChildrenSo inner → ((left : ℕ) (before : List ℕ) → MayFollow m left (Parent f before ∷ above) (flat_nodes more ++ (Ends k ∷ rest)) → ChildrenOf left f before more above rest) → ChildrenOf come f before (Element n attributes inner more) above rest
      of_start (space, ((j, s, found, tag, fine, slotted), (known, may))) inside later =
          of_element (element_so (come - 1) inner s.target (m.forms s.target) n (Parent f (before ++ j ∷ []) ∷ above) (flat_nodes more ++ (Ends k ∷ rest)) inside refl may)
        where
          of_rest : (v : Shape) (left : ℕ) → left ≡ come - (length (flat_nodes inner) + 2) → HasShape m.forms (m.forms s.target) v → MayHold (m.forms s.target) inner → ContentSoFar m.forms m.namespace (come - 1) (m.forms s.target) v inner
              → ChildrenOf left f (before ++ j ∷ []) more above rest → ChildrenOf come f before (Element n attributes inner more) above rest
          of_rest v left count has holds content (ks, so_far, shapes, came, ends, bare, (left', count', may')) = (
            Child j v ks,
            ((s, found, (named_is n m.namespace s.tag space (sym tag), known, holds, content)), subst (λ (x : ℕ). ContentSoFar m.forms m.namespace x f (Component ks) more) count so_far),
            ((s, found, has), shapes),
            ((s, found, fine), came),
            rw append_assoc at ends,
            inl (not_bare f j s found),
            (left', omega (arith, element_size n attributes inner more, count, count'), may'),
          )

          of_element : ElementOf (come - 1) (m.forms s.target) inner (Parent f (before ++ j ∷ []) ∷ above) (flat_nodes more ++ (Ends k ∷ rest)) → ChildrenOf come f before (Element n attributes inner more) above rest
          of_element (v, has, holds, content, (left, count, may')) = of_rest v left (omega (arith, count)) has holds content (later left (before ++ j ∷ []) may')

  -- the root, before which nothing stands
  pub root_so : (come : ℕ) (t : Tree) → MayFollow m come [] (flat t) → (v : Shape) × HasShape m.forms (m.forms m.root) v × IsSoFar m come v t
  root_so come t h = of_element (element_so (come - 1) t.children m.root (m.forms m.root) t.name [] [] (children_so t.children) refl h.1)
    where
      if_named : (b : Bool) (x : Broken) → cond b None (Some x) ≡ None → b ≡ true
      if_named true x e = refl
      if_named false x e = no_fault x e

      of_element : ElementOf (come - 1) (m.forms m.root) t.children [] [] → (v : Shape) × HasShape m.forms (m.forms m.root) v × IsSoFar m come v t
      of_element (v, has, holds, content, b) = (v, has, record { name = name_in t.name _ (if_named _ _ h.0.0); attributes = λ some. known_in (m.forms m.root) t.attributes (codes "/Document[1]") (h.0.1 some); holds = holds; content = content })
